-- The string at the front of bytes is the one that stands there.
use Rattle.std.proofs.Common.{◌≡◌, ℕ, suc, ◌+◌, ◌<◌, Bool, true, false, not, List, [], ◌∷◌, ◌++◌, take, drop, eqb, cond, refl, ap, ◌∙◌, append_assoc, arith, inl, inr}
use Rattle.std.specs.List.{before_first, after_first, position_or_len}
use Rattle.std.proofs.lemmas.Bool.{eqb-true, cases_Bool}
use Rattle.hf_base.specs.Number.{num}
use Rattle.hf_base.specs.Entries.{HasNoZero}
use Rattle.hf_box.specs.Written.{zero_ended}
use Rattle.hf_info.specs.Texts.{IsText, text_at, behind_text}

abbrev is_zero : ℕ → Bool
is_zero byte = eqb byte 0

before-cons : (x : ℕ) (xs : List ℕ) → before_first is_zero (x ∷ xs) ≡ cond (is_zero x) [] (x ∷ before_first is_zero xs)
before-cons x xs = by (is_zero x)
  where
    by : (b : Bool) → take (cond (not b) (1 + position_or_len is_zero xs) 0) (x ∷ xs) ≡ cond b [] (x ∷ before_first is_zero xs)
    by true = refl
    by false = let e : 1 + position_or_len is_zero xs ≡ suc (position_or_len is_zero xs) = omega arith in ap (λ n. take n (x ∷ xs)) e

after-cons : (x : ℕ) (xs : List ℕ) → after_first is_zero (x ∷ xs) ≡ cond (is_zero x) xs (after_first is_zero xs)
after-cons x xs = by (is_zero x)
  where
    by : (b : Bool) → drop (cond (not b) (1 + position_or_len is_zero xs) 0 + 1) (x ∷ xs) ≡ cond b xs (after_first is_zero xs)
    by true = refl
    by false = let e : 1 + position_or_len is_zero xs + 1 ≡ suc (position_or_len is_zero xs + 1) = omega arith in ap (λ n. drop n (x ∷ xs)) e

pub not_zero : (x : ℕ) → 0 < x → is_zero x ≡ false
not_zero x h = grind (arith, h)

-- a string that a zero byte ends
zero_ended_again : (text rest : List ℕ) → HasNoZero text → (text_at (text ++ 0 ∷ rest) ≡ text) × (behind_text (text ++ 0 ∷ rest) ≡ rest)
zero_ended_again [] rest h = (before-cons 0 rest, after-cons 0 rest)
zero_ended_again (x ∷ xs) rest h =
    let more = zero_ended_again xs rest h.1 in
    let some = not_zero x h.0 in
    (before-cons x (xs ++ 0 ∷ rest) ∙ rw (some, more.0) refl, after-cons x (xs ++ 0 ∷ rest) ∙ rw (some, more.1) refl)

-- and one that its box ends
whole_again : (text : List ℕ) → HasNoZero text → (text_at text ≡ text) × (behind_text text ≡ [])
whole_again [] h = (refl, refl)
whole_again (x ∷ xs) h =
    let more = whole_again xs h.1 in
    let some = not_zero x h.0 in
    (before-cons x xs ∙ rw (some, more.0) refl, after-cons x xs ∙ rw (some, more.1) refl)

pub text_again : (bytes text rest : List ℕ) → IsText bytes text rest → (text_at bytes ≡ text) × (behind_text bytes ≡ rest)
unfolding num
text_again bytes text rest (clean, inl is) = rw is (zero_ended_again text rest clean)
text_again bytes text rest (clean, inr (is, end)) = rw (is, end) (whole_again text clean)

-- all bytes begin with a string
pub text_take : (bytes : List ℕ) → IsText bytes (text_at bytes) (behind_text bytes)
unfolding num
text_take [] = (tt, inr (refl, refl))
text_take (x ∷ xs) = elim (cases_Bool (is_zero x)) [
  | inl t ↦
      let zero_byte : x ≡ 0 = eqb-true x 0 t in
      let text : text_at (x ∷ xs) ≡ [] = before-cons x xs ∙ rw t refl in
      let rest : behind_text (x ∷ xs) ≡ xs = after-cons x xs ∙ rw t refl in
      rw (text, rest) (tt, inl (ap (λ (y : ℕ). y ∷ xs) zero_byte))
  | inr f ↦
      let more = text_take xs in
      let some : 0 < x = grind (arith, f) in
      let text : text_at (x ∷ xs) ≡ x ∷ text_at xs = before-cons x xs ∙ rw f refl in
      let rest : behind_text (x ∷ xs) ≡ behind_text xs = after-cons x xs ∙ rw f refl in
      rw (text, rest) (
        (some, more.0),
        elim more.1 [
          | inl is ↦ inl (ap (λ (l : List ℕ). x ∷ l) is)
          | inr is ↦ inr (ap (λ (l : List ℕ). x ∷ l) is.0, is.1)
        ],
      )
]

-- a string as it is written, with bytes behind it
pub text_written : (text rest : List ℕ) → HasNoZero text → IsText (zero_ended text ++ rest) text rest
text_written text rest clean = (clean, inl (append_assoc text (num 0 1) rest))
