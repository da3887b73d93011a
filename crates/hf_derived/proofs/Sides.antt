-- Fields of one byte, and a width and a height behind each other.
use Rattle.std.proofs.Common.{◌≡◌, ℕ, zero, suc, ◌+◌, ◌*◌, ◌%◌, ◌^◌, ◌<◌, ◌≤◌, min, Bool, true, false, ◌&&◌, cond, eqb, List, [], ◌∷◌, ◌++◌, length, take, drop, Some, None, refl, sym, ap, subst, ◌∙◌, arith, inl, inr, ◌⊎◌}
use Rattle.std.proofs.Math.Nat.{mod-eq_of_lt}
use Rattle.std.proofs.lemmas.Bool.{cases_Bool, cases_lt}
use Rattle.std.proofs.lemmas.List.{take_at, drop_at, take_all, take-take, drop-take, take-append-drop, drop-append-le, length-append, length-drop, length-take, length-take-le}
use Rattle.hf_base.specs.Number.{IsBytes, num, number}
use Rattle.hf_base.specs.NumberLaws.{num-number, number-num, length-num, number-append, number-below}
use Rattle.hf_base.specs.ReadingLaws.{IsBytes-drop}
use Rattle.hf_derived.specs.Derived.{side}

num-byte : (n : ℕ) → n < 256 ^ 1 → num n 1 ≡ n ∷ []
unfolding num
num-byte n fits = ap (λ (b : ℕ). b ∷ []) (mod-eq_of_lt fits)

-- fields of one byte are their numbers
pub two_bytes : (a b : ℕ) (tail : List ℕ) → a < 256 ^ 1 → b < 256 ^ 1 → num a 1 ++ (num b 1 ++ tail) ≡ a ∷ b ∷ tail
two_bytes a b tail a_fits b_fits = rw (num-byte a a_fits, num-byte b b_fits) refl

pub side_cases : (flags : ℕ) → (side flags ≡ 2) ⊎ (side flags ≡ 4)
side_cases flags = elim (cases_Bool (eqb (flags % 2) 1)) [ inl t ↦ inr (rw t refl) | inr f ↦ inl (rw f refl) ]

-- flags 1 tell of four bytes, and flags 0 of two
pub side_told : (long : Bool) → side (cond long 1 0) ≡ cond long 4 2
side_told true = refl
side_told false = refl

pub flag_fits : (long : Bool) → cond long 1 0 < 256 ^ 1
flag_fits true = omega arith
flag_fits false = omega arith

-- a width and a height that stand behind each other are read
pub record AreAgain (s width height : ℕ) (bytes : List ℕ) : Type 0 where
  pub first : number s bytes ≡ width
  pub second : number s (drop s bytes) ≡ height
  pub long : 2 * s ≤ length bytes

pub two_again : (s width height : ℕ) (rest : List ℕ) → width < 256 ^ s → height < 256 ^ s → AreAgain s width height (num width s ++ (num height s ++ rest))
two_again s width height rest width_fits height_fits = record {
  first = number-num s width (num height s ++ rest) width_fits;
  second = ap (number s) (drop_at (num width s) (num height s ++ rest) s (length-num s width)) ∙ number-num s height rest height_fits;
  long = omega (arith, length-append (num width s) (num height s ++ rest), length-append (num height s) rest, length-num s width, length-num s height);
}

-- ---- bytes of which a front is known

pub IsBytes-take : (n : ℕ) (bytes : List ℕ) → IsBytes bytes → IsBytes (take n bytes)
IsBytes-take zero bytes fits i = omega arith
IsBytes-take (suc n) [] fits i = omega arith
IsBytes-take (suc n) (b ∷ bytes) fits zero = fits 0
IsBytes-take (suc n) (b ∷ bytes) fits (suc i) = IsBytes-take n bytes (λ j. fits (suc j)) i

pub part_fits : (n at w : ℕ) (bytes : List ℕ) → at + w ≤ n → IsBytes (take n bytes) → IsBytes (take w (drop at bytes))
part_fits n at w bytes within fits =
    let few : IsBytes (take (at + w) bytes) = subst (λ (l : List ℕ). IsBytes l) (take-take (at + w) n bytes within) (IsBytes-take (at + w) (take n bytes) fits) in
    subst (λ (l : List ℕ). IsBytes l) (drop-take at w bytes) (IsBytes-drop at (take (at + w) bytes) few)

-- a number is that of its own bytes
own_bytes : (w : ℕ) (bytes : List ℕ) → w ≤ length bytes → number w bytes ≡ number w (take w bytes)
own_bytes w bytes long = ap (number w) (sym (take-append-drop w bytes)) ∙ number-append w (take w bytes) (drop w bytes) (omega (arith, length-take-le w bytes long))

num-part : (w : ℕ) (bytes : List ℕ) → w ≤ length bytes → IsBytes (take w bytes) → num (number w bytes) w ≡ take w bytes
num-part w bytes long fits =
    let size : length (take w bytes) ≡ w = length-take-le w bytes long in
    ap (λ (n : ℕ). num n w) (own_bytes w bytes long) ∙ num-number w (take w bytes) fits (omega arith) ∙ take_all w (take w bytes) (omega arith)

pub below-part : (w : ℕ) (bytes : List ℕ) → w ≤ length bytes → IsBytes (take w bytes) → number w bytes < 256 ^ w
below-part w bytes long fits = subst (λ (n : ℕ). n < 256 ^ w) (sym (own_bytes w bytes long)) (number-below w (take w bytes) fits)

-- a width and a height that are read stand there
pub record Stand (s : ℕ) (bytes : List ℕ) : Type 0 where
  pub parts : bytes ≡ num (number s bytes) s ++ (num (number s (drop s bytes)) s ++ drop s (drop s bytes))
  pub first : number s bytes < 256 ^ s
  pub second : number s (drop s bytes) < 256 ^ s

pub two_stand : (n s : ℕ) (bytes : List ℕ) → 2 * s ≤ n → 2 * s ≤ length bytes → IsBytes (take n bytes) → Stand s bytes
two_stand n s bytes within long fits =
    let behind = drop s (drop s bytes) in
    let less : s ≤ length bytes = omega arith in
    let more : s ≤ length (drop s bytes) = omega (arith, length-drop s bytes) in
    let a : IsBytes (take s bytes) = part_fits n 0 s bytes (omega arith) fits in
    let b : IsBytes (take s (drop s bytes)) = part_fits n s s bytes (omega arith) fits in
    record {
      parts = sym (ap (λ (l : List ℕ). l ++ (num (number s (drop s bytes)) s ++ behind)) (num-part s bytes less a)
          ∙ ap (λ (l : List ℕ). take s bytes ++ (l ++ behind)) (num-part s (drop s bytes) more b)
          ∙ ap (λ (l : List ℕ). take s bytes ++ l) (take-append-drop s (drop s bytes))
          ∙ take-append-drop s bytes);
      first = below-part s bytes less a;
      second = below-part s (drop s bytes) more b;
    }

-- ---- the front of bytes

-- a number within the front of bytes is that of the bytes
pub number_front : (s at n : ℕ) (bytes : List ℕ) → at + s ≤ n → at + s ≤ length bytes → number s (drop at (take n bytes)) ≡ number s (drop at bytes)
number_front s at n bytes within long =
    let front = take n bytes in
    let size : length front ≡ min n (length bytes) = length-take n bytes in
    let parts : drop at bytes ≡ drop at front ++ drop n bytes = ap (drop at) (sym (take-append-drop n bytes)) ∙ drop-append-le at front (drop n bytes) (omega arith) in
    sym (ap (number s) parts ∙ number-append s (drop at front) (drop n bytes) (omega (arith, length-drop at front)))

-- the filled part of a buffer is the front of the bytes that were copied to it
filled_is : (bytes room : List ℕ) (n : ℕ) → n ≡ min (length bytes) (length room) → take n (take n bytes ++ drop n room) ≡ take (length room) bytes
filled_is bytes room n count =
    let kept : take n (take n bytes ++ drop n room) ≡ take n bytes = take_at (take n bytes) (drop n room) n (length-take-le n bytes (omega arith)) in
    elim (cases_lt (length bytes) (length room)) [
      | inl less ↦ kept ∙ take_all n bytes (omega arith) ∙ sym (take_all (length room) bytes (omega arith))
      | inr more ↦ kept ∙ ap (λ (k : ℕ). take k bytes) (let e : n ≡ length room = omega arith in e)
    ]

pub front_is : (bytes room out : List ℕ) (n : ℕ) → n ≡ min (length bytes) (length room) → out ≡ take n bytes ++ drop n room → take n out ≡ take (length room) bytes
front_is bytes room out n count is = ap (take n) is ∙ filled_is bytes room n count

-- ---- choices

pub some_if : {A : Type 0} (test : Bool) (x y : A) → cond test (Some x) None ≡ Some y → (test ≡ true) × (x ≡ y)
some_if true x y e = (refl, cc)
some_if false x y e = absurd cc

-- a test that fails chooses no value
pub unmet : {A : Type 0} (first second : Bool) (x y : A) → second ≡ false → cond (first && second) (Some x) None ≡ cond (first && second) (Some y) None
unmet true second x y f = rw f refl
unmet false second x y f = refl

pub unmet_is : {A : Type 0} (first second : Bool) (x : A) → second ≡ false → cond (first && second) (Some x) None ≡ None
unmet_is true second x f = rw f refl
unmet_is false second x f = refl
