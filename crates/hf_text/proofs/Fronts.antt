-- Words that begin as others do.
use Rattle.std.proofs.Common.{◌≡◌, ◌≤◌, ◌+◌, ℕ, suc, List, [], ◌∷◌, ◌++◌, length, take, drop, zero, refl, sym, ap, subst, ◌∙◌, arith, length-append}
use Rattle.std.proofs.lemmas.List.{take_at, take-take, take-append-le, take-append-drop, append_cancel_left}
use Rattle.std.proofs.Math.Seq.{take-append-add}

-- the first k words of both are the same
pub record Fronts (k : ℕ) (words whole : List (List ℕ)) : Type 0 where
  pub same : take k words ≡ take k whole
  pub within : k ≤ length words
  pub short : k ≤ length whole

pub Fronts-none : (words whole : List (List ℕ)) → Fronts 0 words whole
Fronts-none words whole = record { same = refl; within = omega arith; short = omega arith }

pub Fronts-left : {k : ℕ} {words : List (List ℕ)} (a b : List (List ℕ)) → k ≤ length a → Fronts k words (a ++ b) → Fronts k words a
Fronts-left {k = k} a b small f = record { same = f.same ∙ take-append-le k a b small; within = f.within; short = small }

pub Fronts-wider : {k : ℕ} {words a : List (List ℕ)} (b : List (List ℕ)) → Fronts k words a → Fronts k words (a ++ b)
Fronts-wider {k = k} {a = a} b f = record {
  same = f.same ∙ sym (take-append-le k a b f.short);
  within = f.within;
  short = omega
      (arith, length-append a b, f.short);
}

-- words that begin as a, and go on
pub Fronts-past : {k : ℕ} {words : List (List ℕ)} (a b : List (List ℕ)) → length a ≤ k → Fronts k words (a ++ b) → words ≡ a ++ drop (length a) words
Fronts-past {k = k} {words = words} a b long f =
    let first : take (length a) words ≡ a = sym (take-take (length a) k words long) ∙ ap (take (length a)) f.same ∙ take-take (length a) k (a ++ b) long
    ∙ take_at a b (length a) refl in
    sym (take-append-drop (length a) words) ∙ ap (λ (l : List (List ℕ)). l ++ drop (length a) words) first

pub Fronts-flip : {k : ℕ} {words whole : List (List ℕ)} → Fronts k words whole → Fronts k whole words
Fronts-flip f = record { same = sym f.same; within = f.short; short = f.within }

pub Fronts-more : {k : ℕ} {words whole : List (List ℕ)} (a : List (List ℕ)) → Fronts k words whole → Fronts (length a + k) (a ++ words) (a ++ whole)
Fronts-more {k = k} {words = words} {whole = whole} a f = record {
  same = take-append-add a words k ∙ ap (λ (l : List (List ℕ)). a ++ l) f.same ∙ sym (take-append-add a whole k);
  within = omega (arith, length-append a words, f.within);
  short = omega (arith, length-append a whole, f.short);
}

pub Fronts-less : (k : ℕ) {words whole : List (List ℕ)} (a : List (List ℕ)) → Fronts (length a + k) (a ++ words) (a ++ whole) → Fronts k words whole
Fronts-less k {words = words} {whole = whole} a f = record {
  same = append_cancel_left a _ _ (sym (take-append-add a words k) ∙ f.same ∙ take-append-add a whole k);
  within = omega (arith, length-append a words, f.within);
  short = omega (arith, length-append a whole, f.short);
}

-- p is behind `at` by the greatest number of which P holds
pub record StopsAt (P : ℕ → Type 0) (at p : ℕ) : Type 0 where
  pub k : ℕ
  pub place : p ≡ at + k
  pub begins : P k
  pub most : (j : ℕ) → P j → j ≤ k

-- fewer words of the same
pub Fronts-fewer : {j : ℕ} {words whole : List (List ℕ)} (k : ℕ) → k ≤ j → Fronts j words whole → Fronts k words whole
Fronts-fewer {j = j} {words = words} {whole = whole} k few f = record {
  same = sym (take-take k j words few) ∙ ap (take k) f.same ∙ take-take k j whole few;
  within = omega (arith, f.within);
  short = omega (arith, f.short);
}

-- the first word of both is the same, and so are those behind it
pub Fronts-first : {j : ℕ} {word first : List ℕ} {words others : List (List ℕ)} → Fronts (suc j) (word ∷ words) (first ∷ others) → first ≡ word
Fronts-first f = let front = f.same in cc

pub Fronts-behind : {j : ℕ} {word first : List ℕ} {words others : List (List ℕ)} → Fronts (suc j) (word ∷ words) (first ∷ others) → Fronts j words others
Fronts-behind f = record { same = let front = f.same in cc; within = omega (arith, f.within); short = omega (arith, f.short) }

pub Fronts-drop : (n k : ℕ) (words others : List (List ℕ)) → Fronts (n + k) words others → Fronts k (drop n words) (drop n others)
Fronts-drop zero k words others f = let same : 0 + k ≡ k = omega arith in subst (λ (n : ℕ). Fronts n words others) same f
Fronts-drop (suc n) k [] others f = absurd (omega (arith, f.within))
Fronts-drop (suc n) k (word ∷ words) [] f = absurd (omega (arith, f.short))
Fronts-drop (suc n) k (word ∷ words) (first ∷ others) f =
    let one : suc n + k ≡ suc (n + k) = omega arith in
    Fronts-drop n k words others (Fronts-behind (subst (λ (n : ℕ). Fronts n (word ∷ words) (first ∷ others)) one f))
