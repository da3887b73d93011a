-- Bytes that are put behind others, and the parts that they are cut into.
use Rattle.std.proofs.Common.{◌≡◌, ℕ, ◌+◌, List, [], ◌∷◌, ◌++◌, length, length-append, take, drop, map, append_assoc, sym, ap, ◌∙◌, arith}
use Rattle.std.specs.List.{range_with_len}
use Rattle.std.proofs.Math.Seq.{take-append_seam, drop-append_seam}
use Rattle.std.proofs.lemmas.List.FromFn.{map-range_with_len_more}

-- one more byte
pub map-pushed : (f : ℕ → ℕ) (first now new : List ℕ) (j x : ℕ) → now ≡ first ++ map f (range_with_len 0 j) → new ≡ now ++ x ∷ [] → x ≡ f j
    → new ≡ first ++ map f (range_with_len 0 (j + 1))
map-pushed f first now new j x before pushed is =
    pushed
    ∙ ap (λ (xs : List ℕ). xs ++ x ∷ []) before
    ∙ ap (λ (b : ℕ). (first ++ map f (range_with_len 0 j)) ++ b ∷ []) is
    ∙ append_assoc first (map f (range_with_len 0 j)) (f j ∷ [])
    ∙ ap (λ (xs : List ℕ). first ++ xs) (sym (map-range_with_len_more f 0 j j (omega arith)))

-- five lists, one behind the other
pub five-more : (first a b c d e all one two three four five : List ℕ) → one ≡ first ++ a
    → two ≡ one ++ b → three ≡ two ++ c → four ≡ three ++ d → five ≡ four ++ e → all ≡ a ++ b ++ c ++ d ++ e → five ≡ first ++ all
five-more first a b c d e all one two three four five p q r s t is = rw (is, t, s, r, q, p) (simp append_assoc)

-- lists that are equal, and whose fronts are equally long
pub same-parts : (a b c d : List ℕ) → a ++ b ≡ c ++ d → length a ≡ length c → (a ≡ c) × (b ≡ d)
same-parts a b c d e long = (
  sym (take-append_seam a b) ∙ ap (λ (n : ℕ). take n (a ++ b)) long ∙ ap (λ (xs : List ℕ). take (length c) xs) e ∙ take-append_seam c d,
  sym (drop-append_seam a b) ∙ ap (λ (n : ℕ). drop n (a ++ b)) long ∙ ap (λ (xs : List ℕ). drop (length c) xs) e ∙ drop-append_seam c d,
)

-- and lists that are equal, and whose ends are equally long
pub same-ends : (a b c d : List ℕ) → a ++ b ≡ c ++ d → length b ≡ length d → (a ≡ c) × (b ≡ d)
same-ends a b c d e long = same-parts a b c d e (omega (arith, long, ap length e, length-append a b, length-append c d))
