-- A list that is mapped, item by item.
use Rattle.std.proofs.Common.{◌≡◌, ℕ, ◌+◌, ◌≤◌, List, [], ◌∷◌, ◌++◌, length, map, drop, sym, ap, ◌∙◌, append_assoc, Some}
use Rattle.std.specs.Prelude.{slice_get}
use Rattle.std.proofs.lemmas.List.{drop_all, append-nil}
use Rattle.hf_store.proofs.Spots.{drop_here}

pub mapped_here : {A B : Type 0} (f : A → B) (xs : List A) (k : ℕ) (x : A) (out after whole : List B) (y : B) → slice_get xs k ≡ Some x
    → after ≡ out ++ y ∷ [] → f x ≡ y
    → out ++ map f (drop k xs) ≡ whole → after ++ map f (drop (k + 1) xs) ≡ whole
mapped_here f xs k x out after whole y e put same so_far =
    ap (λ ys. ys ++ map f (drop (k + 1) xs)) (put ∙ ap (λ z. out ++ z ∷ []) (sym same))
    ∙ append_assoc out (f x ∷ []) (map f (drop (k + 1) xs))
    ∙ ap (λ ys. out ++ map f ys) (sym (drop_here xs k x e)) ∙ so_far

pub mapped_end : {A B : Type 0} (f : A → B) (xs : List A) (k : ℕ) (out whole : List B) → length xs ≤ k
    → out ++ map f (drop k xs) ≡ whole → out ≡ whole
mapped_end f xs k out whole h so_far = sym (ap (λ ys. out ++ map f ys) (drop_all k xs h) ∙ append-nil out) ∙ so_far
