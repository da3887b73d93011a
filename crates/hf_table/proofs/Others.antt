-- The properties of items that are not listed, where the items are gone through from the first on.
use Rattle.std.proofs.Common.{◌≡◌, ℕ, true, false, not, cond, List, [], ◌∷◌, ◌++◌, sym, ap, ◌∙◌}
use Rattle.std.specs.List.{flat_map}
use Rattle.std.proofs.lemmas.List.{append-nil}
use Rattle.std.proofs.lemmas.List.Elements.{filter-append}
use Rattle.std.proofs.lemmas.Grind.{flat_map-append}
use Rattle.hf_prop.specs.declared.prop.Prop.{Prop}
use Rattle.hf_table.specs.Held.{is_among, others, props_of_others}

module _ {A : Type 0} (id_of : A → ℕ) (props_of : A → List Prop) (ids : List ℕ) where
  pub others-join : (xs ys : List A)
      → props_of_others id_of props_of ids (xs ++ ys) ≡ props_of_others id_of props_of ids xs ++ props_of_others id_of props_of ids ys
  others-join xs ys =
      ap (λ l. flat_map props_of l) (filter-append (λ (i : A). not (is_among ids (id_of i))) xs ys)
      ∙ flat_map-append props_of (others id_of ids xs) (others id_of ids ys)

  -- of an item whose id is told
  module _ (i : A) (id : ℕ) (told : id ≡ id_of i) where
    pub others-one : false ≡ is_among ids id → props_of_others id_of props_of ids (i ∷ []) ≡ props_of i
    others-one unlisted =
        ap (λ b. flat_map props_of (cond (not b) (i ∷ []) [])) (ap (is_among ids) (sym told) ∙ sym unlisted) ∙ append-nil (props_of i)

    pub others-none : true ≡ is_among ids id → props_of_others id_of props_of ids (i ∷ []) ≡ []
    others-none listed = ap (λ b. flat_map props_of (cond (not b) (i ∷ []) [])) (ap (is_among ids) (sym told) ∙ sym listed)
