-- The properties of one item, from the first on, come to a table that is being made.
use Rattle.std.proofs.Common.{◌≡◌, ℕ, ◌+◌, ◌<◌, ◌≤◌, List, [], ◌∷◌, ◌++◌, length}
use Rattle.std.proofs.Common.{take, drop, get_or, refl, sym, ap, subst, ◌∙◌, arith, length-append, append_assoc}
use Rattle.std.specs.Prelude.{fold, slice_get, option_map, Some}
use Rattle.std.proofs.lemmas.List.{take_more, take-append-drop, length-take-le, map-append, length-map}
use Rattle.std.proofs.lemmas.List.Sums.{fold_push}
use Rattle.std.proofs.lemmas.Option.{slice_get_read, slice_get-map}
use Rattle.hf_prop.specs.declared.held.Held.{Held}
use Rattle.hf_prop.specs.declared.prop.Prop.{Prop}
use Rattle.hf_table.specs.Held.{props_in}
use Rattle.hf_table.specs.Numbered.{place_of, Stands}
use Rattle.hf_table.specs.Table.{with_prop}
use Rattle.hf_table.proofs.Cuts.{few-so-far}

module _ (held : List Held) (j : ℕ) where
  pub few-before : (keys seen : List Prop) (n : ℕ) → seen ≡ fold with_prop keys (props_in (take j held)) → length (fold with_prop keys (props_in held)) ≤ n
      → length seen ≤ n
  few-before keys seen n is few =
      let parts : props_in held ≡ props_in (take j held) ++ props_in (drop j held) =
      ap props_in (sym (take-append-drop j held)) ∙ map-append (λ (h : Held). h.prop) (take j held) (drop j held) in
      subst (λ l. length l ≤ n) (sym is)
      (few-so-far keys (props_in (take j held)) (props_in (drop j held)) n (subst (λ l. length (fold with_prop keys l) ≤ n) parts few))

  module _ (h : Held) (within : j < length held) (is : h ≡ get_or held j h) (p : Prop) (same : p ≡ h.prop) where
    props-more : props_in (take (j + 1) held) ≡ props_in (take j held) ++ p ∷ []
    props-more =
        ap props_in (take_more held j h within ∙ ap (λ y. take j held ++ y ∷ []) (sym is)) ∙ map-append (λ (g : Held). g.prop) (take j held) (h ∷ [])
        ∙ ap (λ q. props_in (take j held) ++ q ∷ []) (sym same)

    pub all-more : (ps : List Prop) → (ps ++ props_in (take j held)) ++ p ∷ [] ≡ ps ++ props_in (take (j + 1) held)
    all-more ps = append_assoc ps (props_in (take j held)) (p ∷ []) ∙ ap (λ l. ps ++ l) (sym props-more)

    pub seen-next : (keys seen : List Prop) → seen ≡ fold with_prop keys (props_in (take j held))
        → with_prop seen p ≡ fold with_prop keys (props_in (take (j + 1) held))
    seen-next keys seen e =
        ap (λ ks. with_prop ks p) e ∙ sym (fold_push with_prop keys (props_in (take j held)) p) ∙ ap (fold with_prop keys) (sym props-more)

    module _ (lists : List (List Prop)) (i : ℕ) (at : slice_get lists i ≡ Some (props_in held)) where
      pub place-here : (ps : List Prop) → place_of lists i 0 ≡ length ps → place_of lists i j ≡ length (ps ++ props_in (take j held))
      place-here ps here =
          omega (arith, length-append ps (props_in (take j held)), length-map (take j held) (λ (g : Held). g.prop), length-take-le j held (omega arith))

      pub stands-here : Stands lists i j p
      stands-here = record {
        props = props_in held;
        at = at;
        held =
            slice_get-map (λ (g : Held). g.prop) held j ∙ ap (option_map (λ (g : Held). g.prop)) (slice_get_read held (length held) j h refl within is)
            ∙ ap Some (sym same);
      }
