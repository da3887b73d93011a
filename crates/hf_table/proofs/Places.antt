-- What a table says of the place of a property.
use Rattle.std.proofs.Common.{◌≡◌, ℕ, ◌+◌, ◌<◌, List, length, take, get_or, map, sym, ap, subst, ◌∙◌, arith}
use Rattle.std.proofs.lemmas.Option.{get_or_from_slice_get, slice_get_within}
use Rattle.std.proofs.lemmas.List.{get_or-map}
use Rattle.std.proofs.lemmas.List.Concat.{get_or-flat_map}
use Rattle.std.proofs.lemmas.List.Folds.{length-flat_map-take}
use Rattle.hf_prop.specs.declared.prop.Prop.{Prop}
use Rattle.hf_table.specs.Held.{all_props}
use Rattle.hf_table.specs.Numbered.{place_of, Stands}
use Rattle.hf_table.specs.Table.{number_of}

module _ (lists : List (List Prop)) (i j : ℕ) (p : Prop) (s : Stands lists i j p) where
  pub list-there : i < length lists
  list-there = slice_get_within lists i s.props s.at

  list-is : get_or lists i s.props ≡ s.props
  list-is = get_or_from_slice_get lists i s.props s.props s.at

  prop-there : j < length (get_or lists i s.props)
  prop-there = subst (λ ps. j < length ps) (sym list-is) (slice_get_within s.props j p s.held)

  pub place-there : place_of lists i j < length (all_props lists)
  place-there = let m = length-flat_map-take (λ (ps : List Prop). ps) lists i s.props list-there in let w = prop-there in omega arith

  place-is : get_or (all_props lists) (place_of lists i j) p ≡ p
  place-is =
      get_or-flat_map (λ (ps : List Prop). ps) lists i j s.props p list-there prop-there
      ∙ ap (λ ps. get_or ps j p) list-is ∙ get_or_from_slice_get s.props j p p s.held

  pub number-at : (ns : List ℕ) (ps : List Prop) (start d : ℕ) → ns ≡ map (λ q. number_of q ps) (all_props lists) → start ≡ length (all_props (take i lists))
      → get_or ns (start + j) d ≡ number_of p ps
  number-at ns ps start d numbers starts =
      (λ k. get_or (numbers k) (starts k + j) d) ∙ get_or-map (λ q. number_of q ps) (all_props lists) (place_of lists i j) p d place-there
      ∙ ap (λ q. number_of q ps) place-is
