-- The properties of the first items, while their uses are counted.
use Rattle.std.proofs.Common.{◌≡◌, ℕ, zero, suc, ◌+◌, ◌<◌, ◌≤◌, List, [], ◌∷◌, ◌++◌, length, map, take, drop, refl, sym, ap, ◌∙◌, subst, arith, Some}
use Rattle.std.specs.Prelude.{slice_get}
use Rattle.std.specs.List.{AllByRecursion, flat_map}
use Rattle.std.proofs.lemmas.Grind.{flat_map-append}
use Rattle.std.proofs.lemmas.List.Elements.{All-from_recursion}
use Rattle.std.proofs.lemmas.List.{append-nil, take_more, take-append-drop, length-map, length-take}
use Rattle.hf_base.specs.declared.limits.TheConstants as limits
use Rattle.hf_prop.specs.declared.prop.Prop.{Prop}
use Rattle.hf_store.specs.Store.{Held, Item}
use Rattle.hf_store.specs.Table.{props_of}
use Rattle.hf_table.specs.Held.{all_props}
use Rattle.hf_table.specs.Table.{places_of, table, size_sum}
use Rattle.hf_table.specs.Uses.{Use, Tallies, Gains, IsCount, HasRoom}
use Rattle.hf_table.proofs.Rooms.{limits_leave_room}
use Rattle.hf_table.proofs.Tally.{places-append}
use Rattle.hf_store.proofs.CutTables.{without_some}
use Rattle.hf_store.proofs.Spots.{at_or, within_at, drop_here, holds_here}

pub all-mapped : (is : List Item) → all_props (map props_of is) ≡ flat_map props_of is
all-mapped [] = refl
all-mapped (i ∷ is) = ap (λ ps. props_of i ++ ps) (all-mapped is)

short_front : (is : List Item) (n k : ℕ) → AllByRecursion (λ (i : Item). length i.props ≤ n) is → AllByRecursion (λ (ps : List Prop). length ps ≤ n) (map props_of (take k is))
short_front [] n zero short = tt
short_front [] n (suc k) short = tt
short_front (i ∷ is) n zero short = tt
short_front (i ∷ is) n (suc k) short = (omega (arith, short.0, length-map i.props (λ (h : Held). h.prop)), short_front is n k short.1)

less_front : (before ps : List Prop) → size_sum (table before) ≤ size_sum (table (before ++ ps))
less_front before ps = simp append-nil at ((without_some before ps []).bytes)

module _ (is : List Item) (k : ℕ) (i : Item) (here : slice_get is k ≡ Some i) where
  within : k < length is
  within = within_at is k i here

  -- those so far, and of one item more
  pub next_props : flat_map props_of (take (k + 1) is) ≡ flat_map props_of (take k is) ++ props_of i
  next_props = ap (flat_map props_of) (take_more is k i within ∙ ap (λ j. take k is ++ j ∷ []) (at_or is k i i here)) ∙ flat_map-append props_of (take k is) (i ∷ []) ∙ ap (λ ps. flat_map props_of (take k is) ++ ps) (append-nil (props_of i))

  -- they are the front of all
  front : flat_map props_of is ≡ flat_map props_of (take k is) ++ flat_map props_of (drop k is)
  front = ap (flat_map props_of) (sym (take-append-drop k is)) ∙ flat_map-append props_of (take k is) (drop k is)

  pub so_far_less : size_sum (table (flat_map props_of (take k is))) ≤ size_sum (table (flat_map props_of is))
  so_far_less = subst (λ ps. size_sum (table (flat_map props_of (take k is))) ≤ size_sum (table ps)) (sym front) (less_front (flat_map props_of (take k is)) (flat_map props_of (drop k is)))

  pub among_all : (q : Prop) → places_of q (props_of i) ≤ places_of q (flat_map props_of is)
  among_all q =
      let whole = ap (places_of q) front ∙ places-append q (flat_map props_of (take k is)) (flat_map props_of (drop k is)) in
      let behind = ap (λ js. places_of q (flat_map props_of js)) (drop_here is k i here) ∙ places-append q (props_of i) (flat_map props_of (drop (k + 1) is)) in
      omega (arith, whole, behind)

  pub has_room : (us : List Use) → IsCount us → Tallies us (flat_map props_of (take k is)) → length is ≤ limits.ITEMS → AllByRecursion (λ (j : Item). length j.props ≤ limits.PROPS) is → size_sum (table (flat_map props_of is)) ≤ limits.META → HasRoom us (props_of i)
  has_room us count tallies few short light =
      let so_far = take k is in
      limits_leave_room us (map props_of so_far) (props_of i) (flat_map props_of is) count (subst (Tallies us) (sym (all-mapped so_far)) tallies)
      (omega (arith, few, length-map so_far props_of, length-take k is)) (All-from_recursion (λ (ps : List Prop). length ps ≤ limits.PROPS) (map props_of so_far) (short_front is limits.PROPS k short))
      (subst (λ ps. size_sum (table ps) ≤ limits.META) (sym (all-mapped so_far)) (omega (arith, so_far_less, light)))
      (omega (arith, holds_here (λ (j : Item). length j.props ≤ limits.PROPS) is k i short here, length-map i.props (λ (h : Held). h.prop))) among_all light

pub next_tallies : (is : List Item) (k : ℕ) (i : Item) → slice_get is k ≡ Some i → (us new : List Use) → Tallies us (flat_map props_of (take k is)) → Gains us (props_of i) new → Tallies new (flat_map props_of (take (k + 1) is))
next_tallies is k i here us new so_far gains = record {
  each = λ q. omega (arith, so_far.each q, gains.each q, ap (places_of q) (next_props is k i here), places-append q (flat_map props_of (take k is)) (props_of i));
}
