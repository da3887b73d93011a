-- The table of the properties of a store, as a plan has it.
use Rattle.std.proofs.Common.{◌≡◌, ℕ, ◌<◌, ◌≤◌, List, length, map, Some, sym, ap, ◌∙◌, subst}
use Rattle.std.specs.Prelude.{slice_get}
use Rattle.std.specs.List.{flat_map, AllZip, position_or_len}
use Rattle.std.proofs.lemmas.Simd.{map-map}
use Rattle.std.proofs.lemmas.List.Folds.{flat_map-map}
use Rattle.hf_base.specs.declared.limits.TheConstants as limits
use Rattle.hf_table.specs.Held.{all_props}
use Rattle.hf_table.specs.Numbered.{place_of, Stands, IsFirst, IsTableOf}
use Rattle.hf_table.specs.Table.{table}
use Rattle.hf_table.specs.declared.table.Table.{Table}
use Rattle.hf_store.specs.Store.{Prop, Item, ItemStore}
use Rattle.hf_store.specs.Table.{same_prop, number_of, props_of, lists_of, table_of}
use Rattle.hf_store.specs.Valid.{Valid}
use Rattle.hf_table.proofs.Places.{place-there}
use Rattle.hf_store.proofs.Spots.{get_map}
use Rattle.hf_plan.specs.Plan.{numbers_of, IsFirstUse}
use Rattle.hf_plan.specs.Seen.{pieces_at}
use Rattle.hf_plan.proofs.Pieces.{pieces_are}

-- the lists hold the properties of all items
all_lists : (s : ItemStore) → all_props (lists_of s) ≡ flat_map props_of s.items
all_lists s = flat_map-map (λ (ps : List Prop). ps) props_of s.items

pub table-is : (s : ItemStore) → table (all_props (lists_of s)) ≡ table_of s
unfolding table_of
table-is s = ap table (all_lists s)

pub kinds-few : (s : ItemStore) → Valid s → length (table (all_props (lists_of s))) ≤ limits.KINDS
kinds-few s valid = subst (λ (ps : List Prop). length ps ≤ limits.KINDS) (sym (table-is s)) valid.kinds

pub firsts_are : (s : ItemStore) (t : Table) → IsTableOf (lists_of s) t → AllZip (IsFirstUse s) t.firsts.items (table_of s)
unfolding table_of
firsts_are s t is = subst (λ (ps : List Prop). AllZip (IsFirst (lists_of s) ps) t.firsts.items (table ps)) (all_lists s) is.firsts

pub numbers_are : (s : ItemStore) (t : Table) → IsTableOf (lists_of s) t
    → pieces_at t.starts.items t.numbers.items ≡ map (numbers_of (table_of s)) s.items
numbers_are s t is =
    let number : List Prop → Prop → ℕ = λ ps p. number_of p ps in
    pieces_are (number (table (all_props (lists_of s)))) t.starts.items t.numbers.items (lists_of s) is.numbers is.count is.starts
    ∙ ap (λ ps. map (map (number ps)) (lists_of s)) (table-is s) ∙ map-map (map (number (table_of s))) props_of s.items

-- where a property of an item stands first of all
pub first_use : (s : ItemStore) (i j : ℕ) (item : Item) (p : Prop) → place_of (lists_of s) i j ≡ position_or_len (same_prop p) (flat_map props_of s.items)
    → slice_get s.items i ≡ Some item → slice_get (props_of item) j ≡ Some p → IsFirstUse s (i, j) p
first_use s i j item p place here held =
    let stands : Stands (lists_of s) i j p = record { props = props_of item; at = get_map props_of s.items i item here; held = held } in
    let there = place-there (lists_of s) i j p stands in
    record { place = place; there = subst (λ (ps : List Prop). place_of (lists_of s) i j < length ps) (all_lists s) there; stands = stands }
