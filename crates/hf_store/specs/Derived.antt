-- Derived items (ISO/IEC 23008-12): what they are made of.
use Rattle.std.specs.Prelude.{ℕ, List, [], ◌∷◌, map, if◌then◌else◌}
use Rattle.std.specs.List.{flat_map}
use Rattle.hf_box.specs.Walk.{is_kind}
use Rattle.hf_box.specs.Literals.{four}
use Rattle.hf_store.specs.Store.{RefList, Item}
pub use Rattle.hf_derived.specs.Derived.{side, fits}
pub use Rattle.hf_order.specs.Order.{IsEndless}

-- the ids of the items that an item is made of: its references of type `dimg`
abbrev pub inputs : List RefList → List ℕ
inputs [] = []
inputs (r ∷ rs) = if is_kind r.kind (four "dimg") then r.to else inputs rs

-- each item's id with each id that it is made of
abbrev pub input_pairs : List Item → List (ℕ × ℕ)
input_pairs is = flat_map (λ (i : Item). map (λ to. (i.id, to)) (inputs i.refs)) is
