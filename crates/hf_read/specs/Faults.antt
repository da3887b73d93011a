-- Why a file is refused: the parts that are of no record, but for the limits of a store. Each tells its fault for the least
-- id that has it. Which they are, and their order, is this project's own rule.
use Rattle.std.specs.Prelude.{ℕ, Bool, not, ◌&&◌, List, length, find, nat_lt, ◌==◌, Result}
use Rattle.std.specs.List.{list_any}
use Rattle.hf_base.specs.Entries.{has_id, refuse_if}
use Rattle.hf_base.specs.LocationFaults.{refused}
use Rattle.hf_base.specs.Reading.{◌>>=◌}
use Rattle.hf_base.specs.declared.fault.ReadRefusal.{ReadRefusal}
use Rattle.hf_base.specs.declared.fault.ReadRefusal.TheVariants.{NoPrimary, DanglingNeed, BadProperty, BadDerived, DeriveCycle}
use Rattle.hf_base.specs.declared.loc.RefBox.{RefBox}
use Rattle.hf_derived.specs.Derived.{fits}
use Rattle.hf_prop.specs.declared.assoc.Pick.{Pick}
use Rattle.hf_prop.specs.declared.iprp.Iprp.{Iprp}
use Rattle.hf_prop.specs.declared.prop.Prop.{Prop}
use Rattle.hf_links.specs.Kinds.{is_need}
use Rattle.hf_store.specs.Derived.{inputs, input_pairs}
use Rattle.hf_store.specs.LimitFaults.{first_item}
use Rattle.hf_store.specs.Store.{Item, ids_of}
use Rattle.hf_read.specs.Kept.{picks_of}
use Rattle.hf_read.specs.Walks.{first_walker}

-- ---- parts over the ids of the items, which rise

-- the primary item is none of these
unfoldable pub no_primary_fault : List ℕ → ℕ → Result (Unit {0}) ReadRefusal
no_primary_fault ids primary = refuse_if (not (has_id primary ids)) (NoPrimary primary)

-- references that the item needs, and one of them names no item
abbrev pub is_dangling : List ℕ → ℕ → RefBox → Bool
is_dangling ids id r = (r.from == id) && (is_need r.kind && list_any (λ to. not (has_id to ids)) r.to)

unfoldable pub dangling_need_fault : List ℕ → List RefBox → Result (Unit {0}) ReadRefusal
dangling_need_fault ids links = refused (λ id. DanglingNeed id) (find (λ id. list_any (is_dangling ids id) links) ids)

-- an association is past the last property
abbrev pub is_past : List Prop → Pick → Bool
is_past props p = nat_lt (length props) p.index

unfoldable pub bad_property_fault : List ℕ → Iprp → Result (Unit {0}) ReadRefusal
bad_property_fault ids v = refused (λ id. BadProperty id) (find (λ id. list_any (is_past v.props) (picks_of id v.assocs)) ids)

-- ---- parts over the items, whose ids rise

-- the bytes do not fit the items that the item is made of
abbrev pub is_misfit : Item → Bool
is_misfit i = not (fits i.kind i.bytes (length (inputs i.refs)))

unfoldable pub bad_derived_fault : List Item → Result (Unit {0}) ReadRefusal
bad_derived_fault items = refused (λ id. BadDerived id) (first_item is_misfit items)

-- the item is made of itself, or of one that is
unfoldable pub derive_cycle_fault : List Item → Result (Unit {0}) ReadRefusal
derive_cycle_fault items = refused (λ id. DeriveCycle id) (first_walker (input_pairs items) (ids_of items))

unfoldable pub derived_fault : List Item → Result (Unit {0}) ReadRefusal
derived_fault items = do
  fitting ← bad_derived_fault items
  derive_cycle_fault items
