-- What a store has whose `meta` is measured, of any length.
use Rattle.std.specs.Prelude.{◌≤◌, List, length}
use Rattle.std.specs.List.{AllByRecursion, flat_map}
use Rattle.hf_base.specs.declared.limits.TheConstants as limits
use Rattle.hf_store.specs.Sizes.{AllRefs, IsFourItem, IsFourProp, IsFourGroup, IsShortList}
use Rattle.hf_store.specs.Store.{Item, Group}
use Rattle.hf_store.specs.Table.{props_of}
use Rattle.hf_table.specs.Table.{table}

-- types of four bytes, reference lists whose boxes have headers of eight bytes, and no more distinct properties than a store may
-- have
pub record IsMeasurable (is : List Item) (gs : List Group) : Type 0 where
  pub items : AllByRecursion IsFourItem is
  pub lists : AllRefs IsShortList is
  pub props : AllByRecursion IsFourProp (table (flat_map props_of is))
  pub kinds : length (table (flat_map props_of is)) ≤ limits.KINDS
  pub groups : AllByRecursion IsFourGroup gs
