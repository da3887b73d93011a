-- The layout of a store in a file, as a relation.
use Rattle.std.specs.Prelude.{ℕ, ◌≡◌, ◌^◌, ◌<◌, Bool, List, length, if◌then◌else◌}
use Rattle.std.specs.List.{AllByRecursion}
use Rattle.hf_store.specs.Store.{Prop, Held, Item, Group, ItemStore}
use Rattle.hf_store.specs.declared.item.RefList.{RefList}
use Rattle.hf_box.specs.Written.{id_width}
use Rattle.hf_store.specs.Table.{table_of, number_of}
use Rattle.hf_prop.specs.Iprp.{is_long_table}
use Rattle.hf_store.specs.Layout.{Homes, own, is_wide, with_bytes, offset_of, laid}

-- ---- each number that is written is below 256 ^ its width

abbrev pub IsWrittenRef : Bool → RefList → Type 0
IsWrittenRef wide r = (length r.to < 256 ^ 2) × AllByRecursion (λ id. id < 256 ^ id_width wide) r.to

-- a property's number fits the bits that an association leaves to it
abbrev pub IsWrittenNumber : List Prop → Held → Type 0
IsWrittenNumber table h = number_of h.prop table < (if is_long_table table then 2 ^ 15 else 2 ^ 7)

pub record IsWrittenItem (wide : Bool) (table : List Prop) (i : Item) : Type 0 where
  pub id : i.id < 256 ^ id_width wide
  pub props : length i.props < 256 ^ 1
  pub numbers : AllByRecursion (IsWrittenNumber table) i.props
  pub refs : AllByRecursion (IsWrittenRef wide) i.refs

pub record IsWrittenGroup (g : Group) : Type 0 where
  pub version : g.version < 256 ^ 1
  pub flags : g.flags < 256 ^ 3
  pub id : g.id < 256 ^ 4
  pub count : length g.entities < 256 ^ 4
  pub entities : AllByRecursion (λ id. id < 256 ^ 4) g.entities

-- the offset and the length in an entry of `iloc`
pub record IsWrittenExtent (home : Homes) (w file_len : ℕ) (is : List Item) (i : Item) : Type 0 where
  pub offset : offset_of home file_len is i < 256 ^ w
  pub length : length i.bytes < 256 ^ w

-- in a file of so many bytes, with offsets of w bytes
pub record IsWritten (home : Homes) (w file_len : ℕ) (s : ItemStore) : Type 0 where
  pub minor : s.brands.minor < 256 ^ 4
  pub primary : s.primary < 256 ^ id_width (is_wide s.items)
  pub count : length s.items < 256 ^ id_width (is_wide s.items)
  pub items : AllByRecursion (IsWrittenItem (is_wide s.items) (table_of s)) s.items
  pub groups : AllByRecursion IsWrittenGroup s.groups
  pub extents : AllByRecursion (IsWrittenExtent home w file_len s.items) (with_bytes s.items)
  -- sizes of boxes
  pub size : file_len < 256 ^ 8

-- ---- the layout

-- F is the layout of s with offsets of w bytes, measured back from the end of F
pub record LayBy (home : Homes) (s : ItemStore) (w : ℕ) (F : List ℕ) : Type 0 where
  pub numbers : IsWritten home w (length F) s
  pub bytes : F ≡ laid home w (length F) s

-- each data item's bytes are written
abbrev pub Lay : ItemStore → ℕ → List ℕ → Type 0
Lay s w F = LayBy own s w F
