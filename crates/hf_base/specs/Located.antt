-- The items of a file, each with its entry of `iloc` (ItemLocationBox of ISO/IEC 14496-12) and with the items that its
-- references of type `iloc` name.
use Rattle.std.specs.Prelude.{ℕ, zero, suc, Bool, ◌&&◌, ◌==◌, List, [], map, filter, Option, Some, None, slice_get}
use Rattle.std.specs.List.{find, flat_map}
use Rattle.std.specs.Option.{option_and_then}
use Rattle.std.specs.Str.{bytes_eq}
use Rattle.hf_base.specs.declared.kinds.TheConstants.{ILOC}
use Rattle.hf_base.specs.declared.loc.Extent.{Extent}
use Rattle.hf_base.specs.declared.loc.Loc.{Loc}
use Rattle.hf_base.specs.declared.loc.RefBox.{RefBox}

-- an item, with the fields of its entry and the ids that its `iloc` references name
pub record Located : Type 0 where
  pub id : ℕ
  pub method : ℕ
  pub dref : ℕ
  pub base : ℕ
  pub extents : List Extent
  pub sources : List ℕ

-- an item without an entry is as one whose entry has no extent; this is the project's own rule
abbrev pub located_at : ℕ → Option Loc → List ℕ → Located
located_at id None sources = record { id = id; method = 0; dref = 0; base = 0; extents = []; sources = sources }
located_at id (Some l) sources = record { id = id; method = l.method; dref = l.dref; base = l.base; extents = l.extents; sources = sources }

-- the entry of an item, if there is one
abbrev pub loc_of : ℕ → List Loc → Option Loc
loc_of id locs = find (λ (l : Loc). l.id == id) locs

-- the box has `iloc` references of the item
abbrev pub locates : ℕ → RefBox → Bool
locates id b = bytes_eq b.kind.0 ILOC.0 && (b.from == id)

-- what the item's `iloc` references name: the lists of its boxes, joined in file order. That they are joined is the project's
-- own rule. An id that names no item keeps its place
abbrev pub sources_of : ℕ → List RefBox → List ℕ
sources_of id links = flat_map (λ (b : RefBox). b.to) (filter (locates id) links)

-- an item with its entry and its references
abbrev pub located_item : List Loc → List RefBox → ℕ → Located
located_item locs links id = located_at id (loc_of id locs) (sources_of id links)

-- the items with these ids, in their order. Entries and references of other ids are passed over
abbrev pub located_items : List ℕ → List Loc → List RefBox → List Located
located_items ids locs links = map (located_item locs links) ids

-- the item with an id, if there is one
abbrev pub item_with : ℕ → List Located → Option Located
item_with id items = find (λ (r : Located). r.id == id) items

-- the id at an index, which counts from 1
abbrev pub id_at : ℕ → List ℕ → Option ℕ
id_at zero ids = None
id_at (suc k) ids = slice_get ids k

-- the item that an extent of method 2 takes its bytes from; none where its index is 0 or past the end, or names no item
abbrev pub source_of : List Located → Located → Extent → Option Located
source_of items r e = option_and_then (λ id. item_with id items) (id_at e.index r.sources)
