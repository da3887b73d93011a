-- Items that edits add. These rules are this project's own.
use Rattle.std.specs.Prelude.{ℕ, ◌+◌, ◌-◌, ◌^◌, ◌==◌, false, List, [], ◌∷◌, ◌++◌, map, max, fold, Option, Some, None, codes, if◌then◌else◌}
use Rattle.hf_base.specs.declared.four.FourCc.{FourCc}
use Rattle.hf_box.specs.Literals.{four}
use Rattle.hf_store.specs.Changes.{added}
use Rattle.hf_store.specs.Store.{Group, Item, ItemStore, ids_of}
use Rattle.hf_store.specs.declared.item.RefList.{RefList}

-- the greatest id of an item or a group
abbrev pub greatest_id : ItemStore → ℕ
greatest_id s = fold max 0 (ids_of s.items ++ map (λ (g : Group). g.id) s.groups)

-- the id that an added item has, if one of four bytes is left
unfoldable pub next_id_of : ItemStore → Option ℕ
next_id_of s = if greatest_id s == 256 ^ 4 - 1 then None else Some (greatest_id s + 1)

-- a reference of this type to one item
abbrev pub one_reference : FourCc → ℕ → List RefList
one_reference kind to = record { kind = kind; to = to ∷ [] } ∷ []

-- metadata of this type that describes an item
abbrev pub description : FourCc → List ℕ → List ℕ → ℕ → ℕ → Item
description kind content bytes of id = record {
  id = id;
  kind = kind;
  hidden = false;
  name = [];
  content = content;
  encoding = [];
  uri = [];
  bytes = bytes;
  props = [];
  refs = one_reference (four "cdsc") of;
}

-- the Exif metadata of an item: four bytes of 0 stand before these, as `ExifDataBlock` of ISO/IEC 23008-12 has it where the
-- header of the bytes comes first
abbrev pub exif_item : List ℕ → ℕ → ℕ → Item
exif_item tiff = description (four "Exif") [] (0 ∷ 0 ∷ 0 ∷ 0 ∷ tiff)

-- the XMP metadata of an item
abbrev pub xmp_item : List ℕ → ℕ → ℕ → Item
xmp_item text = description (four "mime") (codes "application/rdf+xml") text

-- a thumbnail of an item that has the type, bytes and properties of another one
abbrev pub thumbnail_item : Item → ℕ → ℕ → Item
thumbnail_item picture of id = record {
  id = id;
  kind = picture.kind;
  hidden = false;
  name = [];
  content = [];
  encoding = [];
  uri = [];
  bytes = picture.bytes;
  props = picture.props;
  refs = one_reference (four "thmb") of;
}

-- the item with an id
abbrev pub item_with : ℕ → List Item → Option Item
item_with id [] = None
item_with id (i ∷ is) = if i.id == id then Some i else item_with id is

abbrev pub primary_item : ItemStore → Option Item
primary_item s = item_with s.primary s.items

-- the store with one more item, given its id
abbrev pub with_next : (ℕ → Item) → ItemStore → ItemStore
with_next item s = added (item (greatest_id s + 1)) s
