-- Worked stores that are changed, of which an item is removed, and in which an item needs another.
use Prim.Native.String.{String}
use Rattle.std.specs.Prelude.{ℕ, true, false, List, [], ◌∷◌, codes}
use Rattle.hf_box.specs.Literals.{four, hex_of}
use Rattle.hf_store.specs.Store.{Item, Group, ItemStore}
use Rattle.hf_store.specs.declared.item.RefList.{RefList}
use Rattle.hf_worked.specs.WorkedStores.{heic, plain, essential, four_by_four, references}

-- a group of alternatives with these entities and nothing after them
abbrev pub alternatives : ℕ → List ℕ → Group
alternatives id entities = record { kind = four "altr"; version = 0; flags = 0; id = id; entities = entities; tail = [] }

-- a stereo pair with these entities and two bytes after them
abbrev pub pair_with_tail : ℕ → List ℕ → Group
pair_with_tail id entities = record { kind = four "ster"; version = 1; flags = 0x0a0b0c; id = id; entities = entities; tail = hex_of "0908" }

-- four items that lead to the second one in many ways, and groups that it is in and is not in
unfoldable pub second_in_all : ItemStore
second_in_all = record {
  brands = heic;
  primary = 4;
  items =
      record (plain 1 "hvc1" (hex_of "aabbcc")) { refs = references "auxl" (2 ∷ []) ∷ references "cdsc" (3 ∷ 2 ∷ 4 ∷ 2 ∷ 1 ∷ []) ∷ references "prem" (2 ∷ 4 ∷ []) ∷ references "thmb" (2 ∷ 2 ∷ []) ∷ [] }
      ∷ record (plain 2 "hvc1" (hex_of "dd")) { refs = references "cdsc" (1 ∷ []) ∷ [] }
      ∷ record (plain 3 "hvc1" (hex_of "ee")) { refs = references "thmb" (2 ∷ []) ∷ [] }
      ∷ record (plain 4 "mime" (codes "<x/>")) { hidden = true; name = codes "XMP"; content = codes "text/xml"; encoding = codes "gzip"; props = essential "irot" (hex_of "03") ∷ four_by_four ∷ []; refs = references "cdsc" (3 ∷ 1 ∷ []) ∷ references "dimg" (1 ∷ []) ∷ [] }
      ∷ [];
  groups =
      alternatives 10 (1 ∷ 2 ∷ 3 ∷ [])
      ∷ alternatives 11 (2 ∷ [])
      ∷ pair_with_tail 12 (1 ∷ 2 ∷ [])
      ∷ pair_with_tail 13 (3 ∷ 1 ∷ [])
      ∷ alternatives 14 (4 ∷ 3 ∷ [])
      ∷ pair_with_tail 15 (2 ∷ [])
      ∷ alternatives 16 (2 ∷ 4 ∷ 2 ∷ 1 ∷ [])
      ∷ [];
}

-- the same without the second item: lists of references and groups of which nothing is left are gone, and the group
-- with a tail that lost an entity
unfoldable pub second_gone : ItemStore
second_gone = record {
  brands = heic;
  primary = 4;
  items =
      record (plain 1 "hvc1" (hex_of "aabbcc")) { refs = references "cdsc" (3 ∷ 4 ∷ 1 ∷ []) ∷ references "prem" (4 ∷ []) ∷ [] }
      ∷ plain 3 "hvc1" (hex_of "ee")
      ∷ record (plain 4 "mime" (codes "<x/>")) { hidden = true; name = codes "XMP"; content = codes "text/xml"; encoding = codes "gzip"; props = essential "irot" (hex_of "03") ∷ four_by_four ∷ []; refs = references "cdsc" (3 ∷ 1 ∷ []) ∷ references "dimg" (1 ∷ []) ∷ [] }
      ∷ [];
  groups =
      alternatives 10 (1 ∷ 3 ∷ [])
      ∷ pair_with_tail 13 (3 ∷ 1 ∷ [])
      ∷ alternatives 14 (4 ∷ 3 ∷ [])
      ∷ alternatives 16 (4 ∷ 1 ∷ [])
      ∷ [];
}

-- three pictures, of which the third has these references
abbrev pub third_refers : List RefList → ItemStore
third_refers refs = record {
  brands = heic;
  primary = 1;
  items =
      plain 1 "hvc1" (hex_of "aabbcc")
      ∷ plain 2 "hvc1" (hex_of "dd")
      ∷ record (plain 3 "hvc1" (hex_of "ee")) { refs = refs }
      ∷ [];
  groups = [];
}

-- the third picture has a reference of this type to the second one
abbrev pub third_to_second : String → ItemStore
third_to_second kind = third_refers (references kind (2 ∷ []) ∷ [])

-- the second picture needs itself, and is needed by the fourth and the sixth one
unfoldable pub needed_by_three : ItemStore
needed_by_three = record {
  brands = heic;
  primary = 1;
  items =
      plain 1 "hvc1" (hex_of "aabbcc")
      ∷ record (plain 2 "hvc1" (hex_of "dd")) { refs = references "prem" (2 ∷ []) ∷ [] }
      ∷ record (plain 3 "hvc1" (hex_of "dd")) { refs = references "thmb" (2 ∷ []) ∷ [] }
      ∷ record (plain 4 "hvc1" (hex_of "dd")) { refs = references "tbas" (2 ∷ []) ∷ [] }
      ∷ plain 5 "hvc1" (hex_of "dd")
      ∷ record (plain 6 "hvc1" (hex_of "dd")) { refs = references "tbas" (2 ∷ []) ∷ [] }
      ∷ [];
  groups = [];
}

-- a picture that has a name and is turned
abbrev pub named : Item
named = record (plain 1 "hvc1" (hex_of "aabbcc")) { name = codes "IMG"; props = essential "irot" (hex_of "01") ∷ four_by_four ∷ [] }

-- another one of the same size, which is hidden and leads to the first
abbrev pub sized : Item
sized = record (plain 2 "hvc1" (hex_of "dd")) { hidden = true; props = four_by_four ∷ []; refs = references "auxl" (1 ∷ []) ∷ [] }

-- metadata of both
abbrev pub described : List ℕ → Item
described ids = record (plain 3 "Exif" (hex_of "00000000 45")) { name = codes "X"; refs = references "cdsc" ids ∷ [] }

-- items with a primary one among them, and a group of these entities
abbrev pub grouped : ℕ → List Item → List ℕ → ItemStore
grouped primary items entities = record { brands = heic; primary = primary; items = items; groups = alternatives 10 entities ∷ [] }

-- two pictures in a group, and their metadata
unfoldable pub described_pair : ItemStore
described_pair = grouped 1 (named ∷ sized ∷ described (1 ∷ 2 ∷ []) ∷ []) (1 ∷ 2 ∷ [])

-- the same with the second picture as the primary item
unfoldable pub pair_of_second : ItemStore
pair_of_second = grouped 2 (named ∷ sized ∷ described (1 ∷ 2 ∷ []) ∷ []) (1 ∷ 2 ∷ [])

-- the same with the second picture shown
unfoldable pub pair_shown : ItemStore
pair_shown = grouped 1 (named ∷ record sized { hidden = false } ∷ described (1 ∷ 2 ∷ []) ∷ []) (1 ∷ 2 ∷ [])

-- the same without names
unfoldable pub pair_unnamed : ItemStore
pair_unnamed = grouped 1 (record named { name = [] } ∷ sized ∷ record (described (1 ∷ 2 ∷ [])) { name = [] } ∷ []) (1 ∷ 2 ∷ [])

-- the same with the second picture turned, and without its size
unfoldable pub pair_turned : ItemStore
pair_turned = grouped 1 (named ∷ record sized { props = essential "irot" (hex_of "01") ∷ [] } ∷ described (1 ∷ 2 ∷ []) ∷ []) (1 ∷ 2 ∷ [])

-- the same with the first picture not turned
unfoldable pub pair_upright : ItemStore
pair_upright = grouped 1 (record named { props = four_by_four ∷ [] } ∷ sized ∷ described (1 ∷ 2 ∷ []) ∷ []) (1 ∷ 2 ∷ [])

-- the same and one more picture
unfoldable pub pair_and_one : ItemStore
pair_and_one = grouped 1 (named ∷ sized ∷ described (1 ∷ 2 ∷ []) ∷ plain 4 "hvc1" (hex_of "ee") ∷ []) (1 ∷ 2 ∷ [])

-- the first picture and its metadata alone
unfoldable pub first_described : ItemStore
first_described = grouped 1 (named ∷ described (1 ∷ []) ∷ []) (1 ∷ [])
