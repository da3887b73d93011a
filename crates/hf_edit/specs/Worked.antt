-- Worked stores that are edited.
use Prim.Native.String.{String}
use Rattle.std.specs.Prelude.{ℕ, ◌-◌, ◌^◌, true, List, [], ◌∷◌, ◌++◌, map, codes}
use Rattle.std.specs.List.{range_with_len}
use Rattle.hf_box.specs.Literals.{hex_of}
use Rattle.hf_store.specs.Store.{Held, Item, ItemStore}
use Rattle.hf_worked.specs.BadStores.{only}
use Rattle.hf_worked.specs.WorkedChanges.{alternatives, described, grouped, named, sized}
use Rattle.hf_worked.specs.WorkedStores.{essential, exif, heic, optional, plain, references, thumbnail, tile, tiles, xmp}

-- ---- properties

-- a turn that a reader has to know, and one that it does not
abbrev pub turn : Held
turn = essential "irot" (hex_of "01")

abbrev pub optional_turn : Held
optional_turn = optional "irot" (hex_of "02")

-- turns that a reader has to know, mirrors, the size of a picture and a window, with these bodies
abbrev pub irot : String → Held
irot body = essential "irot" (hex_of body)

abbrev pub imir : String → Held
imir body = essential "imir" (hex_of body)

abbrev pub ispe : String → Held
ispe body = optional "ispe" (hex_of body)

abbrev pub clap : String → Held
clap body = essential "clap" (hex_of body)

-- four columns and two rows
abbrev pub four_by_two : Held
four_by_two = ispe "00000000 00000004 00000002"

-- a window of three columns and five rows
abbrev pub three_by_five : Held
three_by_five = clap "00000003 00000001 00000005 00000001 00000000 00000001 00000000 00000001"

-- ---- stores of one picture

-- a picture with these properties
abbrev pub picture : List Held → Item
picture held = record (plain 1 "hvc1" (hex_of "aabbcc")) { props = held }

abbrev pub holding : List Held → ItemStore
holding held = only (picture held)

-- a picture of this type, with references of these types to a second one
abbrev pub derived : String → List String → ItemStore
derived kind types = record {
  brands = heic;
  primary = 1;
  items =
      record (plain 1 kind (hex_of "00000000 00000000")) { refs = map (λ type. references type (2 ∷ [])) types }
      ∷ plain 2 "hvc1" (hex_of "dd")
      ∷ [];
  groups = [];
}

-- ---- pictures and metadata

-- two pictures, of which the second one is the primary item
unfoldable pub second_primary : ItemStore
second_primary = record {
  brands = heic;
  primary = 2;
  items =
      plain 1 "hvc1" (hex_of "aabbcc")
      ∷ plain 2 "hvc1" (hex_of "dd")
      ∷ [];
  groups = [];
}

-- two pictures in a group, and their metadata, which is hidden
unfoldable pub hidden_metadata : ItemStore
hidden_metadata = grouped 1 (named ∷ sized ∷ record (described (1 ∷ 2 ∷ [])) { hidden = true } ∷ []) (1 ∷ 2 ∷ [])

-- the same pictures and metadata, of which the second one has no size
unfoldable pub pair_unsized : ItemStore
pair_unsized = grouped 1 (named ∷ record sized { props = [] } ∷ described (1 ∷ 2 ∷ []) ∷ []) (1 ∷ 2 ∷ [])

-- the second one has these properties
abbrev pub pair_with : List Held → ItemStore
pair_with held = grouped 1 (named ∷ record sized { props = held } ∷ described (1 ∷ 2 ∷ []) ∷ []) (1 ∷ 2 ∷ [])

-- the second one has metadata of its own, whose id is one more than that of the group
unfoldable pub pair_with_exif : ItemStore
pair_with_exif = grouped 1 (named ∷ sized ∷ described (1 ∷ 2 ∷ []) ∷ record (plain 11 "Exif" (hex_of "00000000 4d4d")) { refs = references "cdsc" (2 ∷ []) ∷ [] } ∷ []) (1 ∷ 2 ∷ [])

unfoldable pub pair_with_xmp : ItemStore
pair_with_xmp = grouped 1 (named ∷ sized ∷ described (1 ∷ 2 ∷ []) ∷ record (plain 11 "mime" (codes "<x/>")) { content = codes "application/rdf+xml"; refs = references "cdsc" (2 ∷ []) ∷ [] } ∷ []) (1 ∷ 2 ∷ [])

-- metadata that is a thumbnail, and the primary item
unfoldable pub metadata_thumbnail : ItemStore
metadata_thumbnail = record {
  brands = heic;
  primary = 2;
  items =
      plain 1 "hvc1" (hex_of "aabbcc")
      ∷ record (plain 2 "mime" (codes "<x/>")) { refs = references "thmb" (1 ∷ []) ∷ [] }
      ∷ [];
  groups = [];
}

-- ---- thumbnails

-- the second picture, which is hidden, is the primary item, and it has properties and a reference
unfoldable pub hidden_second : ItemStore
hidden_second = grouped 2 (named ∷ record sized { name = codes "IMG"; props = turn ∷ optional_turn ∷ [] } ∷ []) (1 ∷ 2 ∷ [])

-- the picture of `one_picture` with a thumbnail that is this second picture
unfoldable pub second_as_thumbnail : ItemStore
second_as_thumbnail = record {
  brands = heic;
  primary = 1;
  items =
      plain 1 "hvc1" (hex_of "aabbcc")
      ∷ record (plain 2 "hvc1" (hex_of "dd")) { props = turn ∷ optional_turn ∷ []; refs = references "thmb" (1 ∷ []) ∷ [] }
      ∷ [];
  groups = [];
}

-- two pictures, of which the second one has a thumbnail
unfoldable pub second_with_thumbnail : ItemStore
second_with_thumbnail = record {
  brands = heic;
  primary = 1;
  items =
      plain 1 "hvc1" (hex_of "aabbcc")
      ∷ plain 2 "hvc1" (hex_of "dd")
      ∷ record (plain 3 "hvc1" (hex_of "aabbcc")) { refs = references "thmb" (2 ∷ []) ∷ [] }
      ∷ [];
  groups = [];
}

-- ---- ids

-- a picture, and metadata that has the greatest id
unfoldable pub greatest_beside : ItemStore
greatest_beside = record {
  brands = heic;
  primary = 1;
  items =
      plain 1 "hvc1" (hex_of "aabbcc")
      ∷ plain (256 ^ 4 - 1) "Exif" (hex_of "00000000 4949")
      ∷ [];
  groups = [];
}

-- a picture in a group that has this id, and an item with the id 3
abbrev pub group_of_id : ℕ → ItemStore
group_of_id id = record {
  brands = heic;
  primary = 1;
  items =
      plain 1 "hvc1" (hex_of "aabbcc")
      ∷ plain 3 "hvc1" (hex_of "dd")
      ∷ [];
  groups = alternatives id (1 ∷ []) ∷ [];
}

-- ---- the photograph

-- with one more property of its grid
abbrev pub photograph_with : Held → ItemStore
photograph_with held = record {
  brands = heic;
  primary = 49;
  items = map tile (range_with_len 1 48) ++ record tiles { props = tiles.props ++ held ∷ [] } ∷ thumbnail ∷ exif ∷ xmp ∷ [];
  groups = [];
}
