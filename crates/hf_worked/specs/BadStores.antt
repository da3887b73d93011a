-- Stores that are not valid, each for one reason.
use Rattle.std.specs.Prelude.{◌^◌, [], ◌∷◌, map, replicate, codes}
use Rattle.std.specs.List.{range_with_len}
use Rattle.hf_box.specs.Literals.{four, hex_of}
use Rattle.hf_store.specs.Store.{Item, Group, ItemStore}
use Rattle.hf_worked.specs.WorkedStores.{heic, plain, optional, references}

-- the brand `mif1` at no multiple of four bytes, and no other
unfoldable pub without_mif1 : ItemStore
without_mif1 = record {
  brands = record { major = four "heic"; minor = 0; compatible = codes "xmif1hei" };
  primary = 1;
  items =
      plain 1 "hvc1" (hex_of "aabbcc")
      ∷ [];
  groups = [];
}

-- `mif1` across two brands
unfoldable pub mif1_across_brands : ItemStore
mif1_across_brands = record {
  brands = record { major = four "heic"; minor = 0; compatible = codes "xxmif1yy" };
  primary = 1;
  items =
      plain 1 "hvc1" (hex_of "aabbcc")
      ∷ [];
  groups = [];
}

-- compatible brands of five bytes
unfoldable pub brands_of_five_bytes : ItemStore
brands_of_five_bytes = record {
  brands = record { major = four "mif1"; minor = 0; compatible = codes "heicx" };
  primary = 1;
  items =
      plain 1 "hvc1" (hex_of "aabbcc")
      ∷ [];
  groups = [];
}

-- a zero byte in a name
unfoldable pub zero_in_name : ItemStore
zero_in_name = record {
  brands = heic;
  primary = 1;
  items =
      record (plain 1 "hvc1" []) { name = hex_of "610062" }
      ∷ [];
  groups = [];
}

-- a content type of an item that is not `mime`
unfoldable pub content_without_mime : ItemStore
content_without_mime = record {
  brands = heic;
  primary = 1;
  items =
      record (plain 1 "hvc1" []) { content = codes "x" }
      ∷ [];
  groups = [];
}

-- a URI type of an item that is not `uri `
unfoldable pub uri_without_uri : ItemStore
uri_without_uri = record {
  brands = heic;
  primary = 1;
  items =
      record (plain 1 "hvc1" []) { uri = codes "x" }
      ∷ [];
  groups = [];
}

-- reference types that fall
unfoldable pub references_fall : ItemStore
references_fall = record {
  brands = heic;
  primary = 1;
  items =
      record (plain 1 "hvc1" []) { refs = references "thmb" (1 ∷ []) ∷ references "cdsc" (1 ∷ []) ∷ [] }
      ∷ [];
  groups = [];
}

-- two lists of one reference type
unfoldable pub references_twice : ItemStore
references_twice = record {
  brands = heic;
  primary = 1;
  items =
      record (plain 1 "hvc1" []) { refs = references "cdsc" (1 ∷ []) ∷ references "cdsc" (1 ∷ []) ∷ [] }
      ∷ [];
  groups = [];
}

-- a reference of type `iloc`
unfoldable pub iloc_reference : ItemStore
iloc_reference = record {
  brands = heic;
  primary = 1;
  items =
      record (plain 1 "hvc1" []) { refs = references "iloc" (1 ∷ []) ∷ [] }
      ∷ [];
  groups = [];
}

-- a reference to no item
unfoldable pub dangling_reference : ItemStore
dangling_reference = record {
  brands = heic;
  primary = 1;
  items =
      record (plain 1 "hvc1" []) { refs = references "cdsc" (2 ∷ []) ∷ [] }
      ∷ [];
  groups = [];
}

-- an identity item that is made of nothing
unfoldable pub identity_of_none : ItemStore
identity_of_none = record {
  brands = heic;
  primary = 1;
  items =
      plain 1 "iden" []
      ∷ [];
  groups = [];
}

-- a grid of two cells with one input
unfoldable pub grid_of_two_with_one : ItemStore
grid_of_two_with_one = record {
  brands = heic;
  primary = 1;
  items =
      plain 1 "hvc1" []
      ∷ record (plain 2 "grid" (hex_of "00000001 00080004")) { refs = references "dimg" (1 ∷ []) ∷ [] }
      ∷ [];
  groups = [];
}

-- a grid whose height is cut short
unfoldable pub grid_cut_short : ItemStore
grid_cut_short = record {
  brands = heic;
  primary = 1;
  items =
      plain 1 "hvc1" []
      ∷ record (plain 2 "grid" (hex_of "00000000 000800")) { refs = references "dimg" (1 ∷ []) ∷ [] }
      ∷ [];
  groups = [];
}

-- a grid that says four bytes a side and has two
unfoldable pub grid_of_long_sides_cut_short : ItemStore
grid_of_long_sides_cut_short = record {
  brands = heic;
  primary = 1;
  items =
      plain 1 "hvc1" []
      ∷ record (plain 2 "grid" (hex_of "00010000 00080004")) { refs = references "dimg" (1 ∷ []) ∷ [] }
      ∷ [];
  groups = [];
}

-- an overlay without the second offset of its input
unfoldable pub overlay_cut_short : ItemStore
overlay_cut_short = record {
  brands = heic;
  primary = 1;
  items =
      plain 1 "hvc1" []
      ∷ record (plain 2 "iovl" (replicate 17 0x00)) { refs = references "dimg" (1 ∷ []) ∷ [] }
      ∷ [];
  groups = [];
}

-- two identity items that are made of each other
unfoldable pub cycle : ItemStore
cycle = record {
  brands = heic;
  primary = 1;
  items =
      record (plain 1 "iden" []) { refs = references "dimg" (2 ∷ []) ∷ [] }
      ∷ record (plain 2 "iden" []) { refs = references "dimg" (1 ∷ []) ∷ [] }
      ∷ [];
  groups = [];
}

-- two groups with one id
unfoldable pub groups_of_one_id : ItemStore
groups_of_one_id = record {
  brands = heic;
  primary = 1;
  items =
      plain 1 "hvc1" (hex_of "aabbcc")
      ∷ [];
  groups =
      record { kind = four "altr"; version = 0; flags = 0; id = 5; entities = 1 ∷ []; tail = [] }
      ∷ record { kind = four "altr"; version = 0; flags = 0; id = 5; entities = 1 ∷ []; tail = [] }
      ∷ [];
}

-- a group without entities
unfoldable pub group_of_none : ItemStore
group_of_none = record {
  brands = heic;
  primary = 1;
  items =
      plain 1 "hvc1" (hex_of "aabbcc")
      ∷ [];
  groups =
      record { kind = four "altr"; version = 0; flags = 0; id = 5; entities = []; tail = [] }
      ∷ [];
}

-- an item with id 0
unfoldable pub zero_id : ItemStore
zero_id = record {
  brands = heic;
  primary = 0;
  items =
      plain 0 "hvc1" []
      ∷ [];
  groups = [];
}

-- an item's id twice
unfoldable pub ids_of_one : ItemStore
ids_of_one = record { brands = heic; primary = 1; items = plain 1 "hvc1" [] ∷ plain 1 "hvc1" [] ∷ []; groups = [] }

-- a primary that is no item
unfoldable pub primary_of_none : ItemStore
primary_of_none = record { brands = heic; primary = 2; items = plain 1 "hvc1" [] ∷ []; groups = [] }

-- a list of references to nothing
unfoldable pub empty_reference : ItemStore
empty_reference = record { brands = heic; primary = 1; items = record (plain 1 "hvc1" []) { refs = references "cdsc" [] ∷ [] } ∷ []; groups = [] }

-- a group with an entity that is no item
unfoldable pub group_of_others : ItemStore
group_of_others = record { brands = heic; primary = 1; items = plain 1 "hvc1" [] ∷ []; groups = record { kind = four "altr"; version = 0; flags = 0; id = 5; entities = 2 ∷ []; tail = [] } ∷ [] }

-- a group whose flags take more than three bytes
unfoldable pub group_of_wide_flags : ItemStore
group_of_wide_flags = record { brands = heic; primary = 1; items = plain 1 "hvc1" [] ∷ []; groups = record { kind = four "altr"; version = 0; flags = 256 ^ 3; id = 5; entities = 1 ∷ []; tail = [] } ∷ [] }

-- one property more than an item may have
unfoldable pub properties_256 : ItemStore
properties_256 = record { brands = heic; primary = 1; items = record (plain 1 "hvc1" []) { props = map (λ n. optional "prop" (n ∷ [])) (range_with_len 0 256) } ∷ []; groups = [] }

-- an identity item that is made of itself
unfoldable pub made_of_itself : ItemStore
made_of_itself = record { brands = heic; primary = 1; items = record (plain 1 "iden" []) { refs = references "dimg" (1 ∷ []) ∷ [] } ∷ []; groups = [] }

-- this item alone, which is the primary
abbrev pub only : Item → ItemStore
only i = record { brands = heic; primary = i.id; items = i ∷ []; groups = [] }

-- one picture, and this group
abbrev pub grouped : Group → ItemStore
grouped g = record { brands = heic; primary = 1; items = plain 1 "hvc1" [] ∷ []; groups = g ∷ [] }

-- a group of the picture
abbrev pub alternative : Group
alternative = record { kind = four "altr"; version = 0; flags = 0; id = 5; entities = 1 ∷ []; tail = [] }

-- a major brand of five bytes
unfoldable pub major_of_five_bytes : ItemStore
major_of_five_bytes = record (only (plain 1 "hvc1" [])) { brands = record heic { major = four "heicx" } }

-- a minor version that takes more than four bytes
unfoldable pub minor_of_five_bytes : ItemStore
minor_of_five_bytes = record (only (plain 1 "hvc1" [])) { brands = record heic { minor = 256 ^ 4 } }

-- an id that takes more than four bytes
unfoldable pub id_of_five_bytes : ItemStore
id_of_five_bytes = only (plain (256 ^ 4) "hvc1" [])

-- an item type of five bytes
unfoldable pub type_of_five_bytes : ItemStore
type_of_five_bytes = only (plain 1 "hvc1x" [])

-- an item type of three bytes
unfoldable pub type_of_three_bytes : ItemStore
type_of_three_bytes = only (plain 1 "hvc" [])

-- a zero byte in a content type
unfoldable pub zero_in_content : ItemStore
zero_in_content = only (record (plain 1 "mime" []) { content = hex_of "610062" })

-- a zero byte in a content encoding
unfoldable pub zero_in_encoding : ItemStore
zero_in_encoding = only (record (plain 1 "mime" []) { encoding = hex_of "610062" })

-- a zero byte in a URI type
unfoldable pub zero_in_uri : ItemStore
zero_in_uri = only (record (plain 1 "uri " []) { uri = hex_of "610062" })

-- a content encoding of an item that is not `mime`
unfoldable pub encoding_without_mime : ItemStore
encoding_without_mime = only (record (plain 1 "uri " []) { encoding = codes "x" })

-- a property type of five bytes
unfoldable pub property_type_of_five_bytes : ItemStore
property_type_of_five_bytes = only (record (plain 1 "hvc1" []) { props = optional "propx" [] ∷ [] })

-- a reference type of five bytes
unfoldable pub reference_type_of_five_bytes : ItemStore
reference_type_of_five_bytes = only (record (plain 1 "hvc1" []) { refs = references "cdscx" (1 ∷ []) ∷ [] })

-- a group type of five bytes
unfoldable pub group_type_of_five_bytes : ItemStore
group_type_of_five_bytes = grouped (record alternative { kind = four "altrx" })

-- a group whose version takes more than one byte
unfoldable pub group_of_wide_version : ItemStore
group_of_wide_version = grouped (record alternative { version = 256 })

-- a group whose id takes more than four bytes
unfoldable pub group_of_wide_id : ItemStore
group_of_wide_id = grouped (record alternative { id = 256 ^ 4 })
