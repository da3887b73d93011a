-- Worked stores.
use Rattle.std.specs.Prelude.{ℕ, ◌+◌, ◌/◌, ◌%◌, ◌==◌, true, false, List, [], ◌∷◌, ◌++◌, map, replicate, codes}
use Prim.Native.String.{String}
use Rattle.std.specs.List.{range_with_len}
use Rattle.hf_box.specs.Literals.{four, hex_of}
use Rattle.hf_head.specs.Ftyp.{Brands}
use Rattle.hf_store.specs.Store.{Held, Item, ItemStore}
use Rattle.hf_store.specs.declared.item.RefList.{RefList}

-- `heic`, compatible with `mif1` and `heic`
abbrev pub heic : Brands
heic = record { major = four "heic"; minor = 0; compatible = codes "mif1heic" }

-- an item of this type and these bytes, and nothing else
abbrev pub plain : ℕ → String → List ℕ → Item
plain id kind bytes = record { id = id; kind = four kind; hidden = false; name = []; content = []; encoding = []; uri = []; bytes = bytes; props = []; refs = [] }

abbrev pub essential : String → List ℕ → Held
essential kind body = record { essential = true; prop = record { kind = four kind; body = body } }

abbrev pub optional : String → List ℕ → Held
optional kind body = record { essential = false; prop = record { kind = four kind; body = body } }

abbrev pub references : String → List ℕ → RefList
references kind to = record { kind = four kind; to = to }

-- the size of a picture, four by four
abbrev pub four_by_four : Held
four_by_four = optional "ispe" (hex_of "00000000 00000004 00000004")

-- one picture of three bytes
unfoldable pub one_picture : ItemStore
one_picture = record {
  brands = heic;
  primary = 1;
  items =
      plain 1 "hvc1" (hex_of "aabbcc")
      ∷ [];
  groups = [];
}

-- the same, and another picture of one byte
unfoldable pub two_pictures : ItemStore
two_pictures = record {
  brands = heic;
  primary = 1;
  items =
      plain 1 "hvc1" (hex_of "aabbcc")
      ∷ plain 2 "hvc1" (hex_of "dd")
      ∷ [];
  groups = [];
}

-- an item without bytes alone
unfoldable pub one_empty_item : ItemStore
one_empty_item = record {
  brands = heic;
  primary = 1;
  items =
      plain 1 "hvc1" []
      ∷ [];
  groups = [];
}

-- the greatest id that takes two bytes
unfoldable pub greatest_narrow_id : ItemStore
greatest_narrow_id = record {
  brands = heic;
  primary = 65535;
  items =
      plain 65535 "hvc1" (hex_of "aabbcc")
      ∷ [];
  groups = [];
}

-- the least id that takes four bytes
unfoldable pub least_wide_id : ItemStore
least_wide_id = record {
  brands = heic;
  primary = 65536;
  items =
      plain 65536 "hvc1" (hex_of "aabbcc")
      ∷ [];
  groups = [];
}

-- a picture that is turned by a quarter, by an essential property
unfoldable pub turned_picture : ItemStore
turned_picture = record {
  brands = heic;
  primary = 1;
  items =
      record (plain 1 "hvc1" (hex_of "aabbcc")) { props = essential "irot" (hex_of "01") ∷ [] }
      ∷ [];
  groups = [];
}

-- a picture with its size, a property that is not essential
unfoldable pub sized_picture : ItemStore
sized_picture = record {
  brands = heic;
  primary = 1;
  items =
      record (plain 1 "hvc1" (hex_of "aabbcc")) { props = four_by_four ∷ [] }
      ∷ [];
  groups = [];
}

-- an identity item that is made of a picture, without bytes
unfoldable pub identity_item : ItemStore
identity_item = record {
  brands = heic;
  primary = 1;
  items =
      plain 1 "hvc1" (hex_of "aabbcc")
      ∷ record (plain 2 "iden" []) { refs = references "dimg" (1 ∷ []) ∷ [] }
      ∷ [];
  groups = [];
}

-- two pictures in a group of alternatives
unfoldable pub two_alternatives : ItemStore
two_alternatives = record {
  brands = heic;
  primary = 1;
  items =
      plain 1 "hvc1" (hex_of "aabbcc")
      ∷ plain 2 "hvc1" (hex_of "dd")
      ∷ [];
  groups =
      record { kind = four "altr"; version = 0; flags = 0; id = 10; entities = 1 ∷ 2 ∷ []; tail = [] }
      ∷ [];
}

-- an id that takes two bytes beside one that takes four
unfoldable pub two_widths : ItemStore
two_widths = record {
  brands = heic;
  primary = 1;
  items =
      plain 1 "hvc1" (hex_of "aabbcc")
      ∷ plain 70000 "hvc1" (hex_of "dd")
      ∷ [];
  groups = [];
}

-- a picture with its Exif
unfoldable pub picture_with_exif : ItemStore
picture_with_exif = record {
  brands = heic;
  primary = 1;
  items =
      plain 1 "hvc1" (hex_of "aabbcc")
      ∷ record (plain 2 "Exif" (hex_of "00000000 4949")) { refs = references "cdsc" (1 ∷ []) ∷ [] }
      ∷ [];
  groups = [];
}

-- a picture with its XMP
unfoldable pub picture_with_xmp : ItemStore
picture_with_xmp = record {
  brands = heic;
  primary = 1;
  items =
      plain 1 "hvc1" (hex_of "aabbcc")
      ∷ record (plain 2 "mime" (codes "II")) { content = codes "application/rdf+xml"; refs = references "cdsc" (1 ∷ []) ∷ [] }
      ∷ [];
  groups = [];
}

-- a picture with its thumbnail
unfoldable pub picture_with_thumbnail : ItemStore
picture_with_thumbnail = record {
  brands = heic;
  primary = 1;
  items =
      plain 1 "hvc1" (hex_of "aabbcc")
      ∷ record (plain 2 "hvc1" (hex_of "aabbcc")) { refs = references "thmb" (1 ∷ []) ∷ [] }
      ∷ [];
  groups = [];
}

-- overlays of 18, 256 and 257 bytes
unfoldable pub overlays : ItemStore
overlays = record {
  brands = heic;
  primary = 1;
  items =
      plain 1 "hvc1" (hex_of "aabbcc")
      ∷ plain 2 "iovl" (replicate 18 0x00)
      ∷ plain 3 "iovl" (replicate 256 0x00)
      ∷ plain 4 "iovl" (replicate 257 0x00)
      ∷ [];
  groups = [];
}

-- every feature at once: strings, hidden items, references, shared properties, groups with a tail, items in `idat` and in `mdat`
unfoldable pub every_feature : ItemStore
every_feature = record {
  brands = record { major = four "mif1"; minor = 7; compatible = codes "heicmsf1" };
  primary = 3;
  items =
      record (plain 1 "hvc1" (hex_of "aabbcc")) { hidden = true; name = codes "tile"; props = essential "hvcC" (hex_of "0102") ∷ four_by_four ∷ [] }
      ∷ record (plain 2 "hvc1" (hex_of "dd")) { props = four_by_four ∷ essential "hvcC" (hex_of "0102") ∷ essential "irot" (hex_of "03") ∷ [] }
      ∷ record (plain 3 "grid" (hex_of "00000001 00080004")) { name = codes "IMG"; props = four_by_four ∷ []; refs = references "auxl" (1 ∷ []) ∷ references "dimg" (1 ∷ 2 ∷ []) ∷ [] }
      ∷ record (plain 5 "mime" (codes "<x/>")) { content = codes "application/rdf+xml"; encoding = codes "gzip"; refs = references "cdsc" (3 ∷ []) ∷ [] }
      ∷ record (plain 6 "mime" (codes "hi")) { content = codes "text/plain" }
      ∷ plain 7 "mime" []
      ∷ record (plain 8 "uri " (codes "u")) { uri = codes "urn:x"; refs = references "cdsc" (1 ∷ 3 ∷ []) ∷ [] }
      ∷ record (plain 9 "iovl" (hex_of "00000000 00000000 00000008 0008ffff 0001")) { refs = references "dimg" (2 ∷ []) ∷ [] }
      ∷ plain 10 "iovl" (hex_of "00000000 00000000 00000008 0008" ++ replicate 300 0x00)
      ∷ plain 11 "hvc1" (hex_of "aabbcc")
      ∷ [];
  groups =
      record { kind = four "altr"; version = 0; flags = 0; id = 0; entities = 3 ∷ 2 ∷ []; tail = [] }
      ∷ record { kind = four "ster"; version = 1; flags = 0x0a0b0c; id = 77; entities = 1 ∷ []; tail = hex_of "0908" }
      ∷ [];
}

-- the same and one id that takes four bytes
unfoldable pub every_feature_wide : ItemStore
every_feature_wide = record {
  brands = record { major = four "mif1"; minor = 7; compatible = codes "heicmsf1" };
  primary = 3;
  items =
      record (plain 1 "hvc1" (hex_of "aabbcc")) { hidden = true; name = codes "tile"; props = essential "hvcC" (hex_of "0102") ∷ four_by_four ∷ [] }
      ∷ record (plain 2 "hvc1" (hex_of "dd")) { props = four_by_four ∷ essential "hvcC" (hex_of "0102") ∷ essential "irot" (hex_of "03") ∷ [] }
      ∷ record (plain 3 "grid" (hex_of "00000001 00080004")) { name = codes "IMG"; props = four_by_four ∷ []; refs = references "auxl" (1 ∷ []) ∷ references "dimg" (1 ∷ 2 ∷ []) ∷ [] }
      ∷ record (plain 5 "mime" (codes "<x/>")) { content = codes "application/rdf+xml"; encoding = codes "gzip"; refs = references "cdsc" (3 ∷ []) ∷ [] }
      ∷ record (plain 6 "mime" (codes "hi")) { content = codes "text/plain" }
      ∷ plain 7 "mime" []
      ∷ record (plain 8 "uri " (codes "u")) { uri = codes "urn:x"; refs = references "cdsc" (1 ∷ 3 ∷ []) ∷ [] }
      ∷ record (plain 9 "iovl" (hex_of "00000000 00000000 00000008 0008ffff 0001")) { refs = references "dimg" (2 ∷ []) ∷ [] }
      ∷ plain 10 "iovl" (hex_of "00000000 00000000 00000008 0008" ++ replicate 300 0x00)
      ∷ plain 11 "hvc1" (hex_of "aabbcc")
      ∷ record (plain 4294967294 "uri " (hex_of "dd")) { props = four_by_four ∷ []; refs = references "cdsc" (11 ∷ 4294967294 ∷ []) ∷ [] }
      ∷ [];
  groups =
      record { kind = four "altr"; version = 0; flags = 0; id = 0; entities = 3 ∷ 2 ∷ []; tail = [] }
      ∷ record { kind = four "ster"; version = 1; flags = 0x0a0b0c; id = 77; entities = 1 ∷ []; tail = hex_of "0908" }
      ∷ [];
}

-- as many properties as one byte can number
unfoldable pub properties_127 : ItemStore
properties_127 = record {
  brands = heic;
  primary = 1;
  items =
      record (plain 1 "hvc1" (hex_of "aabbcc")) { props = map (λ n. optional "prop" (n ∷ [])) (range_with_len 0 127) }
      ∷ [];
  groups = [];
}

-- one property more
unfoldable pub properties_128 : ItemStore
properties_128 = record {
  brands = heic;
  primary = 1;
  items =
      record (plain 1 "hvc1" (hex_of "aabbcc")) { props = map (λ n. optional "prop" (n ∷ [])) (range_with_len 0 128) }
      ∷ [];
  groups = [];
}

-- a property of its own for each number
abbrev pub third_essential : ℕ → Held
third_essential n = record { essential = n % 3 == 0; prop = record { kind = four "prop"; body = n / 256 ∷ n % 256 ∷ [] } }

-- 300 properties, every third of them essential, of two items; both items hold 52 of them
unfoldable pub properties_300 : ItemStore
properties_300 = record {
  brands = heic;
  primary = 1;
  items =
      record (plain 1 "hvc1" (hex_of "aabbcc")) { props = map third_essential (range_with_len 0 250) }
      ∷ record (plain 2 "hvc1" []) { props = map third_essential (range_with_len 200 100 ++ range_with_len 0 2) }
      ∷ [];
  groups = [];
}

-- a tile of the photograph: 512 by 512
abbrev pub tile : ℕ → Item
tile id =
    record (plain id "hvc1" (replicate (100 + id) id)) {
      hidden = true;
      props = essential "hvcC" (hex_of "01020304") ∷ optional "ispe" (hex_of "00000000 00000200 00000200") ∷ [];
    }

-- 48 tiles, in rows of eight
abbrev pub tiles : Item
tiles =
    record (plain 49 "grid" (hex_of "00000507 0fc00bd0")) {
      name = codes "IMG_0001";
      props = optional "ispe" (hex_of "00000000 00000fc0 00000bd0") ∷ essential "irot" (hex_of "00") ∷ [];
      refs = references "dimg" (range_with_len 1 48) ∷ [];
    }

abbrev pub thumbnail : Item
thumbnail =
    record (plain 50 "hvc1" (replicate 200 0x32)) {
      props = essential "hvcC" (hex_of "05060708") ∷ optional "ispe" (hex_of "00000000 00000140 000000f0") ∷ [];
      refs = references "thmb" (49 ∷ []) ∷ [];
    }

abbrev pub exif : Item
exif =
    record (plain 51 "Exif" (hex_of "00000000 45454545 45454545 45454545 45454545")) {
      refs = references "cdsc" (49 ∷ []) ∷ [];
    }

abbrev pub xmp : Item
xmp =
    record (plain 52 "mime" (replicate 30 0x58)) {
      content = codes "application/rdf+xml";
      refs = references "cdsc" (49 ∷ []) ∷ [];
    }

-- a photograph as a phone makes it
unfoldable pub photograph : ItemStore
photograph = record {
  brands = heic;
  primary = 49;
  items = map tile (range_with_len 1 48) ++ tiles ∷ thumbnail ∷ exif ∷ xmp ∷ [];
  groups = [];
}

-- the same without its metadata, and without the name
unfoldable pub photograph_redacted : ItemStore
photograph_redacted = record {
  brands = heic;
  primary = 49;
  items = map tile (range_with_len 1 48) ++ record tiles { name = [] } ∷ thumbnail ∷ [];
  groups = [];
}

-- and without the thumbnail
unfoldable pub photograph_bare : ItemStore
photograph_bare = record {
  brands = heic;
  primary = 49;
  items = map tile (range_with_len 1 48) ++ record tiles { name = [] } ∷ [];
  groups = [];
}
