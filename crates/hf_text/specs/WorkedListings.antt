-- Worked listings.
use Rattle.std.specs.Prelude.{ℕ, true, List, [], ◌∷◌, ◌++◌, codes}
use Rattle.hf_box.specs.Literals.{four, hex_of}
use Rattle.hf_store.specs.Store.{Item, ItemStore}
use Rattle.hf_worked.specs.WorkedStores.{heic, plain, essential, four_by_four, references}

-- a hidden text with a name of two words, of the size of a picture
abbrev pub text : Item
text = record {
  id = 2;
  kind = four "mime";
  hidden = true;
  name = codes "a b";
  content = codes "text/plain";
  encoding = [];
  uri = [];
  bytes = codes "no";
  props = four_by_four ∷ [];
  refs = [];
}

-- a picture, and the text
unfoldable pub picture_and_text : ItemStore
picture_and_text = record { brands = heic; primary = 1; items = plain 1 "hvc1" (hex_of "aabbcc") ∷ text ∷ []; groups = [] }

unfoldable pub picture_and_text_lines : List ℕ
picture_and_text_lines =
    codes "brands heic 0 mif1 heic\n"
    ++ codes "primary 1\n"
    ++ codes "item 1 hvc1 3 shown - - - -\n"
    ++ codes "item 2 mime 2 hidden a\\x20b text/plain - -\n"
    ++ codes "  prop ispe 12 optional\n"

-- an item of its own URI that leads to others, and is turned
abbrev pub turned : Item
turned = record {
  id = 10;
  kind = four "uri ";
  hidden = true;
  name = codes "-";
  content = [];
  encoding = [];
  uri = codes "urn:a\\b";
  bytes = [];
  props = essential "irot" (hex_of "01") ∷ four_by_four ∷ [];
  refs = references "cdsc" (1 ∷ []) ∷ references "dimg" (1 ∷ 300 ∷ 1 ∷ []) ∷ [];
}

-- items that lead to others, and groups
unfoldable pub linked : ItemStore
linked = record {
  brands = record { major = four "mif1"; minor = 4294967295; compatible = [] };
  primary = 10;
  items = plain 1 "hvc1" (hex_of "aabbcc") ∷ turned ∷ plain 300 "av01" [] ∷ [];
  groups =
      record { kind = four "altr"; version = 0; flags = 0; id = 0; entities = 1 ∷ 300 ∷ []; tail = [] }
      ∷ record { kind = record { 0 = 97 ∷ 169 ∷ 92 ∷ 126 ∷ [] }; version = 1; flags = 2; id = 7; entities = 10 ∷ []; tail = codes "tail" }
      ∷ [];
}

unfoldable pub linked_lines : List ℕ
linked_lines =
    codes "brands mif1 4294967295\n"
    ++ codes "primary 10\n"
    ++ codes "item 1 hvc1 3 shown - - - -\n"
    ++ codes "item 10 uri\\x20 0 hidden \\x2d - - urn:a\\x5cb\n"
    ++ codes "  prop irot 1 essential\n"
    ++ codes "  prop ispe 12 optional\n"
    ++ codes "  ref cdsc 1\n"
    ++ codes "  ref dimg 1 300 1\n"
    ++ codes "item 300 av01 0 shown - - - -\n"
    ++ codes "group 0 altr 1 300\n"
    ++ codes "group 7 a\\xa9\\x5c~ 10\n"
