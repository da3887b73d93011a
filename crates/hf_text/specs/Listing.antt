-- The listing of a store: this project's own rule. Each line ends with one newline, and one space stands between words.
use Rattle.std.specs.Prelude.{ℕ, Bool, List, [], ◌∷◌, ◌++◌, length, if◌then◌else◌, codes}
use Rattle.std.specs.List.{flat_map}
use Rattle.std.specs.Str.{bytes_eq}
use Rattle.hf_head.specs.Ftyp.{Brands}
use Rattle.hf_store.specs.Store.{Held, Item, Group, ItemStore}
use Rattle.hf_store.specs.declared.item.RefList.{RefList}
use Rattle.hf_text.specs.Lines.{number_field, type_field}
use Rattle.hf_text.specs.Texts.{byte_text}

-- a string prints byte by byte; an empty one prints `-`, and the string `-` its byte in hexadecimal, so that no two
-- strings print the same
abbrev pub string_text : List ℕ → List ℕ
string_text bytes = if bytes_eq bytes [] then codes "-" else if bytes_eq bytes (codes "-") then codes "\\x2d" else flat_map byte_text bytes

-- a string, after a space
unfoldable pub string_field : List ℕ → List ℕ
string_field bytes = codes " " ++ string_text bytes

-- the compatible brands, which take four bytes each
unfoldable pub brand_fields : List ℕ → List ℕ
brand_fields (a ∷ b ∷ c ∷ d ∷ rest) = (codes " " ++ flat_map byte_text (a ∷ b ∷ c ∷ d ∷ [])) ++ brand_fields rest
brand_fields _ = []

-- the major brand and the minor version, then the compatible brands
unfoldable pub brands_text : Brands → List ℕ
brands_text b = (codes "brands" ++ type_field b.major ++ number_field b.minor) ++ brand_fields b.compatible ++ codes "\n"

unfoldable pub primary_text : ℕ → List ℕ
primary_text id = codes "primary" ++ number_field id ++ codes "\n"

abbrev pub shown_field : Bool → List ℕ
shown_field hidden = if hidden then codes " hidden" else codes " shown"

-- an item: its id, its type, how many bytes it has, whether it is shown, and its strings
unfoldable pub entry_text : Item → List ℕ
entry_text i =
    (codes "item" ++ number_field i.id ++ type_field i.kind ++ number_field (length i.bytes) ++ shown_field i.hidden)
    ++ string_field i.name ++ string_field i.content ++ string_field i.encoding ++ string_field i.uri ++ codes "\n"

abbrev pub essential_field : Bool → List ℕ
essential_field essential = if essential then codes " essential" else codes " optional"

-- a property of an item: its type, how many bytes its body has, and its essential mark
unfoldable pub prop_text : Held → List ℕ
prop_text h = codes "  prop" ++ type_field h.prop.kind ++ number_field (length h.prop.body) ++ essential_field h.essential ++ codes "\n"

abbrev pub id_fields : List ℕ → List ℕ
id_fields ids = flat_map number_field ids

-- the references of one type that an item has: their type, and the ids of the items that they lead to
unfoldable pub ref_text : RefList → List ℕ
ref_text r = (codes "  ref" ++ type_field r.kind) ++ id_fields r.to ++ codes "\n"

-- an item, then its properties, then its references
unfoldable pub item_text : Item → List ℕ
item_text i = entry_text i ++ (flat_map prop_text i.props ++ flat_map ref_text i.refs)

-- a group: its id, its type, and its entities
unfoldable pub group_text : Group → List ℕ
group_text g = (codes "group" ++ number_field g.id ++ type_field g.kind) ++ id_fields g.entities ++ codes "\n"

-- the brands, the primary item, the items by rising id, the groups by rising id
unfoldable pub listing_text : ItemStore → List ℕ
listing_text s = brands_text s.brands ++ primary_text s.primary ++ flat_map item_text s.items ++ flat_map group_text s.groups
