-- Worked boxes of references and of groups.
use Prim.Native.String.{String as Text}
use Rattle.std.specs.Prelude.{ℕ, List, [], ◌∷◌}
use Rattle.hf_base.specs.declared.loc.RefBox.{RefBox}
use Rattle.hf_box.specs.Boxes.{BoxAt}
use Rattle.hf_box.specs.Literals.{four, hex_of}
use Rattle.hf_links.specs.Grpl.{Group}

-- a box of this type at place 36, with a body of these bytes
abbrev pub box_with : Text → Text → BoxAt
box_with kind body = record { kind = four kind; at = 36; head = 8; body = hex_of body }

abbrev pub iref_with : Text → BoxAt
iref_with body = box_with "iref" body

abbrev pub grpl_with : Text → BoxAt
grpl_with body = box_with "grpl" body

abbrev pub references : Text → ℕ → List ℕ → RefBox
references kind from to = record { kind = four kind; from = from; to = to }

-- ---- iref

-- a thumbnail of item 1, and an item made of items 3, 1 and 3, in this order
abbrev pub two_lists : List RefBox
two_lists = references "thmb" 2 (1 ∷ []) ∷ references "dimg" 4 (3 ∷ 1 ∷ 3 ∷ []) ∷ []

unfoldable pub narrow_lists : BoxAt
narrow_lists = iref_with "00000000 0000000e 74686d62 0002 0001 0001 00000012 64696d67 0004 0003 0003 0001 0003"

unfoldable pub wide_lists : BoxAt
wide_lists = iref_with "01000000 00000012 74686d62 00000002 0001 00000001 0000001a 64696d67 00000004 0003 00000003 00000001 00000003"

-- flags, a size of eight bytes and bytes behind the ids are free
unfoldable pub free_bytes : BoxAt
free_bytes = iref_with "00abcdef 00000001 74686d62 0000000000000018 0002 0001 0001 ffff"

unfoldable pub no_lists : BoxAt
no_lists = iref_with "01000000"

unfoldable pub three_bytes : BoxAt
three_bytes = iref_with "000000"

-- a version that there is not, and one byte of an inner box
unfoldable pub version_2 : BoxAt
version_2 = iref_with "02000000 00"

-- a first inner box that is too short, and one byte of a second one
unfoldable pub cut_box : BoxAt
cut_box = iref_with "00000000 00000009 74686d62 00 00"

-- a second inner box that has no whole count, or one id less than its count
unfoldable pub short_count : BoxAt
short_count = iref_with "00000000 0000000e 74686d62 0002 0001 0001 0000000b 64696d67 0004 00"

unfoldable pub short_ids : BoxAt
short_ids = iref_with "00000000 0000000e 74686d62 0002 0001 0001 00000010 64696d67 0004 0003 0003 0001"

-- an inner box with one id and one byte of it
unfoldable pub one_link : BoxAt
one_link = record { kind = four "thmb"; at = 48; head = 8; body = hex_of "0002 0001 0001" }

unfoldable pub cut_link : BoxAt
cut_link = record { kind = four "thmb"; at = 48; head = 8; body = hex_of "0002 0001 00" }

-- ---- grpl

abbrev pub group : Text → ℕ → ℕ → ℕ → List ℕ → Text → Group
group kind version flags id entities tail = record { kind = four kind; version = version; flags = flags; id = id; entities = entities; tail = hex_of tail }

-- two groups: alternatives, and one with a version, flags and a tail
abbrev pub two_groups : List Group
two_groups = group "altr" 0 0 9 (2 ∷ 1 ∷ []) "" ∷ group "ster" 255 66051 0 (70000 ∷ []) "cafe" ∷ []

unfoldable pub groups_box : BoxAt
groups_box = grpl_with "0000001c 616c7472 00000000 00000009 00000002 00000002 00000001 0000001a 73746572 ff010203 00000000 00000001 00011170 cafe"

unfoldable pub no_groups : BoxAt
no_groups = grpl_with ""

-- a first group that is too short, and one byte of a second one
unfoldable pub cut_groups : BoxAt
cut_groups = grpl_with "00000009 616c7472 00 00"

-- a second group that has no whole count of entities, or one entity less than its count
unfoldable pub short_fields : BoxAt
short_fields = grpl_with "00000014 616c7472 00000000 00000009 00000000 00000013 616c7472 00000000 00000009 000000"

unfoldable pub short_entities : BoxAt
short_entities = grpl_with "00000014 616c7472 00000000 00000009 00000000 00000016 616c7472 00000000 00000009 00000001 0000"

-- a second group with the id of the first one
unfoldable pub one_id_twice : BoxAt
one_id_twice = grpl_with "00000014 616c7472 00000000 00000009 00000000 00000014 73746572 00000000 00000009 00000000"

-- as many entities as a table may have rows, and one less
unfoldable pub many_entities : BoxAt
many_entities = grpl_with "00000014 616c7472 00000000 00000009 00400000"

unfoldable pub fewer_entities : BoxAt
fewer_entities = grpl_with "00000014 616c7472 00000000 00000009 003fffff"
