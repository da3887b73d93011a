-- A worked store and its redactions: chains of items of which one keeps the next, and what refers to them.
use Rattle.std.specs.Prelude.{ℕ, true, List, [], ◌∷◌, ◌++◌, codes}
use Rattle.hf_box.specs.Literals.{hex_of}
use Rattle.hf_store.specs.Store.{Held, Item, Group, ItemStore}
use Rattle.hf_store.specs.declared.item.RefList.{RefList}
use Rattle.hf_worked.specs.WorkedChanges.{alternatives, pair_with_tail}
use Rattle.hf_worked.specs.WorkedStores.{heic, plain, essential, optional, references}

-- a picture with these references
abbrev pub picture : ℕ → List RefList → Item
picture id refs = record (plain id "hvc1" (hex_of "aabb")) { refs = refs }

-- the primary item needs the third, and the third needs the fifth, of which the second is a thumbnail, of which the fourth is
-- an auxiliary picture
abbrev pub chained : List Item → List Group → ItemStore
chained items groups = record { brands = heic; primary = 1; items = items; groups = groups }

abbrev pub third : Item
third = picture 3 (references "tbas" (5 ∷ []) ∷ [])

abbrev pub thumbnail : Item
thumbnail = picture 2 (references "thmb" (5 ∷ []) ∷ [])

abbrev pub auxiliary : Item
auxiliary = picture 4 (references "auxl" (2 ∷ []) ∷ [])

abbrev pub kept_size : Held
kept_size = optional "ispe" (hex_of "04")

-- groups that the seventh item is in
abbrev pub with_seventh : List Group
with_seventh = alternatives 10 (1 ∷ 7 ∷ []) ∷ pair_with_tail 11 (1 ∷ 7 ∷ []) ∷ alternatives 12 (7 ∷ []) ∷ []

-- the seventh is what metadata alone describes and needs; it needs the primary item itself
unfoldable pub described_chain : ItemStore
described_chain = chained
    (
    record (picture 1 (references "cdsc" (7 ∷ []) ∷ references "prem" (3 ∷ []) ∷ [])) {
      hidden = true;
      name = codes "IMG";
      props = essential "udes" (hex_of "01") ∷ optional "udes" (hex_of "02") ∷ optional "crtt" (hex_of "03") ∷ kept_size ∷ optional "mdft" (hex_of "05") ∷ [];
    }
    ∷ record thumbnail { name = codes "small"; props = optional "crtt" (hex_of "03") ∷ [] }
    ∷ third
    ∷ auxiliary
    ∷ record (picture 5 []) { props = essential "mdft" (hex_of "06") ∷ [] }
    ∷ record (plain 6 "Exif" (hex_of "00000000 45")) { refs = references "cdsc" (1 ∷ 7 ∷ []) ∷ references "prem" (7 ∷ []) ∷ [] }
    ∷ picture 7 (references "prem" (1 ∷ []) ∷ [])
    ∷ []
    )
    (with_seventh ++ alternatives 13 (2 ∷ 1 ∷ []) ∷ pair_with_tail 14 (3 ∷ 1 ∷ []) ∷ [])

-- what a redaction leaves of the primary item
abbrev pub bared_first : Item
bared_first = record (picture 1 (references "prem" (3 ∷ []) ∷ [])) { hidden = true; props = essential "udes" (hex_of "01") ∷ kept_size ∷ [] }

abbrev pub fifth : Item
fifth = record (picture 5 []) { props = essential "mdft" (hex_of "06") ∷ [] }

unfoldable pub redacted_chain : ItemStore
redacted_chain = chained
    (bared_first ∷ thumbnail ∷ third ∷ auxiliary ∷ fifth ∷ [])
    (alternatives 10 (1 ∷ []) ∷ alternatives 13 (2 ∷ 1 ∷ []) ∷ pair_with_tail 14 (3 ∷ 1 ∷ []) ∷ [])

-- and a redaction without thumbnails and auxiliary pictures
unfoldable pub bare_chain : ItemStore
bare_chain = chained (bared_first ∷ third ∷ fifth ∷ []) (alternatives 10 (1 ∷ []) ∷ alternatives 13 (1 ∷ []) ∷ pair_with_tail 14 (3 ∷ 1 ∷ []) ∷ [])
