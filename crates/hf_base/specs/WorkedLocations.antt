-- Words for worked places of items.
use Rattle.std.specs.Prelude.{ℕ, List, [], ◌∷◌, map, Option, Result}
use Rattle.hf_base.specs.declared.fault.ReadRefusal.{ReadRefusal}
use Rattle.hf_base.specs.declared.kinds.TheConstants.{ILOC}
use Rattle.hf_base.specs.declared.loc.Extent.{Extent}
use Rattle.hf_base.specs.declared.loc.Loc.{Loc}
use Rattle.hf_base.specs.declared.loc.RefBox.{RefBox}
use Rattle.hf_base.specs.Located.{Located, located_item, located_items}
use Rattle.hf_base.specs.BytesOf.{bytes_of}
use Rattle.hf_base.specs.LocationFaults.{locations_fault}

-- an extent with its source
abbrev pub extent_of : ℕ → ℕ → ℕ → Extent
extent_of index offset length = record { index = index; offset = offset; length = length }

-- one of the first source
abbrev pub extent : ℕ → ℕ → Extent
extent offset length = extent_of 1 offset length

-- an entry with its data reference and its base
abbrev pub entry_from : ℕ → ℕ → ℕ → ℕ → List Extent → Loc
entry_from id method dref base extents = record { id = id; method = method; dref = dref; base = base; extents = extents }

-- one of this file whose offsets count from 0
abbrev pub entry : ℕ → ℕ → List Extent → Loc
entry id method extents = entry_from id method 0 0 extents

-- a box of references of type `iloc`
abbrev pub located_in : ℕ → List ℕ → RefBox
located_in from to = record { kind = ILOC; from = from; to = to }

-- the fault of the places of these items
abbrev pub fault : List ℕ → Option (List ℕ) → List ℕ → List Loc → List RefBox → Result (Unit {0}) ReadRefusal
fault F idat ids locs links = locations_fault F idat (located_items ids locs links)

-- the bytes of each of them
abbrev pub bytes : List ℕ → Option (List ℕ) → List ℕ → List Loc → List RefBox → List (Option (List ℕ))
bytes F idat ids locs links = map (bytes_of F idat (located_items ids locs links)) (located_items ids locs links)

-- ---- items that several clauses speak of

-- items 2 and 3, without an entry
abbrev pub bare_items : List Located
bare_items = located_items (2 ∷ 3 ∷ []) [] []

-- an item with four references, of which the second and the fourth name no item
abbrev pub by_reference : Located
by_reference = located_item [] (located_in 1 (3 ∷ 9 ∷ 2 ∷ 1 ∷ []) ∷ []) 1

-- item 3 lies in item 2, which lies in item 1
abbrev pub chain_entries : List Loc
chain_entries = entry 1 0 (extent 0 1 ∷ []) ∷ entry 2 2 (extent 0 1 ∷ []) ∷ entry 3 2 (extent 0 1 ∷ []) ∷ []

abbrev pub chain_links : List RefBox
chain_links = located_in 2 (1 ∷ []) ∷ located_in 3 (2 ∷ []) ∷ []

abbrev pub chain : List Located
chain = located_items (1 ∷ 2 ∷ 3 ∷ []) chain_entries chain_links

-- item 2 has two parts, the first at the later place, and item 3 lies in item 2
abbrev pub parted_file : List ℕ
parted_file = 170 ∷ 187 ∷ 204 ∷ 32 ∷ 33 ∷ 34 ∷ 16 ∷ 17 ∷ 18 ∷ []

abbrev pub parted_entries : List Loc
parted_entries = entry 3 2 (extent 2 4 ∷ []) ∷ entry 1 0 (extent 0 3 ∷ []) ∷ entry 2 0 (extent 6 3 ∷ extent 3 3 ∷ []) ∷ []

-- item 2 is the whole of item 1, item 3 has parts of item 2 and of item 4, which is the whole `idat`, and item 5 has no entry
abbrev pub counted : List Located
counted = located_items (1 ∷ 2 ∷ 3 ∷ 4 ∷ 5 ∷ [])
    (entry 1 0 (extent 0 2 ∷ extent 4 1 ∷ []) ∷ entry 2 2 (extent 0 0 ∷ []) ∷ entry 3 2 (extent 0 1 ∷ extent_of 2 0 4 ∷ []) ∷ entry 4 1 (extent 0 0 ∷ []) ∷ [])
    (located_in 2 (1 ∷ []) ∷ located_in 3 (2 ∷ 4 ∷ []) ∷ [])
