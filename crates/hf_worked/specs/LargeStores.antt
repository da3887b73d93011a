-- Stores at the limits, whatever their bytes are.
use Rattle.std.specs.Prelude.{ℕ, ◌≡◌, List, [], ◌∷◌, length}
use Rattle.hf_base.specs.Entries.{HasNoZero}
use Rattle.std.specs.List.{AllByRecursion}
use Rattle.hf_store.specs.Store.{ItemStore}
use Rattle.hf_worked.specs.WorkedStores.{heic, plain, references}
use Rattle.hf_store.specs.Valid.{Valid}

-- one item with this name, and without bytes
unfoldable pub named : List ℕ → ItemStore
named name = record { brands = heic; primary = 1; items = record (plain 1 "hvc1" []) { name = name } ∷ []; groups = [] }

-- one item with these bytes
unfoldable pub picture_of : List ℕ → ItemStore
picture_of bytes = record { brands = heic; primary = 1; items = plain 1 "hvc1" bytes ∷ []; groups = [] }

-- one item with these references
unfoldable pub referring_to : List ℕ → ItemStore
referring_to ids = record { brands = heic; primary = 1; items = record (plain 1 "hvc1" []) { refs = references "cdsc" ids ∷ [] } ∷ []; groups = [] }

-- the longest name that leaves `meta` 2^30 bytes, and one byte more
abbrev pub MetaIsKept : Type 0
MetaIsKept =
    ((name : List ℕ) → HasNoZero name → length name ≡ 1073741682 → Valid (named name))
    × ((name : List ℕ) → length name ≡ 1073741683 → Valid (named name) → ⊥)

abbrev pub BodyIsKept : Type 0
BodyIsKept =
    ((bytes : List ℕ) → length bytes ≡ 1099511627776 → Valid (picture_of bytes))
    × ((bytes : List ℕ) → length bytes ≡ 1099511627777 → Valid (picture_of bytes) → ⊥)

-- 65,535 references of one type, each to the item itself, and one more
abbrev pub LinksAreKept : Type 0
LinksAreKept =
    ((ids : List ℕ) → AllByRecursion (λ id. id ≡ 1) ids → length ids ≡ 65535 → Valid (referring_to ids))
    × ((ids : List ℕ) → length ids ≡ 65536 → Valid (referring_to ids) → ⊥)
