-- Stores with a number that its field cannot say: no file lays them.
use Rattle.std.specs.Prelude.{ℕ, ◌≡◌, ◌^◌, false, List, [], ◌∷◌, length}
use Rattle.hf_store.specs.Store.{ItemStore}
use Rattle.hf_store.specs.Layout.{is_wide}
use Rattle.hf_worked.specs.BadStores.{only, grouped, alternative}
use Rattle.hf_worked.specs.LargeStores.{picture_of, referring_to}
use Rattle.hf_worked.specs.LimitStores.{holders}
use Rattle.hf_worked.specs.WorkedStores.{plain}
use Rattle.hf_plan.specs.Lay.{Lay}

-- with no width of offsets
abbrev pub HasNoFile : ItemStore → Type 0
HasNoFile s = (w : ℕ) (F : List ℕ) → Lay s w F → ⊥

-- a primary that takes four bytes, where ids take two
unfoldable pub wide_primary : ItemStore
wide_primary = record (only (plain 1 "hvc1" [])) { primary = 256 ^ 2 }

-- a reference to an id that takes four bytes, where ids take two
unfoldable pub wide_reference : ItemStore
wide_reference = referring_to (256 ^ 2 ∷ [])

-- a group with an entity that takes five bytes
unfoldable pub wide_entity : ItemStore
wide_entity = grouped (record alternative { entities = 256 ^ 4 ∷ [] })

-- a group of these entities
unfoldable pub group_of : List ℕ → ItemStore
group_of ids = grouped (record alternative { entities = ids })

-- 2^16 items, where ids take two bytes
abbrev pub ItemsAreCounted : Type 0
ItemsAreCounted = (s : ItemStore) → is_wide s.items ≡ false → length s.items ≡ 256 ^ 2 → HasNoFile s

-- a list of 2^16 references
abbrev pub ReferencesAreCounted : Type 0
ReferencesAreCounted = (ids : List ℕ) → length ids ≡ 256 ^ 2 → HasNoFile (referring_to ids)

-- 2^32 entities
abbrev pub EntitiesAreCounted : Type 0
EntitiesAreCounted = (ids : List ℕ) → length ids ≡ 256 ^ 4 → HasNoFile (group_of ids)

-- 2^15 distinct properties, the last one with a number of 16 bits
abbrev pub PropertiesAreNumbered : Type 0
PropertiesAreNumbered = HasNoFile (holders 128 255 128)

-- 2^32 bytes, where lengths take four
abbrev pub LengthsFit : Type 0
LengthsFit = (bytes F : List ℕ) → length bytes ≡ 256 ^ 4 → Lay (picture_of bytes) 4 F → ⊥
