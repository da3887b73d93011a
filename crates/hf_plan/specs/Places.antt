-- Where the bytes of items stand.
use Rattle.std.specs.Prelude.{ℕ, ◌≡◌, ◌+◌, ◌≤◌, true, List, length, take, drop, if◌then◌else◌}
use Rattle.hf_store.specs.Lists.{IsIn}
use Rattle.hf_store.specs.Store.{Item, ItemStore}
use Rattle.hf_store.specs.Layout.{own, has_bytes, in_idat, idat_body, offset_of}
use Rattle.hf_store.specs.Valid.{Valid}
use Rattle.hf_plan.specs.Lay.{Lay}

-- these bytes stand at this place of others
pub record StandsAt (at : ℕ) (bytes others : List ℕ) : Type 0 where
  pub within : at + length bytes ≤ length others
  pub are : take (length bytes) (drop at others) ≡ bytes

-- what the offset of an item counts from: the body of `idat`, or the file
abbrev pub source_of : List ℕ → List Item → Item → List ℕ
source_of F is i = if in_idat i then idat_body is else F

-- the bytes of each item that has some stand at the offset that is written for it
abbrev pub BytesStand : Type 0
BytesStand = (s : ItemStore) (w : ℕ) (F : List ℕ) (i : Item) → Valid s → Lay s w F → IsIn i s.items → has_bytes i.bytes ≡ true
    → StandsAt (offset_of own (length F) s.items i) i.bytes (source_of F s.items i)
