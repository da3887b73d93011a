-- Stores with payloads about as long as four bytes can say, whatever these payloads hold.
use Rattle.std.specs.Prelude.{ℕ, ◌≡◌, ◌-◌, ◌^◌, List, [], ◌∷◌, length}
use Rattle.hf_store.specs.Store.{ItemStore}
use Rattle.hf_worked.specs.LargeStores.{picture_of}
use Rattle.hf_worked.specs.WorkedStores.{heic, plain}
use Rattle.hf_plan.specs.Lay.{Lay}
use Rattle.hf_plan.specs.Canon.{Canon}

-- one picture of these bytes, and an item without bytes
unfoldable pub picture_and_none : List ℕ → ItemStore
picture_and_none bytes = record { brands = heic; primary = 1; items = plain 1 "hvc1" bytes ∷ plain 2 "hvc1" [] ∷ []; groups = [] }

-- a file of 2^32 - 1 bytes has offsets of four bytes
abbrev pub LongestNarrow : Type 0
LongestNarrow = (bytes : List ℕ) → length bytes ≡ 4294967105 → (F : List ℕ) × Canon (picture_of bytes) F × Lay (picture_of bytes) 4 F × (length F ≡ 2 ^ 32 - 1)

-- with one byte more it would have 2^32 bytes; so its offsets take eight bytes, and it has eight bytes more
abbrev pub ShortestWide : Type 0
ShortestWide = (bytes : List ℕ) → length bytes ≡ 4294967106 → (F : List ℕ) × Canon (picture_of bytes) F × Lay (picture_of bytes) 8 F × (length F ≡ 4294967304)

-- an item without bytes has no entry in `iloc`: no offset of it has to fit
abbrev pub NoneFits : Type 0
NoneFits = (bytes : List ℕ) → length bytes ≡ 4294967200 → (F : List ℕ) × Lay (picture_and_none bytes) 4 F × (length F ≡ 4294967411)
