-- Stores at the limits of counts and widths, and the same with one more.
use Rattle.std.specs.Prelude.{ℕ, ◌≡◌, ◌+◌, ◌-◌, ◌*◌, ◌/◌, ◌%◌, ◌^◌, List, [], ◌∷◌, ◌++◌, length, map, codes}
use Rattle.std.specs.List.{range_with_len}
use Rattle.hf_box.specs.Literals.{four, hex_of}
use Rattle.hf_store.specs.Store.{Held, Item, ItemStore}
use Rattle.hf_worked.specs.BadStores.{only, grouped, alternative}
use Rattle.hf_worked.specs.WorkedStores.{heic, plain, optional}
use Rattle.hf_store.specs.Valid.{Valid}

-- ---- `mif1` among the brands

-- the second of the compatible brands
unfoldable pub mif1_second : ItemStore
mif1_second = record (only (plain 1 "hvc1" [])) { brands = record heic { compatible = codes "heicmif1" } }

-- the third of them
unfoldable pub mif1_third : ItemStore
mif1_third = record (only (plain 1 "hvc1" [])) { brands = record heic { compatible = codes "heicmsf1mif1" } }

-- the major brand, and others
unfoldable pub mif1_major : ItemStore
mif1_major = record (only (plain 1 "hvc1" [])) { brands = record heic { major = four "mif1"; compatible = codes "heic" } }

-- the only brand
unfoldable pub mif1_alone : ItemStore
mif1_alone = record (only (plain 1 "hvc1" [])) { brands = record heic { major = four "mif1"; compatible = [] } }

-- ---- widths

-- the greatest minor version
unfoldable pub greatest_minor : ItemStore
greatest_minor = record (only (plain 1 "hvc1" [])) { brands = record heic { minor = 256 ^ 4 - 1 } }

-- the greatest id of an item
unfoldable pub greatest_id : ItemStore
greatest_id = only (plain (256 ^ 4 - 1) "hvc1" [])

-- the greatest version, flags and id of a group, which has the picture twice
unfoldable pub greatest_group : ItemStore
greatest_group = grouped (record alternative { version = 255; flags = 256 ^ 3 - 1; id = 256 ^ 4 - 1; entities = 1 ∷ 1 ∷ [] })

-- strings of the least and the greatest byte that they may have
unfoldable pub least_bytes : ItemStore
least_bytes = only (record (plain 1 "mime" []) { name = hex_of "01ff"; content = hex_of "01ff"; encoding = hex_of "01ff" })

-- ---- counts

-- a property of its own for each number below 256 ^ 2
abbrev pub numbered : ℕ → Held
numbered n = optional "prop" (n / 256 ∷ n % 256 ∷ [])

-- an item with so many properties, numbered from the first one on
abbrev pub holder : ℕ → ℕ → ℕ → Item
holder id first count = record (plain id "hvc1" []) { props = map numbered (range_with_len first count) }

-- so many items with as many properties each, and a last one with the rest of them; no property comes twice
unfoldable pub holders : ℕ → ℕ → ℕ → ItemStore
holders count each rest = record {
  brands = heic;
  primary = count + 1;
  items = map (λ n. holder (n + 1) (each * n) each) (range_with_len 0 count) ++ holder (count + 1) (each * count) rest ∷ [];
  groups = [];
}

-- 65,536 items
abbrev pub ItemsAreKept : Type 0
ItemsAreKept = Valid (holders 65535 0 0) × (Valid (holders 65536 0 0) → ⊥)

-- 255 properties of an item
abbrev pub PropsAreKept : Type 0
PropsAreKept = Valid (holders 0 0 255) × (Valid (holders 0 0 256) → ⊥)

-- 32,767 distinct properties
abbrev pub KindsAreKept : Type 0
KindsAreKept = Valid (holders 128 255 127) × (Valid (holders 128 255 128) → ⊥)

-- one picture, and these brands behind `mif1`
unfoldable pub compatible_with : List ℕ → ItemStore
compatible_with brands = record (only (plain 1 "hvc1" [])) { brands = record heic { compatible = codes "mif1" ++ brands } }

-- 2^30 bytes of compatible brands
abbrev pub BrandsAreKept : Type 0
BrandsAreKept =
    ((brands : List ℕ) → length brands ≡ 1073741820 → Valid (compatible_with brands))
    × ((brands : List ℕ) → length brands ≡ 1073741824 → Valid (compatible_with brands) → ⊥)
