-- The plans of worked stores, counted from the fields of their boxes.
use Rattle.std.specs.Prelude.{◌+◌, ◌*◌, ◌/◌, false, [], ◌∷◌, ◌++◌, map, replicate, Some, None}
use Rattle.std.specs.List.{range_with_len}
use Rattle.hf_plan.specs.declared.sizes.Sizes.{Sizes}
use Rattle.hf_plan.specs.Plan.{Planned}

-- the photograph: its tiles have 101 bytes, 102 and so on, and stand before the thumbnail of 200 bytes, Exif of 20 and
-- XMP of 30; the 8 bytes of its grid are all that `idat` has
unfoldable pub plan_of_photograph : Planned
plan_of_photograph = record {
  wide = false;
  long = false;
  total = 8852;
  starts = map (λ n. Some (2626 + 100 * n + n * (n + 1) / 2)) (range_with_len 0 48) ++ Some 0 ∷ Some 8602 ∷ Some 8802 ∷ Some 8822 ∷ [];
  sizes = record { meta = 2594; iinf = 1134; iref = 162; iprp = 375; ipco = 101; ipma = 266; grpl = 0; idat = 16; iloc = 848; mdat = 6234 };
  firsts = (0, 0) ∷ (0, 1) ∷ (48, 0) ∷ (48, 1) ∷ (49, 0) ∷ (49, 1) ∷ [];
  numbers = replicate 48 (1 ∷ 2 ∷ []) ++ (3 ∷ 4 ∷ []) ∷ (5 ∷ 6 ∷ []) ∷ [] ∷ [] ∷ [];
}

-- every feature at once: an item without bytes, and a grid of 8 bytes in `idat` before an overlay
unfoldable pub plan_of_every_feature : Planned
plan_of_every_feature = record {
  wide = false;
  long = false;
  total = 1121;
  starts = Some 793 ∷ Some 796 ∷ Some 0 ∷ Some 797 ∷ Some 801 ∷ None ∷ Some 803 ∷ Some 8 ∷ Some 804 ∷ Some 1118 ∷ [];
  sizes = record { meta = 761; iinf = 274; iref = 86; iprp = 86; ipco = 47; ipma = 31; grpl = 62; idat = 34; iloc = 160; mdat = 336 };
  firsts = (0, 0) ∷ (0, 1) ∷ (1, 2) ∷ [];
  numbers = (1 ∷ 2 ∷ []) ∷ (2 ∷ 1 ∷ 3 ∷ []) ∷ (2 ∷ []) ∷ [] ∷ [] ∷ [] ∷ [] ∷ [] ∷ [] ∷ [] ∷ [];
}

-- its boxes with offsets of eight bytes
unfoldable pub long_sizes_of_every_feature : Sizes
long_sizes_of_every_feature = record { meta = 833; iinf = 274; iref = 86; iprp = 86; ipco = 47; ipma = 31; grpl = 62; idat = 34; iloc = 232; mdat = 336 }
