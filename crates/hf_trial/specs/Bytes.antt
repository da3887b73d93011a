-- The bytes that a trial is made of. Which they are is this project's own rule.
use Rattle.std.specs.Prelude.{ℕ, ◌+◌, ◌*◌, ◌%◌, false, List, ◌++◌, map}
use Rattle.std.specs.List.{flat_map, range_with_len}
use Rattle.hf_base.specs.Number.{num}
use Rattle.hf_base.specs.Reading.{full as full_box}
use Rattle.hf_box.specs.Literals.{hex_of}
use Rattle.hf_derived.specs.Grid.{grid_body}

-- the ids of the tiles of n rows
abbrev pub tile_ids : ℕ → List ℕ
tile_ids n = range_with_len 1 (16 * n)

-- the body of an `ispe`, ImageSpatialExtentsProperty of ISO/IEC 23008-12
unfoldable pub ispe_body : ℕ → ℕ → List ℕ
ispe_body width height =
    full_box 0 0  -- version and flags
    ++ num width 4  -- image_width
    ++ num height 4  -- image_height

-- the body of the `hvcC` of each tile
unfoldable pub hvcc_body : ℕ → List ℕ
hvcc_body seed = num seed 4

-- how many bytes tile k has
abbrev pub tile_size : ℕ → ℕ → ℕ
tile_size seed k = 1 + (seed * k) % 65521

-- the bytes of tile k
unfoldable pub tile_bytes : ℕ → ℕ → List ℕ
tile_bytes seed k = map (λ j. (seed + k + j) % 256) (range_with_len 0 (tile_size seed k))

-- the payload of the grid: n rows of 16 tiles, each of 64 by 64
unfoldable pub grid_bytes : ℕ → List ℕ
grid_bytes n = grid_body false (record { rows = n; columns = 16; width = 1024; height = 64 * n })

-- the bytes of the metadata: the offset of what is described, and sixteen bytes
unfoldable pub exif_bytes : List ℕ
exif_bytes = hex_of "00000000 000102030405060708090a0b0c0d0e0f"

-- the bytes behind those of the tiles
unfoldable pub trial_tail : ℕ → ℕ → List ℕ
trial_tail seed n =
    grid_bytes n
    ++ exif_bytes
    ++ hvcc_body seed
    ++ ispe_body 64 64
    ++ ispe_body 1024 (64 * n)

-- the bytes that the store is made of: those of the tiles by rising id, and behind them those of the others
unfoldable pub trial_bytes : ℕ → ℕ → List ℕ
trial_bytes seed n = flat_map (tile_bytes seed) (tile_ids n) ++ trial_tail seed n
