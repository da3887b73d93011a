-- The trial: an image of many tiles with its metadata, fixed by a seed and a number of rows. Which properties, references
-- and names it has is this project's own rule; the terms are those of ISO/IEC 14496-12 and ISO/IEC 23008-12.
use Rattle.std.specs.Prelude.{ℕ, ◌+◌, ◌*◌, true, false, List, [], ◌∷◌, ◌++◌, map, codes}
use Rattle.hf_box.specs.Literals.{four}
use Rattle.hf_head.specs.Ftyp.{Brands}
use Rattle.hf_store.specs.Store.{Held, Item, ItemStore}
use Rattle.hf_trial.specs.Bytes.{tile_ids, tile_bytes, grid_bytes, exif_bytes, hvcc_body, ispe_body}

-- `heic`, compatible with `mif1` and `heic`
abbrev pub heic : Brands
heic = record { major = four "heic"; minor = 0; compatible = codes "mif1heic" }

-- ---- items

abbrev pub grid_id : ℕ → ℕ
grid_id n = 16 * n + 1

abbrev pub exif_id : ℕ → ℕ
exif_id n = 16 * n + 2

-- an essential `hvcC` with this body
abbrev pub essential_hvcc : List ℕ → Held
essential_hvcc body = record { essential = true; prop = record { kind = four "hvcC"; body = body } }

-- an `ispe` with this body, which is not essential
abbrev pub optional_ispe : List ℕ → Held
optional_ispe body = record { essential = false; prop = record { kind = four "ispe"; body = body } }

-- a hidden image with these bytes, and these bodies of its `hvcC` and `ispe`
abbrev pub tile_of : ℕ → List ℕ → List ℕ → List ℕ → Item
tile_of id bytes hvcc ispe = record {
  id = id;
  kind = four "hvc1";
  hidden = true;
  name = [];
  content = [];
  encoding = [];
  uri = [];
  bytes = bytes;
  props = essential_hvcc hvcc ∷ optional_ispe ispe ∷ [];
  refs = [];
}

-- tile k
abbrev pub tile : ℕ → ℕ → Item
tile seed k = tile_of k (tile_bytes seed k) (hvcc_body seed) (ispe_body 64 64)

-- the grid of n rows with this payload, and this body of its `ispe`, made of all tiles
abbrev pub grid_of : ℕ → List ℕ → List ℕ → Item
grid_of n bytes ispe = record {
  id = grid_id n;
  kind = four "grid";
  hidden = false;
  name = [];
  content = [];
  encoding = [];
  uri = [];
  bytes = bytes;
  props = optional_ispe ispe ∷ [];
  refs = record { kind = four "dimg"; to = tile_ids n } ∷ [];
}

abbrev pub grid : ℕ → Item
grid n = grid_of n (grid_bytes n) (ispe_body 1024 (64 * n))

-- the metadata of the grid of n rows, with these bytes
abbrev pub exif_of : ℕ → List ℕ → Item
exif_of n bytes = record {
  id = exif_id n;
  kind = four "Exif";
  hidden = false;
  name = codes "Exif";
  content = [];
  encoding = [];
  uri = [];
  bytes = bytes;
  props = [];
  refs = record { kind = four "cdsc"; to = grid_id n ∷ [] } ∷ [];
}

abbrev pub exif : ℕ → Item
exif n = exif_of n exif_bytes

-- ---- the store, and its bytes

-- the tiles by rising id, the grid, and its metadata
abbrev pub trial_items : ℕ → ℕ → List Item
trial_items seed n = map (tile seed) (tile_ids n) ++ grid n ∷ exif n ∷ []

-- these items, of which the grid is the primary
unfoldable pub trial_store_of : ℕ → ℕ → ItemStore
trial_store_of seed n = record {
  brands = heic;
  primary = grid_id n;
  items = trial_items seed n;
  groups = [];
}
