-- The items of a trial are good.
use Rattle.std.proofs.Common.{◌≡◌, ℕ, zero, suc, ◌+◌, ◌*◌, ◌^◌, ◌<◌, ◌≤◌, List, [], ◌∷◌, ◌++◌, length, map, refl, sym, ap, subst, ◌∙◌, arith, inl, inr}
use Rattle.std.specs.Prelude.{IsTrue}
use Rattle.std.specs.List.{AllByRecursion, range_with_len}
use Rattle.std.proofs.lemmas.List.{map-append}
use Rattle.std.proofs.lemmas.List.FromFn.{length-range_with_len}
use Rattle.hf_base.specs.Number.{num}
use Rattle.hf_box.specs.Literals.{four}
use Rattle.hf_derived.specs.Derived.{fits}
use Rattle.hf_derived.specs.Grid.{grid_body}
use Rattle.hf_store.specs.Lists.{IsIn, RisesFrom}
use Rattle.hf_store.specs.Store.{Item, ids_of}
use Rattle.hf_store.specs.Valid.{IsGoodItem}
use Rattle.hf_store.proofs.Tables.{in_right}
use Rattle.hf_trial.specs.Bytes.{tile_ids, grid_bytes}
use Rattle.hf_trial.specs.Trial.{grid_id, exif_id, tile, grid, exif, trial_items}
use Rattle.hf_trial.proofs.Ranges.{rises-on, all_in}

-- ---- ids

-- the items behind the tiles
abbrev pub others : ℕ → List Item
others n = grid n ∷ exif n ∷ []

ids-tiles : (seed a n : ℕ) → ids_of (map (tile seed) (range_with_len a n)) ≡ range_with_len a n
ids-tiles seed a zero = refl
ids-tiles seed a (suc n) = ap (λ (ids : List ℕ). a ∷ ids) (ids-tiles seed (a + 1) n)

pub ids-trial : (seed n : ℕ) → ids_of (trial_items seed n) ≡ tile_ids n ++ grid_id n ∷ exif_id n ∷ []
ids-trial seed n =
    map-append (λ (i : Item). i.id) (map (tile seed) (tile_ids n)) (others n)
    ∙ ap (λ (ids : List ℕ). ids ++ grid_id n ∷ exif_id n ∷ []) (ids-tiles seed 1 (16 * n))

pub trial_rises : (seed n : ℕ) → RisesFrom ◌<◌ 0 (ids_of (trial_items seed n))
trial_rises seed n =
    let rises = rises-on 0 1 (16 * n) (grid_id n) (exif_id n) (omega arith) (omega arith) (omega arith) (omega arith) in
    subst (λ (ids : List ℕ). RisesFrom ◌<◌ 0 ids) (sym (ids-trial seed n)) rises

pub grid_in : (seed n : ℕ) → IsIn (grid_id n) (ids_of (trial_items seed n))
grid_in seed n =
    subst (λ (ids : List ℕ). IsIn (grid_id n) ids) (sym (ids-trial seed n)) (in_right (grid_id n) (tile_ids n) (grid_id n ∷ exif_id n ∷ []) (inl refl))

tiles_in : (seed n : ℕ) → AllByRecursion (λ id. IsIn id (ids_of (trial_items seed n))) (tile_ids n)
tiles_in seed n =
    subst (λ (ids : List ℕ). AllByRecursion (λ id. IsIn id ids) (tile_ids n)) (sym (ids-trial seed n)) (all_in (tile_ids n) (grid_id n ∷ exif_id n ∷ []))

-- ---- the grid

-- n rows of 16
pub grid_fits : (n : ℕ) → 1 ≤ n → n ≤ 256 → IsTrue (fits (four "grid") (grid_bytes n) (length (tile_ids n)))
unfolding grid_bytes grid_body num
grid_fits n some few =
    let count = length-range_with_len 1 (16 * n) in
    search (arith, count)

-- ---- all of them

good_tile : (is : List Item) (seed k : ℕ) → k < 256 ^ 4 → IsGoodItem is (tile seed k)
good_tile is seed k few =
    record {
      id = few;
      kind = refl;
      name = tt;
      content = tt;
      encoding = tt;
      uri = tt;
      only_mime = inr (refl, refl);
      only_uri = inr refl;
      props = omega arith;
      prop_kinds = (refl, (refl, tt));
      refs = tt;
      kinds_rise = tt;
      fits = search arith;
    }

good_grid : (seed n : ℕ) → 1 ≤ n → n ≤ 256 → IsGoodItem (trial_items seed n) (grid n)
good_grid seed n some few =
    let count = length-range_with_len 1 (16 * n) in
    record {
      id = omega arith;
      kind = refl;
      name = tt;
      content = tt;
      encoding = tt;
      uri = tt;
      only_mime = inr (refl, refl);
      only_uri = inr refl;
      props = omega arith;
      prop_kinds = (refl, tt);
      refs = (record { kind = refl; not_iloc = search arith; some = omega (arith, count); links = omega (arith, count); to = tiles_in seed n }, tt);
      kinds_rise = tt;
      fits = grid_fits n some few;
    }

good_exif : (seed n : ℕ) → n ≤ 256 → IsGoodItem (trial_items seed n) (exif n)
good_exif seed n few =
    record {
      id = omega arith;
      kind = refl;
      name = search arith;
      content = tt;
      encoding = tt;
      uri = tt;
      only_mime = inr (refl, refl);
      only_uri = inr refl;
      props = omega arith;
      prop_kinds = tt;
      refs = (record { kind = refl; not_iloc = search arith; some = omega arith; links = omega arith; to = (grid_in seed n, tt) }, tt);
      kinds_rise = tt;
      fits = search arith;
    }

good_tiles : (is rest : List Item) (seed a n : ℕ) → a + n < 256 ^ 4 → AllByRecursion (IsGoodItem is) rest
    → AllByRecursion (IsGoodItem is) (map (tile seed) (range_with_len a n) ++ rest)
good_tiles is rest seed a zero few good = good
good_tiles is rest seed a (suc n) few good = (good_tile is seed a (omega arith), good_tiles is rest seed (a + 1) n (omega arith) good)

pub all_good : (seed n : ℕ) → 1 ≤ n → n ≤ 256 → AllByRecursion (IsGoodItem (trial_items seed n)) (trial_items seed n)
all_good seed n some few =
    good_tiles (trial_items seed n) (others n) seed 1 (16 * n) (omega arith) (good_grid seed n some few, (good_exif seed n few, tt))
