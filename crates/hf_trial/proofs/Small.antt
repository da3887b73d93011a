-- What is counted over a trial is small.
use Rattle.std.proofs.Common.{◌≡◌, ℕ, zero, suc, ◌+◌, ◌*◌, ◌%◌, ◌≤◌, Bool, true, false, ltb, [], ◌∷◌, length, length-append, map, refl, arith}
use Rattle.std.specs.Prelude.{◌==◌, cond}
use Rattle.std.specs.List.{range_with_len, sum_by}
use Rattle.std.proofs.lemmas.List.Sums.{sum_by-cons, sum_by-append}
use Rattle.std.proofs.lemmas.List.FromFn.{length-map-range_with_len}
use Rattle.hf_base.specs.NumberLaws.{length-num}
use Rattle.hf_derived.specs.Grid.{grid_body}
use Rattle.hf_box.specs.Head.{box_len}
use Rattle.hf_box.specs.Written.{bit, id_width}
use Rattle.hf_store.specs.Store.{Item}
use Rattle.hf_store.specs.Sizes.{short_inner, meta_body_size, meta_size_by}
use Rattle.hf_store.specs.declared.tally.Counts.{Counts}
use Rattle.hf_store.proofs.BoxLengths.{box_len-le}
use Rattle.hf_trial.specs.Bytes.{ispe_body, hvcc_body, tile_bytes, grid_bytes, tile_size, tile_ids}
use Rattle.hf_trial.specs.Trial.{tile, grid, exif, trial_items}
use Rattle.hf_trial.proofs.Goods.{others}

-- ---- lengths

pub length-tile_bytes : (seed k : ℕ) → length (tile_bytes seed k) ≡ tile_size seed k
unfolding tile_bytes
length-tile_bytes seed k = length-map-range_with_len (λ j. (seed + k + j) % 256) 0 (tile_size seed k)

pub length-ispe_body : (width height : ℕ) → length (ispe_body width height) ≡ 12
unfolding ispe_body
length-ispe_body width height = simp (length-append, length-num) refl

pub length-hvcc_body : (seed : ℕ) → length (hvcc_body seed) ≡ 4
unfolding hvcc_body
length-hvcc_body seed = length-num 4 seed

pub length-grid_bytes : (n : ℕ) → length (grid_bytes n) ≡ 8
unfolding grid_bytes grid_body
length-grid_bytes n = simp (length-append, length-num) refl

-- ---- sums

-- of the tiles, where each has at most so many
sum-tiles : (f : Item → ℕ) (seed most a n : ℕ) → ((k : ℕ) → f (tile seed k) ≤ most) → sum_by f (map (tile seed) (range_with_len a n)) ≤ n * most
sum-tiles f seed most a zero each = omega arith
sum-tiles f seed most a (suc n) each =
    omega (arith, sum_by-cons f (tile seed a) (map (tile seed) (range_with_len (a + 1) n)), each a, sum-tiles f seed most (a + 1) n each)

-- and of all items
pub sum-trial : (f : Item → ℕ) (seed most n : ℕ) → ((k : ℕ) → f (tile seed k) ≤ most) → sum_by f (trial_items seed n) ≤ 16 * n * most + f (grid n) + f (exif n)
sum-trial f seed most n each =
    let both = sum_by-cons f (grid n) (exif n ∷ []) in
    omega (arith, sum_by-append f (map (tile seed) (tile_ids n)) (others n), both, sum_by-cons f (exif n) [], sum-tiles f seed most 1 (16 * n) each)

-- ---- `meta`

-- counts of a small store
pub record AreSmall (c : Counts) : Type 0 where
  pub items : c.items ≤ 10000
  pub located : c.located ≤ 10000
  pub strings : c.strings ≤ 10000
  pub links : c.links ≤ 10000
  pub targets : c.targets ≤ 10000
  pub holders : c.holders ≤ 10000
  pub picks : c.picks ≤ 10000
  pub idat : c.idat ≤ 10000
  pub groups : c.groups ≡ 0
  pub entities : c.entities ≡ 0
  pub tails : c.tails ≡ 0

pub cond-le : (b : Bool) (x y top : ℕ) → x ≤ top → y ≤ top → cond b x y ≤ top
cond-le true x y top h k = h
cond-le false x y top h k = k

double-le : (b : Bool) (n : ℕ) → n * (1 + bit b) ≤ n * 2
double-le true n = omega arith
double-le false n = omega arith

wide-le : (wide : Bool) (n : ℕ) → n * id_width wide ≤ n * 4
wide-le true n = omega arith
wide-le false n = omega arith

-- `meta` is small, whatever the width of ids and of associations
pub meta-small : (wide : Bool) (n props : ℕ) (c : Counts) → AreSmall c → props ≤ 200000 → meta_size_by wide 8 n c (short_inner wide props c) ≤ 1000000
meta-small wide n props c small light =
    let b = short_inner wide props c in
    let one : id_width wide ≤ 4 = omega (arith, wide-le wide 1) in
    let iinf = box_len-le (4 + id_width wide + b.infes) in
    let links : box_len (4 + b.links) ≤ 200000 = omega (arith, box_len-le (4 + b.links), wide-le wide c.links, wide-le wide c.targets) in
    let iref = cond-le (c.links == 0) 0 (box_len (4 + b.links)) 200000 (omega arith) links in
    let ipco = box_len-le props in
    let ipma = box_len-le (8 + c.holders * (1 + id_width wide) + c.picks * (1 + bit (ltb 127 n))) in
    let iprp = box_len-le (box_len props + box_len (8 + c.holders * (1 + id_width wide) + c.picks * (1 + bit (ltb 127 n)))) in
    let grpl = cond-le (c.groups == 0) 0 (box_len b.groups) 100 (omega arith) (omega (arith, box_len-le b.groups)) in
    let idat = cond-le (c.idat == 0) 0 (box_len c.idat) 20000 (omega arith) (omega (arith, box_len-le c.idat)) in
    let iloc = box_len-le (6 + id_width wide + c.located * (6 + id_width wide + (8 + 8))) in
    let meta = box_len-le (meta_body_size wide 8 n c b) in
    omega (arith, wide-le wide c.items, wide-le wide c.holders, double-le (ltb 127 n) c.picks, wide-le wide c.located)
