-- Each trial is a valid store.
use Rattle.std.proofs.Common.{◌≡◌, ℕ, zero, suc, ◌+◌, ◌*◌, ◌<◌, ◌≤◌, Bool, true, false, cond, List, []}
use Rattle.std.proofs.Common.{◌∷◌, ◌++◌, length, length-append, map, refl, sym, ap, subst, ◌∙◌, arith, inr}
use Rattle.std.specs.Prelude.{◌==◌, nat_lt, fold, if◌then◌else◌}
use Rattle.std.specs.List.{AllByRecursion, flat_map, list_all, list_any, range_with_len}
use Rattle.std.proofs.lemmas.Bool.{eq-eqb, ne_eqb}
use Rattle.std.proofs.lemmas.Grind.{flat_map-append}
use Rattle.std.proofs.lemmas.List.{append-nil}
use Rattle.std.proofs.lemmas.List.FromFn.{length-range_with_len, length-map-range_with_len}
use Rattle.std.proofs.lemmas.List.Sums.{sum_by-cons}
use Rattle.hf_base.specs.NumberLaws.{length-num}
use Rattle.hf_base.specs.declared.limits.TheConstants as limits
use Rattle.hf_store.specs.Counts.{counts_of, counts_of_item}
use Rattle.hf_store.specs.Derived.{IsEndless, inputs, input_pairs}
use Rattle.hf_box.specs.Written.{bit}
use Rattle.hf_store.specs.Layout.{has_bytes, in_idat, is_wide}
use Rattle.hf_store.specs.Sizes.{AllProps, counted_meta, short_props}
use Rattle.hf_store.specs.Store.{Prop, Item}
use Rattle.hf_store.specs.Table.{same_prop, props_of, with_prop, table_of}
use Rattle.hf_store.specs.Valid.{body_sum, meta_len, Valid}
use Rattle.hf_store.proofs.CountsAre.{counts_are, sum-zero}
use Rattle.hf_store.proofs.Ends.{ends}
use Rattle.hf_store.proofs.MetaCounts.{all_in_table, good_fours, meta_is_counted}
use Rattle.hf_trial.specs.Bytes.{tile_ids, tile_bytes, grid_bytes, exif_bytes, trial_tail, trial_bytes}
use Rattle.hf_trial.specs.Trial.{grid_id, tile, grid, trial_store_of, trial_items}
use Rattle.hf_trial.proofs.Goods.{others, trial_rises, grid_in, all_good}
use Rattle.hf_trial.proofs.Small.{length-tile_bytes, length-ispe_body, length-hvcc_body, length-grid_bytes, sum-trial, AreSmall, cond-le, meta-small}

-- ---- no walk along `dimg` is endless

-- the grid is above all else
rank : ℕ → ℕ → ℕ
rank top id = if id == top then 1 else 0

rank-top : (top : ℕ) → rank top top ≡ 1
unfolding rank
rank-top top = ap (λ (b : Bool). cond b 1 0) (eq-eqb top top refl)

rank-below : (top id : ℕ) → id < top → rank top id ≡ 0
unfolding rank
rank-below top id below = ap (λ (b : Bool). cond b 1 0) (ne_eqb id top (λ e. omega (arith, e)))

falls-grid : (top a n : ℕ) → a + n ≤ top → list_all (λ (p : ℕ × ℕ). nat_lt (rank top p.1) (rank top p.0)) (map (λ to. (top, to)) (range_with_len a n)) ≡ true
falls-grid top a zero below = refl
falls-grid top a (suc n) below =
    let low : rank top a ≡ 0 = rank-below top a (omega arith) in
    rw (low, rank-top top) (falls-grid top (a + 1) n (omega arith))

no_pairs-tiles : (seed a n : ℕ) → input_pairs (map (tile seed) (range_with_len a n)) ≡ []
no_pairs-tiles seed a zero = refl
no_pairs-tiles seed a (suc n) = no_pairs-tiles seed (a + 1) n

pairs-trial : (seed n : ℕ) → input_pairs (trial_items seed n) ≡ map (λ to. (grid_id n, to)) (tile_ids n)
pairs-trial seed n =
    flat_map-append (λ (i : Item). map (λ to. (i.id, to)) (inputs i.refs)) (map (tile seed) (tile_ids n)) (others n)
    ∙ ap (λ (ps : List (ℕ × ℕ)). ps ++ input_pairs (others n)) (no_pairs-tiles seed 1 (16 * n))
    ∙ append-nil (map (λ to. (grid_id n, to)) (tile_ids n))

trial_ends : (seed n : ℕ) (walk : ℕ → ℕ) → IsEndless (input_pairs (trial_items seed n)) walk → ⊥
trial_ends seed n =
    let falls = falls-grid (grid_id n) 1 (16 * n) (omega arith) in
    ends (rank (grid_id n)) (input_pairs (trial_items seed n))
    (subst (λ (ps : List (ℕ × ℕ)). list_all (λ (p : ℕ × ℕ). nat_lt (rank (grid_id n) p.1) (rank (grid_id n) p.0)) ps ≡ true) (sym (pairs-trial seed n)) falls)

-- ---- distinct properties

with-le : (qs : List Prop) (p : Prop) (b : Bool) → length (cond b qs (qs ++ p ∷ [])) ≤ length qs + 1
with-le qs p true = omega arith
with-le qs p false = omega (arith, length-append qs (p ∷ []))

table-le : (qs ps : List Prop) → length (fold with_prop qs ps) ≤ length qs + length ps
table-le qs [] = omega arith
table-le qs (p ∷ ps) = omega (arith, with-le qs p (list_any (same_prop p) qs), table-le (with_prop qs p) ps)

abbrev IsShort : Prop → Type 0
IsShort p = length p.body ≤ 12

short-sum : (ps : List Prop) → AllByRecursion IsShort ps → short_props ps ≤ length ps * 20
short-sum [] all = omega arith
short-sum (p ∷ ps) all = omega (arith, sum_by-cons (λ (q : Prop). 8 + length q.body) p ps, all.0, short-sum ps all.1)

short-tiles : (seed a n : ℕ) (rest : List Item) → AllProps IsShort rest → AllProps IsShort (map (tile seed) (range_with_len a n) ++ rest)
short-tiles seed a zero rest short = short
short-tiles seed a (suc n) rest short =
    ((omega (arith, length-hvcc_body seed), (omega (arith, length-ispe_body 64 64), tt)), short-tiles seed (a + 1) n rest short)

trial_short : (seed n : ℕ) → AllProps IsShort (trial_store_of seed n).items
unfolding trial_store_of
trial_short seed n = short-tiles seed 1 (16 * n) (others n) ((omega (arith, length-ispe_body 1024 (64 * n)), tt), (tt, tt))

-- ---- counts

bit-le : (b : Bool) → bit b ≤ 1
bit-le true = omega arith
bit-le false = omega arith

trial_counts : (seed n : ℕ) → n ≤ 256 → AreSmall (counts_of (trial_store_of seed n))
unfolding counts_of trial_store_of exif_bytes
trial_counts seed n few =
    let one = length-num 1 0 in
    let grid_has = bit-le (has_bytes (grid_bytes n)) in
    let none = sum-zero (trial_items seed n) in
    let idat = cond-le (in_idat (grid n)) (length (grid_bytes n)) 0 8 (omega (arith, length-grid_bytes n)) (omega arith) in
    record {
      items = omega (arith, sum-trial (λ (i : Item). (counts_of_item i).items) seed 1 n (λ k. omega arith));
      located = omega (arith, sum-trial (λ (i : Item). (counts_of_item i).located) seed 1 n (λ k. bit-le (has_bytes (tile_bytes seed k))), grid_has);
      strings = omega (arith, one, sum-trial (λ (i : Item). (counts_of_item i).strings) seed 1 n (λ k. omega (arith, one)));
      links = omega (arith, sum-trial (λ (i : Item). (counts_of_item i).links) seed 0 n (λ k. omega arith));
      targets = omega (arith, sum-trial (λ (i : Item). (counts_of_item i).targets) seed 0 n (λ k. omega arith), length-range_with_len 1 (16 * n));
      holders = omega (arith, sum-trial (λ (i : Item). (counts_of_item i).holders) seed 1 n (λ k. omega arith));
      picks = omega (arith, sum-trial (λ (i : Item). (counts_of_item i).picks) seed 2 n (λ k. omega arith));
      idat = omega (arith, sum-trial (λ (i : Item). (counts_of_item i).idat) seed 0 n (λ k. omega arith), idat);
      groups = omega (arith, none);
      entities = omega (arith, none);
      tails = omega (arith, none);
    }

-- ---- bytes

trial_body : (seed n : ℕ) → n ≤ 256 → body_sum (trial_store_of seed n).items ≤ 300000000
unfolding body_sum trial_store_of exif_bytes
trial_body seed n few =
    omega (arith, length-grid_bytes n, sum-trial (λ (i : Item). length i.bytes) seed 65521 n (λ k. omega (arith, length-tile_bytes seed k)))

-- ---- the whole

trial_kinds : (seed n : ℕ) → n ≤ 256 → length (table_of (trial_store_of seed n)) ≤ 10000
unfolding table_of
trial_kinds seed n few =
    let s = trial_store_of seed n in
    omega (arith, table-le [] (flat_map props_of s.items), (counts_are s).picks, (trial_counts seed n few).picks)

pub trial_length : (seed n : ℕ) → length (trial_store_of seed n).items ≡ 16 * n + 2
unfolding trial_store_of
trial_length seed n = length-append (map (tile seed) (tile_ids n)) (others n) ∙ omega (arith, length-map-range_with_len (tile seed) 1 (16 * n))

trial_meta : (seed n : ℕ) → 1 ≤ n → n ≤ 256 → meta_len (trial_store_of seed n) ≤ limits.META
unfolding trial_store_of
trial_meta seed n some few =
    let s = trial_store_of seed n in
    let light = short-sum (table_of s) (all_in_table IsShort s (trial_short seed n)) in
    let props : short_props (table_of s) ≤ 200000 = omega (arith, light, trial_kinds seed n few) in
    let small = meta-small (is_wide s.items) (length (table_of s)) (short_props (table_of s)) (counts_of s) (trial_counts seed n few) props in
    let within : counted_meta s ≤ limits.META = omega (arith, small) in
    let meta = (meta_is_counted s (good_fours s (all_good seed n some few) tt) (inr within)).1 in
    omega (arith, meta, within)

pub trial_stores_are_valid : (seed n : ℕ) → 1 ≤ n → n ≤ 256 → Valid (trial_store_of seed n)
unfolding trial_store_of
trial_stores_are_valid seed n some few =
    record {
      brands = search arith;
      ids_rise = trial_rises seed n;
      primary = grid_in seed n;
      items = all_good seed n some few;
      groups_rise = tt;
      groups = tt;
      ends = trial_ends seed n;
      count = omega (arith, trial_length seed n);
      kinds = omega (arith, trial_kinds seed n few);
      body = omega (arith, trial_body seed n few);
      meta = trial_meta seed n some few;
    }

-- ---- the bytes that it is made of

bytes-tiles : (seed a n : ℕ) → length (flat_map (tile_bytes seed) (range_with_len a n)) ≤ n * 65521
bytes-tiles seed a zero = omega arith
bytes-tiles seed a (suc n) =
    let rest = bytes-tiles seed (a + 1) n in
    omega (arith, length-append (tile_bytes seed a) (flat_map (tile_bytes seed) (range_with_len (a + 1) n)), length-tile_bytes seed a)

pub length-trial_tail : (seed n : ℕ) → length (trial_tail seed n) ≡ 56
unfolding trial_tail exif_bytes
length-trial_tail seed n = simp (length-append, length-grid_bytes, length-hvcc_body, length-ispe_body) refl

pub trial_bytes_are_few : (seed n : ℕ) → n ≤ 256 → length (trial_bytes seed n) ≤ 268374072
unfolding trial_bytes
trial_bytes_are_few seed n few =
    omega (arith, length-append (flat_map (tile_bytes seed) (tile_ids n)) (trial_tail seed n), length-trial_tail seed n, bytes-tiles seed 1 (16 * n))
