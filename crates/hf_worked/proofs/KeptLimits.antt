-- Stores at the limits of counts and widths.
use Rattle.std.proofs.Common.{◌≡◌, ℕ, zero, suc, ◌+◌, ◌*◌, ◌≤◌, List, length, length-append, map, refl, ap, arith}
use Rattle.std.specs.List.{flat_map, range_with_len}
use Rattle.std.proofs.lemmas.List.FromFn.{length-map-range_with_len}
use Rattle.hf_store.specs.Table.{props_of, table_of}
use Rattle.hf_store.specs.Derived.{input_pairs}
use Rattle.hf_prop.specs.Iprp.{ipco_body}
use Rattle.hf_store.specs.Valid.{body_sum, meta_len, Valid}
use Rattle.hf_worked.specs.LimitStores.{mif1_second, mif1_third, mif1_major, mif1_alone, greatest_minor, greatest_id, greatest_group, least_bytes, numbered, holders, compatible_with, ItemsAreKept, PropsAreKept, KindsAreKept, BrandsAreKept}
use Rattle.hf_store.proofs.BoxLengths.{length-box, box_len-le}
use Rattle.hf_worked.proofs.BareLengths.{no_inputs-bare, no_bytes-bare, meta-bare}
use Rattle.hf_store.proofs.Ends.{ends}
use Rattle.hf_store.proofs.Finds.{found}
use Rattle.hf_worked.proofs.Holders.{kind, holders-kinds, holders-table, holders-distinct, from_on, all_bare, all_good, all_rise, last_in}
use Rattle.hf_worked.proofs.ValidStores.{layout}

pub valid_mif1_second : Valid mif1_second
unfolding layout mif1_second
valid_mif1_second =
    let ends = ends (λ id. 0) (input_pairs mif1_second.items) refl in
    search (found, ends, arith)

pub valid_mif1_third : Valid mif1_third
unfolding layout mif1_third
valid_mif1_third =
    let ends = ends (λ id. 0) (input_pairs mif1_third.items) refl in
    search (found, ends, arith)

pub valid_mif1_major : Valid mif1_major
unfolding layout mif1_major
valid_mif1_major =
    let ends = ends (λ id. 0) (input_pairs mif1_major.items) refl in
    search (found, ends, arith)

pub valid_mif1_alone : Valid mif1_alone
unfolding layout mif1_alone
valid_mif1_alone =
    let ends = ends (λ id. 0) (input_pairs mif1_alone.items) refl in
    search (found, ends, arith)

pub valid_greatest_minor : Valid greatest_minor
unfolding layout greatest_minor
valid_greatest_minor =
    let ends = ends (λ id. 0) (input_pairs greatest_minor.items) refl in
    search (found, ends, arith)

pub valid_greatest_id : Valid greatest_id
unfolding layout greatest_id
valid_greatest_id =
    let ends = ends (λ id. 0) (input_pairs greatest_id.items) refl in
    search (found, ends, arith)

pub valid_greatest_group : Valid greatest_group
unfolding layout greatest_group
valid_greatest_group =
    let ends = ends (λ id. 0) (input_pairs greatest_group.items) refl in
    search (found, ends, arith)

pub valid_least_bytes : Valid least_bytes
unfolding layout least_bytes
valid_least_bytes =
    let ends = ends (λ id. 0) (input_pairs least_bytes.items) refl in
    search (found, ends, arith)

-- ---- brands

compatible_len : (brands : List ℕ) → meta_len (compatible_with brands) ≡ 142
unfolding layout compatible_with
compatible_len brands = refl

valid_compatible : (brands : List ℕ) → length brands ≡ 1073741820 → meta_len (compatible_with brands) ≡ 142 → Valid (compatible_with brands)
unfolding compatible_with table_of body_sum
valid_compatible brands len meta =
    let ends = ends (λ id. 0) (input_pairs (compatible_with brands).items) refl in
    search (found, ends, arith)

refused_compatible : (brands : List ℕ) → length brands ≡ 1073741824 → Valid (compatible_with brands) → ⊥
unfolding compatible_with
refused_compatible brands len valid = omega (arith, len, valid.brands.within)

pub brands_are_kept : BrandsAreKept
brands_are_kept = (λ brands len. valid_compatible brands len (compatible_len brands), refused_compatible)

-- ---- items and properties

ipco-kinds : (a n : ℕ) → length (ipco_body (map kind (range_with_len a n))) ≤ n * 18
unfolding ipco_body
ipco-kinds a zero = omega arith
ipco-kinds a (suc n) =
    simp length-append (omega (arith, length-box (kind a).kind (kind a).body refl, box_len-le (length (kind a).body), ipco-kinds (a + 1) n))

valid_holders : (count each rest m : ℕ) → m ≡ each * count + rest → count + 1 ≤ 65536 → each ≤ 255 → rest ≤ 255 → m ≤ 32767 → Valid (holders count each rest)
unfolding holders
valid_holders count each rest m e few few_each few_rest few_kinds =
    let bare = all_bare each 0 count count rest in
    let items = from_on each 0 count count rest in
    let length_is : length items ≡ count + 1 = simp (length-append, length-map-range_with_len) (omega arith) in
    let kinds = ap length (holders-kinds count each rest m e) in
    let table = holders-table count each rest m e in
    let few_props : length (flat_map props_of items) ≤ 32767 = omega (arith, kinds, length-map-range_with_len kind 0 m) in
    let few_boxes : length (ipco_body (table_of (holders count each rest))) ≤ 589806 = rw table (omega (arith, ipco-kinds 0 m)) in
    record {
      brands = search arith;
      ids_rise = all_rise each 0 count count rest 0 (omega arith) (omega arith) (omega arith);
      primary = last_in each 0 count count rest;
      items = all_good items each 0 count count rest (omega arith) (omega arith) few_each few_rest;
      groups_rise = tt;
      groups = tt;
      ends = ends (λ id. 0) (input_pairs items) (rw (no_inputs-bare items bare) refl);
      count = omega (arith, length_is);
      kinds = omega (arith, holders-distinct count each rest);
      body = omega (arith, no_bytes-bare items bare);
      meta = meta-bare (holders count each rest) bare refl (omega (arith, length_is)) few_props few_boxes;
    }

holders-count : (count each rest : ℕ) → length (holders count each rest).items ≡ count + 1
unfolding holders
holders-count count each rest = simp (length-append, length-map-range_with_len) (omega arith)

last-props : (rest : ℕ) → Valid (holders 0 0 rest) → rest ≤ 255
unfolding holders
last-props rest valid = omega (arith, valid.items.0.props, length-map-range_with_len numbered 0 rest)

pub items_are_kept : ItemsAreKept
items_are_kept = (valid_holders 65535 0 0 0 refl (omega arith) (omega arith) (omega arith) (omega arith), λ valid. omega (arith, valid.count, holders-count 65536 0 0))

pub props_are_kept : PropsAreKept
props_are_kept = (valid_holders 0 0 255 255 refl (omega arith) (omega arith) (omega arith) (omega arith), λ valid. omega (arith, last-props 256 valid))

pub kinds_are_kept : KindsAreKept
kinds_are_kept = (valid_holders 128 255 127 32767 refl (omega arith) (omega arith) (omega arith) (omega arith), λ valid. omega (arith, valid.kinds, holders-distinct 128 255 128))
