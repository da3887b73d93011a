-- The counts of a valid store are within the limits.
use Rattle.std.proofs.Common.{◌≡◌, ℕ, ◌+◌, ◌*◌, ◌^◌, ◌≤◌, Bool, true, false, leb, ltb, List, [], ◌∷◌, length, refl, arith, inl}
use Rattle.std.specs.List.{sum_by}
use Rattle.std.proofs.lemmas.List.Sums.{sum_by-cons}
use Rattle.hf_base.specs.declared.limits.TheConstants as limits
use Rattle.hf_box.specs.Head.{box_len}
use Rattle.hf_box.specs.Written.{bit, id_width}
use Rattle.hf_store.specs.Counts.{Counts, counts_of}
use Rattle.hf_store.specs.Layout.{is_wide, has_bytes, has_props}
use Rattle.hf_store.specs.Sizes.{Inner, ipma_size, meta_size_by, counted_inner, counted_meta, AreFew, CountsAreFew}
use Rattle.hf_store.specs.Store.{Item, ItemStore}
use Rattle.hf_store.specs.Table.{table_of}
use Rattle.hf_store.specs.Valid.{Valid}
use Rattle.hf_store.proofs.BoxLengths.{le-box_len}
use Rattle.hf_store.proofs.CountsAre.{counts_are, sum-zero}
use Rattle.hf_store.proofs.MetaCounts.{box_holds, le-if_any, within-meta, no_links-counted, no_groups-counted, valid_fours, meta_is_counted}

-- ---- items

pub bit-le : (b : Bool) → bit b ≤ 1
bit-le true = omega arith
bit-le false = omega arith

bits-le : {A : Type 0} (p : A → Bool) (xs : List A) → sum_by (λ x. bit (p x)) xs ≤ length xs
bits-le p [] = omega arith
bits-le p (x ∷ xs) = omega (arith, sum_by-cons (λ y. bit (p y)) x xs, bit-le (p x), bits-le p xs)

-- ---- what stands in `meta`

times-bit : (b : Bool) (n : ℕ) → n ≤ n * (1 + bit b)
times-bit true n = omega arith
times-bit false n = omega arith

times-width : (wide : Bool) (n : ℕ) → n ≤ n * id_width wide
times-width true n = omega arith
times-width false n = omega arith

picks-within : (wide : Bool) (n : ℕ) (c : Counts) (b : Inner) (total : ℕ) → total ≡ meta_size_by wide 8 n c b → c.picks ≤ total
picks-within wide n c b total is =
    let iprp = le-box_len (box_len b.props + ipma_size wide n c) in
    let ipma = le-box_len (8 + c.holders * (1 + id_width wide) + c.picks * (1 + bit (ltb 127 n))) in
    omega (arith, box_holds total _ is, iprp, ipma, times-bit (ltb 127 n) c.picks)

idat-within : (wide : Bool) (n : ℕ) (c : Counts) (b : Inner) (total : ℕ) → total ≡ meta_size_by wide 8 n c b → c.idat ≤ total
idat-within wide n c b total is = omega (arith, box_holds total _ is, le-if_any c.idat c.idat c.idat (omega arith) (λ none. none))

pub counts_few : (s : ItemStore) → Valid s → AreFew (counts_of s)
unfolding counts_of
counts_few s valid =
    let wide = is_wide s.items in
    let n = length (table_of s) in
    let c = counts_of s in
    let b = counted_inner s in
    let none = sum-zero s.groups in
    let meta : counted_meta s ≤ limits.META = omega (arith, (meta_is_counted s (valid_fours s valid) (inl valid.meta)).1, valid.meta) in
    let within = within-meta wide n c b (counted_meta s) refl (no_links-counted s wide) (no_groups-counted s) in
    record {
      items = omega (arith, (counts_are s).items, valid.count);
      located = omega (arith, bits-le (λ (i : Item). has_bytes i.bytes) s.items, none, valid.count);
      wide = omega (arith, bits-le (λ (i : Item). leb (256 ^ 2) i.id) s.items, none, valid.count);
      holders = omega (arith, bits-le has_props s.items, none, valid.count);
      strings = omega (arith, within.infes, meta);
      links = omega (arith, within.links, meta);
      targets = omega (arith, within.links, meta, times-width wide c.targets);
      picks = omega (arith, picks-within wide n c b (counted_meta s) refl, meta);
      idat = omega (arith, idat-within wide n c b (counted_meta s) refl, meta);
      body = omega (arith, (counts_are s).body, valid.body);
      groups = omega (arith, within.groups, meta);
      entities = omega (arith, within.groups, meta);
      tails = omega (arith, within.groups, meta);
    }

pub counts_are_few : CountsAreFew
counts_are_few s valid =
    let meta : counted_meta s ≤ limits.META = omega (arith, (meta_is_counted s (valid_fours s valid) (inl valid.meta)).1, valid.meta) in
    let wide = is_wide s.items in
    let within = within-meta wide (length (table_of s)) (counts_of s) (counted_inner s) (counted_meta s) refl (no_links-counted s wide) (no_groups-counted s) in
    (counts_few s valid, omega (arith, within.props, meta))
