-- The length of `meta` where some items go.
use Rattle.std.proofs.Common.{◌≡◌, ℕ, zero, suc, ◌+◌, ◌*◌, ◌≤◌, Bool, true, false, cond, ltb, length, sym, arith, subst, inl, inr}
use Rattle.std.specs.Prelude.{◌==◌}
use Rattle.std.specs.List.{flat_map}
use Rattle.std.proofs.Math.Dec.{eqb-suc-zero}
use Rattle.std.proofs.lemmas.Bool.{cases_lt, lt-ltb, le-ltb}
use Rattle.std.proofs.lemmas.Nat.{mul-le}
use Rattle.hf_box.specs.Head.{box_len}
use Rattle.hf_box.specs.Written.{bit, id_width}
use Rattle.hf_store.specs.Changes.{cut_items, cut}
use Rattle.hf_store.specs.Counts.{Counts, HasCounts, counts_of_item, counts_of_group, counts_of}
use Rattle.hf_store.specs.Layout.{is_wide}
use Rattle.hf_store.specs.Sizes.{short_props, short_links, short_groups, short_inner, ipma_size, meta_size_by, IsFourGroup, AreFours, counted_meta}
use Rattle.hf_store.specs.Store.{Item, Group, ItemStore}
use Rattle.hf_store.specs.Table.{props_of, table_of}
use Rattle.hf_store.specs.Valid.{meta_len, Valid}
use Rattle.hf_store.proofs.BoxLengths.{box_len-mono}
use Rattle.hf_store.proofs.CountsAre.{counts_are}
use Rattle.hf_store.proofs.Cuts.{filter-le, KeepsInputs, good_items, sum-left, refs-fewer, targets-fewer, all_groups_left, group-sum-left}
use Rattle.hf_store.proofs.CutTables.{IsLess, less_left}
use Rattle.hf_store.proofs.MetaCounts.{good_fours, valid_fours, meta_is_counted}

-- ---- `meta` grows with what is counted

if_any-mono : (m n a b : ℕ) → m ≤ n → a ≤ b → cond (m == 0) 0 (box_len a) ≤ cond (n == 0) 0 (box_len b)
if_any-mono zero n a b le more = omega arith
if_any-mono (suc m) zero a b le more = absurd (omega arith)
if_any-mono (suc m) (suc n) a b le more =
    subst (λ (x : Bool). cond x 0 (box_len a) ≤ cond (suc n == 0) 0 (box_len b)) (sym (eqb-suc-zero m)) (subst (λ (x : Bool). box_len a ≤ cond x 0 (box_len b)) (sym (eqb-suc-zero n)) (box_len-mono a b more))

bit-mono : (m n : ℕ) → m ≤ n → bit (ltb 127 m) ≤ bit (ltb 127 n)
bit-mono m n le =
    elim (cases_lt 127 m) [
      | inl many ↦ let more : ltb 127 n ≡ true = lt-ltb 127 n (omega arith) in rw (lt-ltb 127 m many, more) (omega arith)
      | inr few ↦ rw (le-ltb 127 m few) (omega arith)
    ]

pub meta-mono : (v w : Bool) (m n : ℕ) (c d : Counts) (p q : ℕ) → id_width v ≤ id_width w → m ≤ n → HasCounts d c → p ≤ q → meta_size_by v 8 m c (short_inner v p c) ≤ meta_size_by w 8 n d (short_inner w q d)
meta-mono v w m n c d p q width kinds has props =
    let items = mul-le c.items (18 + id_width v) d.items (18 + id_width w) has.items (omega (arith, width)) in
    let links = mul-le c.links (10 + id_width v) d.links (10 + id_width w) has.links (omega (arith, width)) in
    let targets = mul-le c.targets (id_width v) d.targets (id_width w) has.targets width in
    let holders = mul-le c.holders (1 + id_width v) d.holders (1 + id_width w) has.holders (omega (arith, width)) in
    let picks = mul-le c.picks (1 + bit (ltb 127 m)) d.picks (1 + bit (ltb 127 n)) has.picks (omega (arith, bit-mono m n kinds)) in
    let located = mul-le c.located (6 + id_width v + (8 + 8)) d.located (6 + id_width w + (8 + 8)) has.located (omega (arith, width)) in
    let iinf = box_len-mono (4 + id_width v + (c.items * (18 + id_width v) + c.strings)) (4 + id_width w + (d.items * (18 + id_width w) + d.strings)) (omega (arith, items, has.strings, width)) in
    let iref = if_any-mono c.links d.links (4 + short_links v c) (4 + short_links w d) has.links (omega (arith, links, targets)) in
    let ipma = box_len-mono (8 + c.holders * (1 + id_width v) + c.picks * (1 + bit (ltb 127 m))) (8 + d.holders * (1 + id_width w) + d.picks * (1 + bit (ltb 127 n))) (omega (arith, holders, picks)) in
    let iprp = box_len-mono (box_len p + ipma_size v m c) (box_len q + ipma_size w n d) (omega (arith, box_len-mono p q props, ipma)) in
    let grpl = if_any-mono c.groups d.groups (short_groups c) (short_groups d) has.groups (omega (arith, has.groups, has.entities, has.tails)) in
    let idat = if_any-mono c.idat d.idat c.idat d.idat has.idat has.idat in
    let iloc = box_len-mono (6 + id_width v + c.located * (6 + id_width v + (8 + 8))) (6 + id_width w + d.located * (6 + id_width w + (8 + 8))) (omega (arith, located, width)) in
    box_len-mono _ _ (omega (arith, width, iinf, iref, iprp, grpl, idat, iloc))

-- ---- what is counted where items go

pub counts_left : (stays : ℕ → Bool) (s : ItemStore) → HasCounts (counts_of s) (counts_of (cut stays s))
unfolding counts_of cut
counts_left stays s = record {
  items = omega (arith, sum-left (λ (i : Item). (counts_of_item i).items) stays s.items (λ i. omega arith), group-sum-left (λ (g : Group). (counts_of_group g).items) stays s.groups (λ g. omega arith));
  located = omega (arith, sum-left (λ (i : Item). (counts_of_item i).located) stays s.items (λ i. omega arith), group-sum-left (λ (g : Group). (counts_of_group g).located) stays s.groups (λ g. omega arith));
  wide = omega (arith, sum-left (λ (i : Item). (counts_of_item i).wide) stays s.items (λ i. omega arith), group-sum-left (λ (g : Group). (counts_of_group g).wide) stays s.groups (λ g. omega arith));
  strings = omega (arith, sum-left (λ (i : Item). (counts_of_item i).strings) stays s.items (λ i. omega arith), group-sum-left (λ (g : Group). (counts_of_group g).strings) stays s.groups (λ g. omega arith));
  links = omega (arith, sum-left (λ (i : Item). (counts_of_item i).links) stays s.items (λ i. refs-fewer stays i.refs), group-sum-left (λ (g : Group). (counts_of_group g).links) stays s.groups (λ g. omega arith));
  targets = omega (arith, sum-left (λ (i : Item). (counts_of_item i).targets) stays s.items (λ i. targets-fewer stays i.refs), group-sum-left (λ (g : Group). (counts_of_group g).targets) stays s.groups (λ g. omega arith));
  holders = omega (arith, sum-left (λ (i : Item). (counts_of_item i).holders) stays s.items (λ i. omega arith), group-sum-left (λ (g : Group). (counts_of_group g).holders) stays s.groups (λ g. omega arith));
  picks = omega (arith, sum-left (λ (i : Item). (counts_of_item i).picks) stays s.items (λ i. omega arith), group-sum-left (λ (g : Group). (counts_of_group g).picks) stays s.groups (λ g. omega arith));
  idat = omega (arith, sum-left (λ (i : Item). (counts_of_item i).idat) stays s.items (λ i. omega arith), group-sum-left (λ (g : Group). (counts_of_group g).idat) stays s.groups (λ g. omega arith));
  mdat = omega (arith, sum-left (λ (i : Item). (counts_of_item i).mdat) stays s.items (λ i. omega arith), group-sum-left (λ (g : Group). (counts_of_group g).mdat) stays s.groups (λ g. omega arith));
  groups = omega (arith, sum-left (λ (i : Item). (counts_of_item i).groups) stays s.items (λ i. omega arith), group-sum-left (λ (g : Group). (counts_of_group g).groups) stays s.groups (λ g. omega arith));
  entities = omega (arith, sum-left (λ (i : Item). (counts_of_item i).entities) stays s.items (λ i. omega arith), group-sum-left (λ (g : Group). (counts_of_group g).entities) stays s.groups (λ g. filter-le stays g.entities));
  tails = omega (arith, sum-left (λ (i : Item). (counts_of_item i).tails) stays s.items (λ i. omega arith), group-sum-left (λ (g : Group). (counts_of_group g).tails) stays s.groups (λ g. omega arith));
}

pub width_left : (stays : ℕ → Bool) (s : ItemStore) → id_width (is_wide (cut stays s).items) ≤ id_width (is_wide s.items)
width_left stays s =
    subst (λ (b : Bool). id_width b ≤ id_width (is_wide s.items)) (counts_are (cut stays s)).wide (subst (λ (b : Bool). id_width (ltb 0 (counts_of (cut stays s)).wide) ≤ id_width b) (counts_are s).wide (widths (counts_of (cut stays s)).wide (counts_of s).wide (counts_left stays s).wide))
  where
    widths : (m n : ℕ) → m ≤ n → id_width (ltb 0 m) ≤ id_width (ltb 0 n)
    widths m n le =
        elim (cases_lt 0 m) [
          | inl some ↦ let more : ltb 0 n ≡ true = lt-ltb 0 n (omega arith) in rw (lt-ltb 0 m some, more) (omega arith)
          | inr none ↦ rw (le-ltb 0 m none) (elim (ltb 0 n) as (λ b. 2 ≤ id_width b) [ true ↦ omega arith | false ↦ omega arith ])
        ]

-- ---- the length by the counts

module _ (stays : ℕ → Bool) (s : ItemStore) (valid : Valid s) (keeps : KeepsInputs stays s.items) where
  tables : IsLess (flat_map props_of (cut_items stays s.items)) (flat_map props_of s.items)
  tables = less_left stays s.items

  fours_left : AreFours (cut stays s)
  unfolding cut
  fours_left =
      good_fours (cut stays s) (good_items stays s.items s.items keeps valid.items)
      (all_groups_left IsFourGroup stays s.groups (λ g kind. kind) (valid_fours s valid).groups)

  kinds : length (table_of (cut stays s)) ≤ length (table_of s)
  unfolding cut table_of
  kinds = tables.kinds

  bytes : short_props (table_of (cut stays s)) ≤ short_props (table_of s)
  unfolding cut table_of
  bytes = tables.bytes

  counted_left : counted_meta (cut stays s) ≤ counted_meta s
  unfolding table_of
  counted_left =
      let t = cut stays s in
      meta-mono (is_wide t.items) (is_wide s.items) (length (table_of t)) (length (table_of s)) (counts_of t) (counts_of s) (short_props (table_of t))
      (short_props (table_of s)) (width_left stays s) kinds (counts_left stays s) bytes

  pub meta_left : meta_len (cut stays s) ≤ meta_len s
  meta_left =
      let before = (meta_is_counted s (valid_fours s valid) (inl valid.meta)).1 in
      let after = (meta_is_counted (cut stays s) fours_left (inr (omega (arith, counted_left, before, valid.meta)))).1 in
      omega (arith, before, after, counted_left)
