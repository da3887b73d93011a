-- What is counted over a valid store is few.
use Rattle.std.proofs.Common.{◌≡◌, ℕ, ◌+◌, ◌≤◌, ap, arith, inl}
use Rattle.std.specs.List.{flat_map}
use Rattle.hf_base.specs.declared.limits.TheConstants as limits
use Rattle.hf_table.specs.Table.{table, size_sum}
use Rattle.hf_store.specs.Capped.{capped_counts}
use Rattle.hf_store.specs.Counts.{Counts, HasCounts, plus}
use Rattle.hf_store.specs.Sizes.{counted_meta, AreFew}
use Rattle.hf_store.specs.Store.{ItemStore}
use Rattle.hf_store.specs.Table.{props_of, table_of}
use Rattle.hf_store.specs.Valid.{meta_len, Valid}
use Rattle.hf_store.proofs.Capped.{capped-small}
use Rattle.hf_store.proofs.FewCounts.{counts_are_few}
use Rattle.hf_store.proofs.MetaCounts.{valid_fours, meta_is_counted}

pub few_capped : (c : Counts) → AreFew c → capped_counts c ≡ c
few_capped c few = λ j. record {
  items = capped-small c.items (omega (arith, few.items)) j;
  located = capped-small c.located (omega (arith, few.located)) j;
  wide = capped-small c.wide (omega (arith, few.wide)) j;
  strings = capped-small c.strings (omega (arith, few.strings)) j;
  links = capped-small c.links (omega (arith, few.links)) j;
  targets = capped-small c.targets (omega (arith, few.targets)) j;
  holders = capped-small c.holders (omega (arith, few.holders)) j;
  picks = capped-small c.picks (omega (arith, few.picks)) j;
  idat = capped-small c.idat (omega (arith, few.idat)) j;
  mdat = capped-small c.mdat (omega (arith, few.body)) j;
  groups = capped-small c.groups (omega (arith, few.groups)) j;
  entities = capped-small c.entities (omega (arith, few.entities)) j;
  tails = capped-small c.tails (omega (arith, few.tails)) j;
}

-- the length of `meta` is the one that is told by the counts
pub meta_told : (s : ItemStore) → Valid s → meta_len s ≡ counted_meta s
meta_told s valid = (meta_is_counted s (valid_fours s valid) (inl valid.meta)).1

-- a part of what is few is few
pub few_part : (whole rest part : Counts) → AreFew whole → plus rest part ≡ whole → AreFew part
few_part whole rest part few e = record {
  items = omega (arith, few.items, ap (λ (c : Counts). c.items) e);
  located = omega (arith, few.located, ap (λ (c : Counts). c.located) e);
  wide = omega (arith, few.wide, ap (λ (c : Counts). c.wide) e);
  strings = omega (arith, few.strings, ap (λ (c : Counts). c.strings) e);
  links = omega (arith, few.links, ap (λ (c : Counts). c.links) e);
  targets = omega (arith, few.targets, ap (λ (c : Counts). c.targets) e);
  holders = omega (arith, few.holders, ap (λ (c : Counts). c.holders) e);
  picks = omega (arith, few.picks, ap (λ (c : Counts). c.picks) e);
  idat = omega (arith, few.idat, ap (λ (c : Counts). c.idat) e);
  body = omega (arith, few.body, ap (λ (c : Counts). c.idat) e, ap (λ (c : Counts). c.mdat) e);
  groups = omega (arith, few.groups, ap (λ (c : Counts). c.groups) e);
  entities = omega (arith, few.entities, ap (λ (c : Counts). c.entities) e);
  tails = omega (arith, few.tails, ap (λ (c : Counts). c.tails) e);
}

-- and no greater than the whole, also where it is capped
pub has_part : (whole rest part : Counts) → plus rest part ≡ whole → HasCounts whole (capped_counts part)
has_part whole rest part e = record {
  items = omega (arith, ap (λ (c : Counts). c.items) e);
  located = omega (arith, ap (λ (c : Counts). c.located) e);
  wide = omega (arith, ap (λ (c : Counts). c.wide) e);
  strings = omega (arith, ap (λ (c : Counts). c.strings) e);
  links = omega (arith, ap (λ (c : Counts). c.links) e);
  targets = omega (arith, ap (λ (c : Counts). c.targets) e);
  holders = omega (arith, ap (λ (c : Counts). c.holders) e);
  picks = omega (arith, ap (λ (c : Counts). c.picks) e);
  idat = omega (arith, ap (λ (c : Counts). c.idat) e);
  mdat = omega (arith, ap (λ (c : Counts). c.mdat) e);
  groups = omega (arith, ap (λ (c : Counts). c.groups) e);
  entities = omega (arith, ap (λ (c : Counts). c.entities) e);
  tails = omega (arith, ap (λ (c : Counts). c.tails) e);
}

-- what is left of both sides of an equation
pub plus-cancel : (a b c : Counts) → plus a c ≡ plus b c → a ≡ b
plus-cancel a b c e = λ j. record {
  items = cancel a.items b.items c.items (ap (λ (d : Counts). d.items) e) j;
  located = cancel a.located b.located c.located (ap (λ (d : Counts). d.located) e) j;
  wide = cancel a.wide b.wide c.wide (ap (λ (d : Counts). d.wide) e) j;
  strings = cancel a.strings b.strings c.strings (ap (λ (d : Counts). d.strings) e) j;
  links = cancel a.links b.links c.links (ap (λ (d : Counts). d.links) e) j;
  targets = cancel a.targets b.targets c.targets (ap (λ (d : Counts). d.targets) e) j;
  holders = cancel a.holders b.holders c.holders (ap (λ (d : Counts). d.holders) e) j;
  picks = cancel a.picks b.picks c.picks (ap (λ (d : Counts). d.picks) e) j;
  idat = cancel a.idat b.idat c.idat (ap (λ (d : Counts). d.idat) e) j;
  mdat = cancel a.mdat b.mdat c.mdat (ap (λ (d : Counts). d.mdat) e) j;
  groups = cancel a.groups b.groups c.groups (ap (λ (d : Counts). d.groups) e) j;
  entities = cancel a.entities b.entities c.entities (ap (λ (d : Counts). d.entities) e) j;
  tails = cancel a.tails b.tails c.tails (ap (λ (d : Counts). d.tails) e) j;
}
  where
    cancel : (m n k : ℕ) → m + k ≡ n + k → m ≡ n
    cancel m n k e = omega (arith, e)

-- the boxes of the distinct properties are within `meta`
pub light_props : (s : ItemStore) → Valid s → size_sum (table (flat_map props_of s.items)) ≤ limits.META
unfolding table_of
light_props s valid = (counts_are_few s valid).1
