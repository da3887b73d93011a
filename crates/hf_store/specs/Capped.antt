-- Numbers of 64 bits, of which the greatest stands for each number that is no less.
use Rattle.std.specs.Prelude.{ℕ, ◌-◌, ◌^◌, min}
use Rattle.hf_store.specs.Counts.{Counts}
use Rattle.hf_store.specs.Sizes.{Inner}

abbrev pub capped : ℕ → ℕ
capped n = min n (2 ^ 64 - 1)

abbrev pub capped_counts : Counts → Counts
capped_counts c = record {
  items = capped c.items;
  located = capped c.located;
  wide = capped c.wide;
  strings = capped c.strings;
  links = capped c.links;
  targets = capped c.targets;
  holders = capped c.holders;
  picks = capped c.picks;
  idat = capped c.idat;
  mdat = capped c.mdat;
  groups = capped c.groups;
  entities = capped c.entities;
  tails = capped c.tails;
}

abbrev pub capped_inner : Inner → Inner
capped_inner b = record {
  infes = capped b.infes;
  links = capped b.links;
  props = capped b.props;
  groups = capped b.groups;
}
