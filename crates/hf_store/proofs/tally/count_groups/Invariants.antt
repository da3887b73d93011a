use Rattle.std.proofs.Common.{◌≡◌, take}
use Rattle.hf_links.specs.Grpl.{groups_of}
use Rattle.hf_store.specs.Capped.{capped_counts}
use Rattle.hf_store.specs.Counts.{counts_of_groups}
use Rattle.hf_store.proofs.tally.count_groups.Given as goal

abbrev pub invariant-loop-group : goal.invariant-loop-group
invariant-loop-group l = l.counts ≡ capped_counts (counts_of_groups (take l.group-index (groups_of l.groups)))
