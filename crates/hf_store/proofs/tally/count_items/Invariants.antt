use Rattle.std.proofs.Common.{◌≡◌}
use Rattle.hf_store.specs.Capped.{capped_counts}
use Rattle.hf_store.specs.Counts.{counts_before}
use Rattle.hf_store.specs.Seen.{items_of}
use Rattle.hf_store.proofs.tally.count_items.Given as goal

abbrev pub invariant-loop-item : goal.invariant-loop-item
invariant-loop-item l = l.counts ≡ capped_counts (counts_before l.item-index (items_of l.items))
