use Rattle.std.proofs.Common.{◌≡◌}
use Rattle.hf_store.specs.Changes.{cut_list}
use Rattle.hf_store.specs.Stays.{stays_of}
use Rattle.hf_store.proofs.Mapped.{mapped}
use Rattle.hf_store.proofs.cutting.cut_lists.Given as goal

abbrev pub invariant-loop-i : goal.invariant-loop-i
invariant-loop-i l = l.lists.items ≡ mapped (cut_list (stays_of l.stays)) l.i l.initial.lists.items
