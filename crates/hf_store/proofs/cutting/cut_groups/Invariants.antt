use Rattle.std.proofs.Common.{◌≡◌}
use Rattle.hf_links.specs.Grpl.{groups_of}
use Rattle.hf_store.specs.Changes.{cut_group}
use Rattle.hf_store.specs.Stays.{stays_of}
use Rattle.hf_store.proofs.Mapped.{mapped}
use Rattle.hf_store.proofs.cutting.cut_groups.Given as goal

abbrev pub invariant-loop-i : goal.invariant-loop-i
invariant-loop-i l = groups_of l.groups.items ≡ mapped (cut_group (stays_of l.stays)) l.i (groups_of l.initial.groups.items)
