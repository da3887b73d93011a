use Rattle.std.proofs.Common.{◌≡◌, take}
use Rattle.hf_links.specs.Grpl.{groups_of}
use Rattle.hf_store.specs.Capped.{capped}
use Rattle.hf_store.specs.Sizes.{groups_size}
use Rattle.hf_store.proofs.measuring.groups_size.Given as goal

abbrev pub invariant-loop-group : goal.invariant-loop-group
invariant-loop-group l = l.sum ≡ capped (groups_size (take l.group-index (groups_of l.groups)))
