use Rattle.std.proofs.Common.{◌≡◌, take}
use Rattle.hf_read.specs.References.{seen}
use Rattle.hf_read.proofs.RunLaws.{led_to}
use Rattle.hf_read.proofs.references.targets.Given as goal

abbrev pub invariant-loop-link : goal.invariant-loop-link
invariant-loop-link l = l.to ≡ led_to l.ids (seen (take l.link-index l.boxes))
