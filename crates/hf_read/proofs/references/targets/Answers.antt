use Rattle.std.proofs.Common.{List, arith}
use Rattle.hf_base.specs.declared.loc.RefBox.{RefBox}
use Rattle.hf_read.specs.References.{seen}
use Rattle.hf_read.proofs.Gathered.{all_taken}
use Rattle.hf_read.proofs.RunLaws.{led_to}
use denote.Ref.{Bor}
use Rattle.hf_read.proofs.references.targets.Goals as goal

pub returns : goal.returns
returns c =
    all_taken (λ (boxes : List (Bor RefBox)). led_to c.args.ids.now (seen boxes)) c.args.boxes.now c.loop-link.link-index c.loop-link.to
    (omega (arith, c.loop-link-test.false, c.loop-link.auto.link-index-end)) c.loop-link.invariant
