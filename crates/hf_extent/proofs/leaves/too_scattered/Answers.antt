use Rattle.std.proofs.Common.{arith, ◌-◌, ◌^◌, sum, map}
use Rattle.hf_base.specs.declared.fault.ReadRefusal.TheVariants.{TooScattered}
use Rattle.hf_base.specs.declared.limits.TheConstants.{PIECES}
use Rattle.hf_base.specs.Counts.{leaves_of}
use Rattle.hf_base.specs.LocationFaults.{too_scattered_fault}
use Rattle.hf_extent.proofs.TotalLaws.{limited_over, limited_within, counted, whole_sum}
use Rattle.hf_extent.proofs.leaves.too_scattered.Goals as goal

pub returns-then-count-gt-PIECES : goal.returns-then-count-gt-PIECES
unfolding too_scattered_fault
returns-then-count-gt-PIECES c = λ items are.
    limited_over PIECES (sum (map (leaves_of items) items)) c.loop-leaves.count (λ count. TooScattered count)
    (counted (leaves_of items) (2 ^ 64 - 1) items c.args.counts.now c.loop-leaves.count are (whole_sum c.args.counts.now c.loop-leaves.leaves-index (2 ^ 64 - 1) c.loop-leaves.count c.loop-leaves.invariant c.loop-leaves-test.false)) c.if-count-gt-PIECES.true

pub returns : goal.returns
unfolding too_scattered_fault
returns c = λ items are.
    limited_within PIECES (sum (map (leaves_of items) items)) c.loop-leaves.count (λ count. TooScattered count)
    (counted (leaves_of items) (2 ^ 64 - 1) items c.args.counts.now c.loop-leaves.count are (whole_sum c.args.counts.now c.loop-leaves.leaves-index (2 ^ 64 - 1) c.loop-leaves.count c.loop-leaves.invariant c.loop-leaves-test.false)) c.if-count-gt-PIECES.false (omega arith)
