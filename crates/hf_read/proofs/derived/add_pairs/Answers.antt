use Rattle.std.proofs.Common.{ℕ, List, arith, map, ◌++◌}
use Rattle.hf_read.proofs.Gathered.{all_taken, value_more}
use Rattle.hf_read.proofs.derived.add_pairs.Goals as goal

pub loop-to-preserved : goal.loop-to-preserved
loop-to-preserved c =
    let l = c.loop-to in
    let more = value_more (λ (to : ℕ). (c.args.id, to)) c.args.inputs.now l.to-index 0 c.args.pairs.now.items l.pairs.items c.push.new.self.items in
    more c.loop-to-test.true l.invariant c.in_ok-push.ensures.items

pub returns : goal.returns
returns c =
    all_taken (λ (inputs : List ℕ). c.args.pairs.now.items ++ map (λ (to : ℕ). (c.args.id, to)) inputs) c.args.inputs.now c.loop-to.to-index c.loop-to.pairs.items
    (omega (arith, c.loop-to-test.false, c.loop-to.auto.to-index-end)) c.loop-to.invariant
