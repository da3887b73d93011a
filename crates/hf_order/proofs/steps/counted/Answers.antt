use Rattle.std.proofs.Common.{◌+◌, ◌<◌, [], length, take, get_or, sym, ap, ◌∙◌, arith, rules}
use Rattle.std.proofs.lemmas.List.{length-take, length-set, length-replicate, get_or-replicate, get_or_read}
use Rattle.hf_order.proofs.Members.{pair_within}
use Rattle.hf_order.proofs.Counts.{waits-nil, waits_bound, counted_more}
use Rattle.hf_order.proofs.steps.counted.Goals as goal

pub loop-pair-init : goal.loop-pair-init
loop-pair-init c =
    let zeros = c.in_ok-left.ensures.items_if_clones_equal (λ y h. search rules) in
    record {
      size = ap length zeros ∙ length-replicate c.args.count 0;
      counts = λ node less. ap (λ l. get_or l node 0) zeros ∙ get_or-replicate c.args.count node 0 0 less ∙ sym (waits-nil [] node);
    }

pub index_mut-requires : goal.index_mut-requires
index_mut-requires c =
    let pairs = c.args.pairs.now in
    let i = c.loop-pair.pair-index in
    let ends = pair_within c.args.count pairs i (0, 0) c.requires c.loop-pair-test.true in
    let low = ends.0 in
    omega (arith, c.loop-pair.left.ok.0, c.loop-pair.invariant.size)

pub overflow_add-index_mut : goal.overflow_add-index_mut
overflow_add-index_mut c =
    let pairs = c.args.pairs.now in
    let i = c.loop-pair.pair-index in
    let a = (get_or pairs i (0, 0)).0 in
    let left = c.loop-pair.left.items in
    let ends = pair_within c.args.count pairs i (0, 0) c.requires c.loop-pair-test.true in
    let low : a < c.args.count = ends.0 in
    let within : a < length left = omega (arith, c.loop-pair.invariant.size) in
    let old = get_or_read left a c.index_mut.result.now within c.index_mut.ensures.value 0 in
    omega (arith, old, c.loop-pair.invariant.counts a low, waits_bound [] a (take i pairs), length-take i pairs)

pub loop-pair-preserved : goal.loop-pair-preserved
loop-pair-preserved c =
    let pairs = c.args.pairs.now in
    let i = c.loop-pair.pair-index in
    let left = c.loop-pair.left.items in
    let ends = pair_within c.args.count pairs i (0, 0) c.requires c.loop-pair-test.true in
    record {
      size = length-set left (get_or pairs i (0, 0)).0 (c.index_mut.result.now + 1) ∙ c.loop-pair.invariant.size;
      counts = counted_more c.args.count pairs left i c.index_mut.result.now (0, 0) c.loop-pair.invariant.size c.loop-pair-test.true ends.0 c.index_mut.ensures.value c.loop-pair.invariant.counts;
    }
