use Rattle.std.proofs.Common.{arith, ◌≡◌, ◌≤◌, ◌++◌, List, length, ap, sym, subst, ◌∙◌}
use Rattle.std.specs.List.{AllByRecursion}
use Rattle.std.proofs.lemmas.List.{length-drop, take_rest}
use Rattle.hf_base.specs.declared.loc.RefBox.{RefBox}
use Rattle.hf_read.specs.Kept.{kept_refs}
use Rattle.hf_read.specs.References.{AreInOrder, seen}
use Rattle.hf_read.proofs.ReferenceLaws.{in_order_from, no_more, reached_from, run_more}
use Rattle.hf_read.proofs.references.refs_of.Goals as goal
use denote.Ref.{Bor}

pub loop-kind-init : goal.loop-kind-init
loop-kind-init c =
    let ids = c.args.ids.now in (
      ap (λ l. l ++ kept_refs ids (seen c.from_item-rest.result.now) c.args.from) c.new-refs.ensures
          ∙ c.from_item-rest.ensures.kept ids,
      c.from_item-rest.ensures.sorted,
      c.from_item-rest.ensures.reached,
      c.from_item-rest.ensures.within,
    )

pub run_len-len-requires-clause-sorted : goal.run_len-len-requires-clause-sorted
run_len-len-requires-clause-sorted c = c.loop-kind.invariant.1

pub loop-kind-smaller : goal.loop-kind-smaller
loop-kind-smaller c = let shorter =
    ap length (take_rest c.loop-kind.rest.now c.run_len-len.result) in omega
    (arith, shorter, length-drop c.run_len-len.result c.loop-kind.rest.now, c.run_len-len.ensures.some, c.run_len-len.ensures.within)

pub loop-kind-preserved : goal.loop-kind-preserved
loop-kind-preserved c =
    let from = c.args.from in
    let ids = c.args.ids.now in
    let rest = c.loop-kind.rest.now in
    let len = c.run_len-len.result in
    let whole = kept_refs ids (seen c.args.boxes.now) from in
    let more = run_more ids from c.in-Some.kind rest len c.loop-kind.refs c.push_list.new.refs whole c.in_ok-to.to c.loop-kind.invariant.0
    c.run_len-len.ensures c.in_ok-to.ensures c.in_ok-push_list.ensures in
    subst (λ (l : List (Bor RefBox)). (c.push_list.new.refs ++ kept_refs ids (seen l) from ≡ whole) × AreInOrder l
    × AllByRecursion (λ (b : RefBox). from ≤ b.from) (seen l) × (length l ≤ length c.args.boxes.now)) (sym (take_rest rest len)) (
      more,
      in_order_from len rest c.loop-kind.invariant.1,
      reached_from from len rest c.loop-kind.invariant.2,
      (omega (arith, length-drop len rest, c.loop-kind.invariant.3)),
    )

pub returns : goal.returns
returns c =
    no_more c.args.ids.now c.args.from c.loop-kind.rest.now c.loop-kind.refs
    (kept_refs c.args.ids.now (seen c.args.boxes.now) c.args.from) c.loop-kind.invariant.0 c.loop-kind.invariant.1 c.loop-kind.invariant.2
    c.in_default.ensures.none
