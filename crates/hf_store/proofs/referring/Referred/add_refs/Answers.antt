use Rattle.std.proofs.Common.{subst}
use Rattle.std.proofs.lemmas.List.{take_all}
use Rattle.hf_store.specs.Referred.{HasAll, targets_by}
use Rattle.hf_store.specs.Store.{RefList}
use Rattle.hf_store.proofs.KnownIds.{flat_next}
use Rattle.hf_store.proofs.Mapped.{here_at}
use Rattle.hf_store.proofs.referring.Referred.add_refs.Goals as goal

pub returns-in_err-add_ids-clause-kept : goal.returns-in_err-add_ids-clause-kept
returns-in_err-add_ids-clause-kept c id h = c.add_ids.ensures.kept id (c.loop-list.invariant.kept id h)

pub loop-list-preserved : goal.loop-list-preserved
loop-list-preserved c =
    let rs = c.args.refs.now in
    let r = c.list-item.result in
    let new = c.add_ids.new.self in
    let more : HasAll new r.to = subst (HasAll new) c.as_slice.ensures c.in_ok-add_ids.ensures.added in
    record {
      kept = λ id h. c.add_ids.ensures.kept id (c.loop-list.invariant.kept id h);
      added =
          flat_next (λ (q : RefList). q.to) rs c.loop-list.list-index r c.loop-list.self new
          (here_at rs c.loop-list.list-index r c.loop-list-test.true c.list-item.is) c.loop-list.invariant.added c.add_ids.ensures.kept more;
    }

pub returns-clause-added : goal.returns-clause-added
returns-clause-added c =
    subst (λ rs. HasAll c.loop-list.self (targets_by rs)) (take_all c.loop-list.list-index c.args.refs.now c.loop-list-test.false) c.loop-list.invariant.added
