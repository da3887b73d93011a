use Rattle.std.proofs.Common.{subst, Ok, Err}
use Rattle.std.specs.Prelude.{OnOk}
use Rattle.hf_store.specs.Referred.{HasAll, targets_by}
use Rattle.hf_store.proofs.store.changes.make_room.Goals as goal

pub returns-clause-known : goal.returns-clause-known
returns-clause-known c =
    let new = c.add_refs.new.self in
    let known : HasAll new (targets_by c.args.item.now.refs) = subst (λ rs. HasAll new (targets_by rs)) c.as_slice.ensures c.in_ok-add_refs.ensures.added in
    elim c.add_all.result as (λ r. OnOk r (HasAll new (targets_by c.args.item.now.refs))) [ Ok _ ↦ known | Err _ ↦ tt ]
