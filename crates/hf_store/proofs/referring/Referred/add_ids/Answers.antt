use Rattle.std.proofs.Common.{subst}
use Rattle.std.proofs.lemmas.List.{take_all}
use Rattle.hf_store.specs.Referred.{HasAll}
use Rattle.hf_store.proofs.KnownIds.{ids_next}
use Rattle.hf_store.proofs.referring.Referred.add_ids.Goals as goal

pub returns-in_err-add-clause-kept : goal.returns-in_err-add-clause-kept
returns-in_err-add-clause-kept c id h = c.add.ensures.kept id (c.loop-id.invariant.kept id h)

pub loop-id-preserved : goal.loop-id-preserved
loop-id-preserved c = record {
  kept = λ id h. c.add.ensures.kept id (c.loop-id.invariant.kept id h);
  added =
      ids_next c.loop-id.self c.add.new.self c.args.ids.now c.loop-id.id-index c.loop-id-test.true c.loop-id.invariant.added c.add.ensures.kept
      c.in_ok-add.ensures.added;
}

pub returns-clause-added : goal.returns-clause-added
returns-clause-added c = subst (HasAll c.loop-id.self) (take_all c.loop-id.id-index c.args.ids.now c.loop-id-test.false) c.loop-id.invariant.added
