use Rattle.hf_deps.proofs.Undescribing.{valid_without}
use Rattle.hf_deps.proofs.redaction.drop_kind.Goals as goal

pub drop_optional-requires-clause-valid : goal.drop_optional-requires-clause-valid
drop_optional-requires-clause-valid c = valid_without c.args.i c.args.kind c.args.store.now c.valid.ensures
