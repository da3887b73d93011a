use Rattle.std.proofs.Common.{sym, subst}
use Rattle.hf_store.specs.Lists.{IsIn}
use Rattle.hf_store.proofs.KnownIds.{known_in, still_in}
use Rattle.hf_store.proofs.referring.Referred.add.Goals as goal

pub returns-clause-kept : goal.returns-clause-kept
returns-clause-kept c id h =
    still_in c.args.id id c.self.inside.ids.keys c.insert.new.self.keys (c.in_ok-insert.ensures.updates.0 id) (subst (IsIn id) (sym c.self.view_is) h)

pub returns-clause-added : goal.returns-clause-added
returns-clause-added c = known_in c.args.id c.insert.new.self.keys c.in_ok-insert.ensures.updates.1
