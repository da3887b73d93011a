use Rattle.std.proofs.Common.{sym, ◌∙◌}
use Rattle.hf_store.proofs.Spots.{id_here, in_at, some_is}
use Rattle.hf_store.proofs.store.Store.item.Goals as goal

pub returns-clause-some : goal.returns-clause-some
returns-clause-some c = (some_is (sym (id_here c.args.self.now.items _ _ c.at.ensures) ∙ c.in_ok-i.ensures.some), in_at c.args.self.now.items _ _ c.at.ensures)
