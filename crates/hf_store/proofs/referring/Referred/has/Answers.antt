use Rattle.std.proofs.Common.{sym, subst, ◌∙◌}
use Rattle.hf_store.specs.Lists.{IsIn}
use Rattle.hf_store.proofs.KnownIds.{known_in, in_known}
use Rattle.hf_store.proofs.referring.Referred.has.Goals as goal

pub returns : goal.returns
returns c = (
  (λ told. subst (IsIn c.args.id) c.self.view_is (known_in c.args.id c.self.inside.ids.keys (sym c.contains.ensures ∙ told))),
  (λ there. c.contains.ensures ∙ in_known c.args.id c.self.inside.ids.keys (subst (IsIn c.args.id) (sym c.self.view_is) there)),
)
