use Rattle.std.proofs.Common.{◌≡◌, true, false, sym, subst, ◌∙◌}
use Rattle.hf_store.specs.Lists.{IsIn}
use Rattle.hf_store.specs.Referred.{all_targets}
use Rattle.hf_store.specs.Store.{ItemStore}
use Rattle.hf_store.proofs.store.Store.may_be_referred_to.Goals as goal

pub returns : goal.returns
returns c told h =
    let there = c.self.invariant.referred c.args.id (subst (λ (s : ItemStore). IsIn c.args.id (all_targets s.items)) (sym c.self.view_is) h) in
    let e : true ≡ false = sym (c.has.ensures.1 there) ∙ told in
    absurd cc
