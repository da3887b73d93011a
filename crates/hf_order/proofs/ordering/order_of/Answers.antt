use Rattle.std.proofs.Common.{ℕ, List, sym, subst}
use Rattle.std.proofs.lemmas.Result.{IfOk-weaker}
use Rattle.hf_order.specs.Order.{AreWithin, IsOrder}
use Rattle.hf_order.specs.declared.ordering.Order.{Order}
use Rattle.hf_order.proofs.UnderWay.{moved_within, moved_order}
use Rattle.hf_order.proofs.ordering.order_of.Goals as goal

pub ordered-requires-clause-within : goal.ordered-requires-clause-within
ordered-requires-clause-within c =
    subst (λ (l : List (ℕ × ℕ)). AreWithin c.args.count l) (sym c.deref.ensures.value) (moved_within c.args.count c.args.pairs.now c.in_ok-sorted.sorted.items c.in_ok-sorted.ensures.moved c.requires)

pub returns-clause-exact : goal.returns-clause-exact
returns-clause-exact c =
    let count = c.args.count in
    let sorted = c.in_ok-sorted.sorted.items in
    IfOk-weaker c.ordered.result
    (λ (o : Order). IsOrder count c.deref.result.now o.nodes.items)
    (λ (o : Order). IsOrder count c.args.pairs.now o.nodes.items)
    (λ o h. moved_order count c.args.pairs.now sorted o.nodes.items c.in_ok-sorted.ensures.moved (subst (λ (l : List (ℕ × ℕ)). IsOrder count l o.nodes.items) c.deref.ensures.value h))
    c.ordered.ensures.exact
