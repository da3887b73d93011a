use Rattle.std.proofs.Common.{ℕ, List, length, Some, None, subst}
use Rattle.hf_order.specs.Order.{IsOrder}
use Rattle.hf_derived.specs.Cycle.{IsFirstLeft}
use Rattle.hf_derived.proofs.Cycles.{none_left, first_left}
use Rattle.hf_derived.proofs.cycle.derive_cycle.Goals as goal

pub returns-in-Some : goal.returns-in-Some
returns-in-Some c =
    let ids = c.args.ids.now in
    let order = c.in_ok-order.order in
    let exact = subst (λ (l : List (ℕ × ℕ)). IsOrder (length ids) l order.nodes.items) c.deref.ensures.value c.in_ok-order.ensures.exact in
    let first = subst (λ (l : List ℕ). IsFirstLeft l (Some c.in-Some.place)) c.deref-2.ensures.value c.in-Some.ensures in
    first_left ids order.left.items order.nodes.items c.in_ok-places.places.items c.args.pairs.now c.in-Some.place c.in_ok-places.ensures.there c.requires.rises c.in_ok-places.ensures.within exact c.in_ok-order.ensures.left first

pub returns : goal.returns
returns c =
    let ids = c.args.ids.now in
    let order = c.in_ok-order.order in
    let exact = subst (λ (l : List (ℕ × ℕ)). IsOrder (length ids) l order.nodes.items) c.deref.ensures.value c.in_ok-order.ensures.exact in
    let none = subst (λ (l : List ℕ). IsFirstLeft l None) c.deref-2.ensures.value c.in-None.ensures in
    none_left ids order.left.items order.nodes.items c.in_ok-places.places.items c.args.pairs.now c.in_ok-places.ensures.there c.requires.rises c.in_ok-places.ensures.within exact c.in_ok-order.ensures.left none
