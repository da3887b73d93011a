use Rattle.std.proofs.Common.{ℕ, ◌≤◌, Bool, List, false, length, replicate, sym, subst, ◌∙◌, arith, rules}
use Rattle.std.proofs.lemmas.List.{length-map}
use Rattle.hf_store.specs.Store.{Item, ids_of}
use Rattle.hf_deps.specs.Reach.{AreMarked}
use Rattle.hf_deps.proofs.Spread.{complete, none_marked}
use Rattle.hf_deps.proofs.reach.reach.Goals as goal

pub meet-requires-clause-marked : goal.meet-requires-clause-marked
meet-requires-clause-marked c =
    let all = ids_of c.args.store.now.items in
    let zeros = c.in_ok-marks.ensures.items_if_clones_equal (λ y h. search rules) in
    let none = none_marked all c.len.result (omega (arith, c.len.ensures.count, length-map c.args.store.now.items (λ (i : Item). i.id))) in
    subst (λ (marks : List Bool). AreMarked all marks c.in_ok-ids.ids.items) (sym (c.deref_mut.ensures.value ∙ zeros))
    (subst (λ (ids : List ℕ). AreMarked all (replicate c.len.result false) ids) (sym c.in_ok-ids.ensures.items) none)

pub returns-clause-exact : goal.returns-clause-exact
returns-clause-exact c =
    let way = c.loop-done.invariant.spread in
    let ids = c.loop-done.ids.items in
    let all : length ids ≤ c.loop-done.done = omega (arith, c.loop-done.ids.ok.0) in
    record { starts = way.starts; closed = complete c.args.pairs.now c.args.store.now.primary c.loop-done.done ids all way; least = way.least }
