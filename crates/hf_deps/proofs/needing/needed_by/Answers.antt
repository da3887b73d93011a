use Rattle.std.proofs.Common.{◌≡◌, ℕ, ◌+◌, Bool, true, false, not, ◌&&◌, cond, List, drop, sym, ap, ◌∙◌, arith, Some}
use Rattle.std.specs.Prelude.{◌==◌, slice_get}
use Rattle.std.proofs.lemmas.List.{drop_all}
use Rattle.hf_deps.specs.Needs.{needs, needed_by}
use Rattle.hf_store.specs.Seen.{item_of}
use Rattle.hf_store.specs.Store.{Item}
use Rattle.hf_store.proofs.Spots.{drop_here}
use Rattle.hf_deps.proofs.Referrers.{none_refers}
use Rattle.hf_deps.proofs.needing.needed_by.Goals as goal

ahead : (id : ℕ) (is : List Item) (k : ℕ) (i : Item) (b : Bool) → slice_get is k ≡ Some i → b ≡ (not (i.id == id) && needs id i)
    → needed_by id (drop k is) ≡ cond b (Some i.id) (needed_by id (drop (k + 1) is))
ahead id is k i b here e = ap (needed_by id) (drop_here is k i here) ∙ ap (λ x. cond x (Some i.id) (needed_by id (drop (k + 1) is))) (sym e)

pub returns-then-not-may_be_referred_to : goal.returns-then-not-may_be_referred_to
returns-then-not-may_be_referred_to c = sym (none_refers c.args.store.now c.args.id (c.may_be_referred_to.ensures c.if-not-may_be_referred_to.true))

pub loop-i-preserved : goal.loop-i-preserved
loop-i-preserved c =
    let is = c.args.store.now.items in
    let i = item_of c.at-item.result.now in
    c.loop-i.invariant ∙ ahead c.args.id is c.loop-i.i i false c.at-item.ensures (sym c.if-is_needer.false ∙ c.is_needer.ensures)

pub returns-then-is_needer : goal.returns-then-is_needer
returns-then-is_needer c =
    let is = c.args.store.now.items in
    let i = item_of c.at-item.result.now in
    sym (c.loop-i.invariant ∙ ahead c.args.id is c.loop-i.i i true c.at-item.ensures (sym c.if-is_needer.true ∙ c.is_needer.ensures))

pub returns : goal.returns
returns c = sym (c.loop-i.invariant ∙ ap (needed_by c.args.id) (drop_all c.loop-i.i c.args.store.now.items (omega arith)))
