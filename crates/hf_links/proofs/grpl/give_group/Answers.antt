use Rattle.std.proofs.Common.{List, ℕ, refl, subst}
use Rattle.std.specs.List.{flat_map}
use Rattle.hf_base.specs.Number.{num}
use Rattle.hf_base.specs.declared.limits.TheConstants.{META}
use Rattle.hf_desk.specs.Pages.{ByPut, Gives}
use Rattle.hf_desk.proofs.Paging.{gives_then, gives_more, gives_exit}
use Rattle.hf_links.specs.Grpl.{group_of}
use Rattle.hf_links.proofs.Fronts.{group_is_short}
use Rattle.hf_links.proofs.grpl.give_group.Goals as goal

pub front_of-requires-clause-size : goal.front_of-requires-clause-size
front_of-requires-clause-size g c = group_is_short (group_of c.args.group.now) META c.requires.size

pub returns-in_err-give : goal.returns-in_err-give
returns-in_err-give g c =
    let outside = g.D.Desk.outside in
    let group = c.args.group.now in
    let ids = flat_map (λ id. num id 4) group.entities in
    let err = c.from_residual.ensures.0 in
    subst (λ (l : List ℕ). Gives ByPut (outside c.args.desk.now) c.args.page.now l c.from_residual.result (outside c.give.new.desk) c.give.new.self) c.front_of.ensures (gives_more group.tail.now err (gives_more ids err (gives_exit refl err c.in_err-give.ensures.gives)))

pub returns-in_err-give_ids : goal.returns-in_err-give_ids
returns-in_err-give_ids g c =
    let outside = g.D.Desk.outside in
    let group = c.args.group.now in
    let err = c.from_residual-in_err-give_ids.ensures.0 in
    let ids = rw c.as_slice.ensures at c.in_err-give_ids.ensures in
    subst (λ (l : List ℕ). Gives ByPut (outside c.args.desk.now) c.args.page.now l c.from_residual-in_err-give_ids.result (outside c.give_ids.new.desk) c.give_ids.new.page) c.front_of.ensures (gives_more group.tail.now err (gives_exit refl err (gives_then c.in_ok-give.ensures.gives ids)))

pub returns : goal.returns
returns g c =
    let outside = g.D.Desk.outside in
    let ids = rw c.as_slice.ensures at c.in_ok-give_ids.ensures in
    subst (λ (l : List ℕ). Gives ByPut (outside c.args.desk.now) c.args.page.now l c.give-2.result (outside c.give-2.new.desk) c.give-2.new.self) c.front_of.ensures (gives_then (gives_then c.in_ok-give.ensures.gives ids) c.give-2.ensures.gives)
