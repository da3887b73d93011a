use Rattle.std.proofs.Common.{List, ℕ, refl, subst, sym}
use Rattle.hf_desk.specs.Pages.{ByPut, Gives}
use Rattle.hf_desk.proofs.Paging.{gives_then, gives_more, gives_exit}
use Rattle.std.specs.List.{flat_map}
use Rattle.hf_base.specs.Number.{num}
use Rattle.hf_box.specs.Written.{id_width}
use Rattle.hf_links.proofs.iref.give_ref.Goals as goal

pub returns-in_err-give_front : goal.returns-in_err-give_front
returns-in_err-give_front g c =
    let outside = g.D.Desk.outside in
    let f = c.in_err-give_front.ensures in
    let whole = f.2 c.args.to.now (sym c.len.ensures) in
    let err = c.from_residual.ensures.0 in
    subst (λ (l : List ℕ). Gives ByPut (outside c.args.desk.now) c.args.page.now l c.from_residual.result (outside c.give_front.new.desk) c.give_front.new.page) whole (gives_more (flat_map (λ id. num id (id_width c.args.wide)) c.args.to.now) err (gives_exit refl err f.1))

pub returns : goal.returns
returns g c =
    let outside = g.D.Desk.outside in
    let f = c.in_ok-give_front.ensures in
    let whole = f.2 c.args.to.now (sym c.len.ensures) in
    let ids = rw c.as_slice.ensures at c.give_ids.ensures in
    subst (λ (l : List ℕ). Gives ByPut (outside c.args.desk.now) c.args.page.now l c.give_ids.result (outside c.give_ids.new.desk) c.give_ids.new.page) whole (gives_then f.1 ids)
