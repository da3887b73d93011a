use Rattle.std.proofs.Common.{◌++◌, List, ℕ, refl, subst}
use Rattle.hf_base.specs.Number.{num}
use Rattle.hf_desk.specs.Pages.{ByPut, Gives}
use Rattle.hf_desk.proofs.Paging.{gives_then, gives_more, gives_exit}
use Rattle.hf_loc.specs.Iloc.{offset_width}
use Rattle.hf_loc.proofs.WrittenLemmas.{entry_parts}
use Rattle.hf_loc.proofs.entry.give_entry.Goals as goal

pub returns-in_err-give_place : goal.returns-in_err-give_place
returns-in_err-give_place g c =
    let outside = g.D.Desk.outside in
    let err = c.from_residual.ensures.0 in
    let w = offset_width c.args.long in
    subst (λ (l : List ℕ). Gives ByPut (outside c.args.desk.now) c.args.page.now l c.from_residual.result (outside c.give_place.new.desk) c.give_place.new.page) (entry_parts c.args.wide w c.args.id c.args.method c.args.offset c.args.length)
    (gives_more (num c.args.offset w ++ num c.args.length w) err (gives_exit refl err c.in_err-give_place.ensures))

pub returns : goal.returns
returns g c =
    let outside = g.D.Desk.outside in
    let w = offset_width c.args.long in
    subst (λ (l : List ℕ). Gives ByPut (outside c.args.desk.now) c.args.page.now l c.give_extent.result (outside c.give_extent.new.desk) c.give_extent.new.page) (entry_parts c.args.wide w c.args.id c.args.method c.args.offset c.args.length)
    (gives_then c.in_ok-give_place.ensures c.give_extent.ensures)
