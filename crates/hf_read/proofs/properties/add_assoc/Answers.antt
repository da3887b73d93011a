use Rattle.std.proofs.Common.{ap, ◌∙◌, ◌++◌, get_or}
use Rattle.std.specs.List.{flat_map}
use Rattle.std.proofs.lemmas.Result.{on_ok_weaker}
use Rattle.hf_read.specs.Kept.{held_at}
use Rattle.hf_read.proofs.AssocLaws.{entry_more, entry_nowhere}
use Rattle.hf_read.proofs.properties.add_assoc.Goals as goal

pub returns-in-Some : goal.returns-in-Some
returns-in-Some c = λ assocs so_far.
    let old = get_or c.args.lists.now c.in-Some.at c.index-lists-at.result in
    on_ok_weaker c.add_picks.result (λ done.
    entry_more c.args.props.now assocs c.args.assoc.now c.args.ids.now c.args.lists.now c.in-Some.at old c.add_picks.new.held
    c.requires.rising c.in-Some.ensures.within c.in-Some.ensures.found (ap (λ l. get_or c.args.lists.now c.in-Some.at l) c.index-lists-at.is)
    (done ∙ ap (λ ps. old ++ flat_map (held_at c.args.props.now) ps) c.as_slice.ensures) so_far) c.add_picks.ensures

pub returns-in-None : goal.returns-in-None
returns-in-None c = λ assocs so_far. so_far ∙ entry_nowhere c.args.props.now assocs c.args.assoc.now c.args.ids.now c.in-None.ensures.missing
