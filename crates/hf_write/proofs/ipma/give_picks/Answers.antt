use Rattle.std.proofs.Common.{◌≡◌, map, refl, sym, ap, ◌∙◌}
use Rattle.hf_desk.proofs.Paging.{gives_as}
use Rattle.hf_prop.specs.Ipma.{association}
use Rattle.hf_store.specs.Picks.{pick_of}
use Rattle.hf_store.specs.Seen.{item_of}
use Rattle.hf_store.specs.Table.{table_of}
use Rattle.hf_store.proofs.Spots.{get_map, some_is}
use Rattle.hf_write.specs.Entries.{picks_text}
use Rattle.hf_write.proofs.Chains.{gives_next, gives_last}
use Rattle.hf_write.proofs.Props.{has_number, number_is, number_fits, pick_is}
use Rattle.hf_write.proofs.ipma.give_picks.Goals as goal

pub number-requires : goal.number-requires
number-requires g c = has_number c.args.store.now c.args.plan.now c.args.i c.loop-j.j (item_of c.at.result.now) c.get.result.now c.requires.plan c.at.ensures c.get.ensures

pub give_pick-requires-clause-number : goal.give_pick-requires-clause-number
give_pick-requires-clause-number g c =
    number_fits c.args.store.now c.args.long c.args.i c.loop-j.j (item_of c.at.result.now) c.get.result.now c.number.result c.valid.ensures c.requires.long c.at.ensures c.get.ensures
    (number_is c.args.store.now c.args.plan.now c.args.i c.loop-j.j (item_of c.at.result.now) c.get.result.now c.number.result c.requires.plan c.at.ensures c.get.ensures c.number.ensures)

pub returns-in_err-give_pick : goal.returns-in_err-give_pick
returns-in_err-give_pick g c = λ item e.
    let table = table_of c.args.store.now in
    let h = c.get.result.now in
    let i = item_of c.at.result.now in
    let same : picks_text c.args.long table i ≡ picks_text c.args.long table item = ap (picks_text c.args.long table) (some_is (sym c.at.ensures ∙ e)) in
    let pick = pick_is c.args.store.now c.args.long h _ (number_is c.args.store.now c.args.plan.now c.args.i c.loop-j.j i h c.number.result c.requires.plan c.at.ensures c.get.ensures c.number.ensures) in
    gives_as same (gives_last (association c.args.long) (map (pick_of table) i.props) c.loop-j.j (pick_of table h) (get_map (pick_of table) i.props c.loop-j.j h c.get.ensures) refl c.from_residual.ensures.0 c.loop-j.invariant (gives_as pick c.in_err-give_pick.ensures))

pub loop-j-preserved : goal.loop-j-preserved
loop-j-preserved g c =
    let table = table_of c.args.store.now in
    let h = c.get.result.now in
    let i = item_of c.at.result.now in
    let pick = pick_is c.args.store.now c.args.long h _ (number_is c.args.store.now c.args.plan.now c.args.i c.loop-j.j i h c.number.result c.requires.plan c.at.ensures c.get.ensures c.number.ensures) in
    gives_next (association c.args.long) (map (pick_of table) i.props) c.loop-j.j (pick_of table h) (get_map (pick_of table) i.props c.loop-j.j h c.get.ensures) c.loop-j.invariant (gives_as pick c.in_ok-give_pick.ensures)
