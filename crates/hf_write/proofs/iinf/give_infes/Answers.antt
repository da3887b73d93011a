use Rattle.std.proofs.Common.{refl, ap}
use Rattle.hf_desk.proofs.Paging.{gives_as}
use Rattle.hf_info.specs.Infe.{Info, infe_box}
use Rattle.hf_store.specs.Layout.{info_of, infos_of}
use Rattle.hf_store.specs.Seen.{item_of}
use Rattle.hf_store.proofs.Spots.{get_map}
use Rattle.hf_write.proofs.Fits.{id_fits, infe_few}
use Rattle.hf_write.proofs.Chains.{gives_next, gives_last}
use Rattle.hf_write.proofs.iinf.give_infes.Goals as goal

pub give_infe-requires-clause-size : goal.give_infe-requires-clause-size
give_infe-requires-clause-size g c =
    rw c.info_in-info.ensures (infe_few c.args.store.now c.args.wide c.loop-i.i (item_of c.at.result.now) c.len-i-end.ensures.valid c.requires.wide c.at.ensures)

pub give_infe-requires-clause-fits : goal.give_infe-requires-clause-fits
give_infe-requires-clause-fits g c =
    let same = ap (λ (info : Info). info.id) c.info_in-info.ensures in
    rw same (id_fits c.args.store.now c.args.wide c.loop-i.i (item_of c.at.result.now) c.len-i-end.ensures.valid c.requires.wide c.at.ensures)

pub returns-in_err-give_infe : goal.returns-in_err-give_infe
returns-in_err-give_infe g c =
    let text = infe_box c.args.wide in
    let i = item_of c.at.result.now in
    let here = get_map info_of c.args.store.now.items c.loop-i.i i c.at.ensures in
    gives_last text (infos_of c.args.store.now.items) c.loop-i.i (info_of i) here refl c.from_residual.ensures.0 c.loop-i.invariant (gives_as (ap text c.info_in-info.ensures) c.in_err-give_infe.ensures)

pub loop-i-preserved : goal.loop-i-preserved
loop-i-preserved g c =
    let text = infe_box c.args.wide in
    let i = item_of c.at.result.now in
    let here = get_map info_of c.args.store.now.items c.loop-i.i i c.at.ensures in
    gives_next text (infos_of c.args.store.now.items) c.loop-i.i (info_of i) here c.loop-i.invariant (gives_as (ap text c.info_in-info.ensures) c.in_ok-give_infe.ensures)
