use Rattle.std.proofs.Common.{refl, arith}
use Rattle.hf_store.specs.Seen.{item_of}
use Rattle.hf_store.specs.Table.{table_of}
use Rattle.hf_store.proofs.Spots.{within_at}
use Rattle.hf_desk.proofs.Paging.{gives_all}
use Rattle.hf_plan.proofs.Readers.{plan_tells_all}
use Rattle.hf_write.specs.Entries.{prop_box}
use Rattle.hf_write.proofs.Chains.{gives_next, gives_last}
use Rattle.hf_write.proofs.Props.{first_stands, first_within, first_is, prop_few}
use Rattle.hf_write.proofs.ipco.give_props.Goals as goal

pub at-requires : goal.at-requires
at-requires g c =
    let f = first_stands c.args.store.now c.args.plan.now c.loop-k.k c.first-i.result c.requires.plan c.first-i.ensures in
    within_at c.args.store.now.items c.first-i.result.0 f.item f.here

pub get-requires : goal.get-requires
get-requires g c =
    let f = first_stands c.args.store.now c.args.plan.now c.loop-k.k c.first-i.result c.requires.plan c.first-i.ensures in
    first_within c.args.store.now c.loop-k.k c.first-i.result (item_of c.at.result.now) f c.at.ensures

pub give_prop-requires-clause-few : goal.give_prop-requires-clause-few
give_prop-requires-clause-few g c =
    let f = first_stands c.args.store.now c.args.plan.now c.loop-k.k c.first-i.result c.requires.plan c.first-i.ensures in
    let here = first_is c.args.store.now c.loop-k.k c.first-i.result (item_of c.at.result.now) c.get.result.now f c.at.ensures c.get.ensures in
    omega (arith, prop_few c.args.store.now c.loop-k.k c.get.result.now.prop c.valid.ensures here)

pub returns-in_err-give_prop : goal.returns-in_err-give_prop
returns-in_err-give_prop g c =
    let f = first_stands c.args.store.now c.args.plan.now c.loop-k.k c.first-i.result c.requires.plan c.first-i.ensures in
    let here = first_is c.args.store.now c.loop-k.k c.first-i.result (item_of c.at.result.now) c.get.result.now f c.at.ensures c.get.ensures in
    gives_last prop_box (table_of c.args.store.now) c.loop-k.k c.get.result.now.prop here refl c.from_residual.ensures.0 c.loop-k.invariant c.in_err-give_prop.ensures

pub loop-k-preserved : goal.loop-k-preserved
loop-k-preserved g c =
    let f = first_stands c.args.store.now c.args.plan.now c.loop-k.k c.first-i.result c.requires.plan c.first-i.ensures in
    let here = first_is c.args.store.now c.loop-k.k c.first-i.result (item_of c.at.result.now) c.get.result.now f c.at.ensures c.get.ensures in
    gives_next prop_box (table_of c.args.store.now) c.loop-k.k c.get.result.now.prop here c.loop-k.invariant c.in_ok-give_prop.ensures

pub returns : goal.returns
returns g c =
    let told = plan_tells_all c.args.store.now c.args.plan.now c.requires.plan in
    gives_all prop_box (table_of c.args.store.now) c.loop-k.k (omega (arith, c.loop-k-test.false, c.kinds-k-end.ensures, told.kinds)) c.loop-k.invariant
