use Rattle.std.proofs.Common.{ℕ, refl}
use Rattle.hf_base.specs.Number.{num}
use Rattle.hf_box.specs.Written.{id_width}
use Rattle.hf_desk.proofs.Paging.{gives_each, gives_each_stop}
use Rattle.hf_links.proofs.ids.give_ids.Goals as goal

pub returns-in_err-give_id : goal.returns-in_err-give_id
returns-in_err-give_id g c =
    let text = λ (id : ℕ). num id (id_width c.args.wide) in
    let ids = c.args.ids.now in
    let i = c.loop-id.id-index in
    let err = c.from_residual.ensures.0 in
    gives_each_stop text ids i 0 c.loop-id-test.true refl err c.loop-id.invariant c.in_err-give_id.ensures

pub loop-id-preserved : goal.loop-id-preserved
loop-id-preserved g c =
    let text = λ (id : ℕ). num id (id_width c.args.wide) in
    gives_each text c.args.ids.now c.loop-id.id-index 0 c.loop-id-test.true c.loop-id.invariant c.in_ok-give_id.ensures
