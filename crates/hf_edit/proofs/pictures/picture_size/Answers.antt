use Rattle.std.proofs.Common.{◌∙◌}
use Rattle.hf_store.specs.Seen.{item_of}
use Rattle.hf_store.proofs.Mapped.{here_at}
use Rattle.hf_edit.proofs.Sized.{sized-all, sized-none, unsized}
use Rattle.hf_edit.proofs.pictures.picture_size.Goals as goal

pub returns-in_err-size : goal.returns-in_err-size
returns-in_err-size c =
    c.from_residual.ensures ∙ unsized (item_of c.args.item.now) c.as_slice-props.result.now c.as_slice-props.ensures c.in_err-size.ensures

pub returns-in_err-size-2 : goal.returns-in_err-size-2
returns-in_err-size-2 c =
    let hs = c.as_slice-props.result.now in
    let h = c.held-item.result in
    let here = here_at hs c.loop-held.held-index h c.loop-held-test.true c.held-item.is in
    c.from_residual-in_err-size-2.ensures
    ∙ sized-none (item_of c.args.item.now) hs c.as_slice-props.ensures c.loop-held.size c.loop-held.held-index c.loop-held.invariant h here
    c.in_err-size-2.ensures

pub returns : goal.returns
returns c =
    c.when_sides.ensures
    ∙ sized-all (item_of c.args.item.now) c.as_slice-props.result.now c.as_slice-props.ensures c.loop-held.size c.loop-held.held-index
    c.loop-held.invariant c.loop-held-test.false
