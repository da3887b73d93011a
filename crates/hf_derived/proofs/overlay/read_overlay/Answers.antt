use Rattle.std.proofs.Common.{sym}
use Rattle.hf_pieces.specs.Bytes.{joined}
use Rattle.hf_derived.proofs.Sides.{front_is}
use Rattle.hf_derived.proofs.overlay.read_overlay.Goals as goal

pub returns-clause-only : goal.returns-clause-only
returns-clause-only c =
    let copied = c.copy_front-count.ensures in
    λ overlay h. c.overlay_of.ensures.only (joined c.args.body.now) (sym c.len.ensures.count) (front_is (joined c.args.body.now) _ c.copy_front-count.new.out c.copy_front-count.result copied.count copied.bytes) overlay h
