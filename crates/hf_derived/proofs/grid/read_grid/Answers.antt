use Rattle.hf_pieces.specs.Bytes.{joined}
use Rattle.hf_derived.proofs.Sides.{front_is}
use Rattle.hf_derived.proofs.grid.read_grid.Goals as goal

pub returns-clause-only : goal.returns-clause-only
returns-clause-only c =
    let copied = c.copy_front-count.ensures in
    λ grid h. c.grid_of.ensures.only (joined c.args.body.now) (front_is (joined c.args.body.now) _ c.copy_front-count.new.out c.copy_front-count.result copied.count copied.bytes) grid h
