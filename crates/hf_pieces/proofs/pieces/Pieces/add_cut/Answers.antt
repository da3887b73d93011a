use Rattle.std.proofs.Common.{subst, sym}
use Rattle.hf_pieces.specs.Bytes.{BeginsWith}
use Rattle.hf_pieces.proofs.Cuts.{cuts_more, begins_more}
use Rattle.hf_pieces.proofs.pieces.Pieces.add_cut.Goals as goal

pub loop-slice-preserved : goal.loop-slice-preserved
loop-slice-preserved c = (
  cuts_more _ _ _ _ _ _ _ _ _ _ _ _ c.loop-slice-test.true c.loop-slice.invariant.0 c.min-start.ensures c.min-count.ensures c.in_ok-push.ensures.bytes,
  subst (λ pieces. BeginsWith c.args.self.now pieces) (sym c.in_ok-push.ensures.pieces) (begins_more _ _ _ c.loop-slice.invariant.1),
)
