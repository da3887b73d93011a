use Rattle.std.proofs.Common.{ℕ, List, refl}
use Rattle.hf_write.proofs.Chains.{gives_next, gives_last}
use Rattle.hf_write.proofs.bodies.give_pieces.Goals as goal

pub returns-in_err-give : goal.returns-in_err-give
returns-in_err-give g c = gives_last (λ (p : List ℕ). p) c.args.pieces.now c.loop-i.i _ c.piece.ensures.value refl c.from_residual.ensures.0 c.loop-i.invariant c.in_err-give.ensures.gives

pub loop-i-preserved : goal.loop-i-preserved
loop-i-preserved g c = gives_next (λ (p : List ℕ). p) c.args.pieces.now c.loop-i.i _ c.piece.ensures.value c.loop-i.invariant c.in_ok-give.ensures.gives
