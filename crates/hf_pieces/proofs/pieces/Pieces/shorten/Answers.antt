use Rattle.std.proofs.Common.{length, ap, sym, ◌∙◌}
use Rattle.hf_pieces.specs.Bytes.{joined}
use Rattle.hf_pieces.proofs.Cuts.{seen_front, filled_front}
use Rattle.hf_pieces.proofs.pieces.Pieces.shorten.Goals as goal

pub invariant_of-self : goal.invariant_of-self
invariant_of-self c = (
  c.requires.bytes ∙ ap (λ pieces. length (joined pieces)) (sym (seen_front c.self.inside.slices.items c.truncate.new.self.items c.args.count c.args.self.now c.truncate.ensures.items c.self.view_is)),
  c.requires.few,
  filled_front c.self.inside.slices.items c.truncate.new.self.items c.args.count c.truncate.ensures.items c.self.invariant.2,
)

pub returns : goal.returns
returns c = seen_front c.self.inside.slices.items c.truncate.new.self.items c.args.count c.args.self.now c.truncate.ensures.items c.self.view_is
