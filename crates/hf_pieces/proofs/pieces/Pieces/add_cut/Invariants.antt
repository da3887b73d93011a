use Rattle.std.proofs.Common.{take}
use Rattle.hf_pieces.specs.Bytes.{joined, seen, BeginsWith}
use Rattle.hf_pieces.proofs.Cuts.{HasCut}
use Rattle.hf_pieces.proofs.pieces.Pieces.add_cut.Given as goal

abbrev pub invariant-loop-slice : goal.invariant-loop-slice
invariant-loop-slice l = HasCut l.at l.len (joined l.initial.self) (joined (seen (take l.slice-index l.slice-items))) l.skip l.left (joined l.self) × BeginsWith l.initial.self l.self
