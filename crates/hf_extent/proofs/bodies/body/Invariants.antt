use Rattle.std.proofs.Common.{◌≡◌, Some, map, take}
use Rattle.std.specs.Option.{option_copied}
use Rattle.hf_pieces.specs.Bytes.{joined}
use Rattle.hf_base.specs.BytesOf.{joined_pieces}
use Rattle.hf_extent.specs.Seen.{item_seen}
use Rattle.hf_extent.specs.Known.{piece_by}
use Rattle.hf_extent.proofs.bodies.body.Given as goal

abbrev pub invariant-loop-extent : goal.invariant-loop-extent
invariant-loop-extent l = joined_pieces (map (piece_by l.file (option_copied l.idat) l.ids (map joined l.bodies) (item_seen l.item)) (take l.extent-index l.extent-items)) ≡ Some (joined l.pieces)
