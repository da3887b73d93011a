use Rattle.std.proofs.Common.{◌≡◌, map, take, length}
use Rattle.std.specs.Option.{option_copied}
use Rattle.hf_pieces.specs.Bytes.{joined}
use Rattle.hf_base.specs.BytesOf.{bytes_of}
use Rattle.hf_extent.specs.Seen.{items_seen}
use Rattle.hf_extent.proofs.BodyLaws.{KnowsBytes}
use Rattle.hf_extent.proofs.bodies.bodies.Given as goal

abbrev pub invariant-loop-at : goal.invariant-loop-at
invariant-loop-at l = record { count : length l.bodies.items ≡ length l.ids; knows : KnowsBytes (bytes_of l.file (option_copied l.idat) (items_seen l.items)) (items_seen l.items) (take l.at-index l.order) (map joined l.bodies.items) }
