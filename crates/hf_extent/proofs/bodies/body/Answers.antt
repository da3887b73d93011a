use Rattle.std.proofs.Common.{refl, map, ◌^◌, ◌≡◌, ◌++◌, List, ℕ}
use Rattle.std.specs.Bool.{⊤}
use Rattle.std.proofs.lemmas.Option.{MatchOption-at_some}
use Rattle.std.specs.Option.{option_copied}
use Rattle.hf_pieces.specs.Bytes.{joined}
use Rattle.hf_extent.specs.Seen.{item_seen}
use Rattle.hf_extent.specs.Known.{piece_by}
use Rattle.hf_extent.proofs.BodyLaws.{piece_there, piece_room, pieces_more}
use Rattle.hf_extent.proofs.bodies.body.Goals as goal

pub add_piece-requires-clause-there : goal.add_piece-requires-clause-there
add_piece-requires-clause-there c = piece_there (piece_by c.args.file.now (option_copied c.args.idat) c.args.ids.now (map joined c.args.bodies.now) (item_seen c.args.item.now)) c.args.item.now.extents.now c.loop-extent.extent-index (record { index = 0; offset = 0; length = 0 }) (joined c.loop-extent.pieces) _ refl c.requires.there c.loop-extent-test.true c.loop-extent.invariant

pub add_piece-requires-clause-room : goal.add_piece-requires-clause-room
add_piece-requires-clause-room c = piece_room (piece_by c.args.file.now (option_copied c.args.idat) c.args.ids.now (map joined c.args.bodies.now) (item_seen c.args.item.now)) c.args.item.now.extents.now c.loop-extent.extent-index (record { index = 0; offset = 0; length = 0 }) (joined c.loop-extent.pieces) _ (2 ^ 62) refl c.requires.there c.requires.room c.loop-extent-test.true c.loop-extent.invariant

pub loop-extent-preserved : goal.loop-extent-preserved
loop-extent-preserved c =
    pieces_more (piece_by c.args.file.now (option_copied c.args.idat) c.args.ids.now (map joined c.args.bodies.now) (item_seen c.args.item.now)) c.args.item.now.extents.now c.loop-extent.extent-index (record { index = 0; offset = 0; length = 0 }) (joined c.loop-extent.pieces) (joined c.add_piece.new.pieces) _ refl c.requires.there c.loop-extent-test.true c.loop-extent.invariant
    (λ p found. MatchOption-at_some ⊤ (λ (q : List ℕ). joined c.add_piece.new.pieces ≡ joined c.loop-extent.pieces ++ q) p found c.in_ok-add_piece.ensures)
