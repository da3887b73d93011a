use Rattle.std.proofs.Common.{refl, ◌∙◌}
use Rattle.hf_desk.proofs.Paging.{put_end, put_stop}
use Rattle.hf_write.proofs.bodies.put_pieces.Goals as goal

pub end-requires : goal.end-requires
end-requires g c = c.in_ok-give_pieces.ensures.writes.only.creating ∙ c.requires

pub returns-in_err-give_pieces : goal.returns-in_err-give_pieces
returns-in_err-give_pieces g c = put_stop refl c.from_residual.ensures.0 (rw c.new-page.ensures at c.in_err-give_pieces.ensures)

pub returns : goal.returns
returns g c = put_end (rw c.new-page.ensures at c.in_ok-give_pieces.ensures) c.end.ensures.writes
