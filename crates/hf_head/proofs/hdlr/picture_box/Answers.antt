use Rattle.std.proofs.Common.{refl}
use Rattle.hf_base.specs.Number.{num}
use Rattle.hf_box.specs.Head.{box_head, box}
use Rattle.hf_head.specs.Hdlr.{hdlr_body}
use Rattle.hf_head.proofs.hdlr.picture_box.Goals as goal

pub returns : goal.returns
unfolding num box_head box hdlr_body
returns c = rw (c.be_put.ensures, c.copy_from_slice.ensures.after, c.copy_from_slice-2.ensures.after) refl
