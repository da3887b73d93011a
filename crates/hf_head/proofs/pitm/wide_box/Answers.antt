use Rattle.std.proofs.Common.{refl}
use Rattle.hf_base.specs.Number.{num}
use Rattle.hf_box.specs.Head.{box_head, box}
use Rattle.hf_head.specs.Pitm.{pitm_body}
use Rattle.hf_head.proofs.pitm.wide_box.Goals as goal

pub returns : goal.returns
unfolding num box_head box pitm_body
returns c = rw (c.be_put-2.ensures, c.be_put.ensures, c.copy_from_slice.ensures.after) refl
