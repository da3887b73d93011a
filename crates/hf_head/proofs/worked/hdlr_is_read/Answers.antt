use Rattle.std.proofs.Common.{refl}
use Rattle.hf_base.specs.Number.{num, number}
use Rattle.hf_base.specs.Reading.{front, front_four, front_full}
use Rattle.hf_head.specs.Hdlr.{handler_at, hdlr_at, hdlr_body}
use Rattle.hf_head.specs.Worked.{worked_hdlr, video_hdlr, full_hdlr}
use Rattle.hf_head.proofs.worked.hdlr_is_read.Goals as goal

pub returns : goal.returns
unfolding num number front front_four front_full handler_at hdlr_at hdlr_body worked_hdlr video_hdlr full_hdlr
returns c = record { picture = refl; fields = refl; nameless = refl; empty = refl; short = refl; short_video = refl; video = refl; written = refl }
