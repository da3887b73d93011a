use Rattle.hf_head.proofs.HdlrLemmas.{hdlr_found, hdlr_only}
use Rattle.hf_head.proofs.laws.hdlr_is_its_program.Goals as goal

pub returns : goal.returns
returns c = λ at body fits. (hdlr_only at body, hdlr_found at body fits)
