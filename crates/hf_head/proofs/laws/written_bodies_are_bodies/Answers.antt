use Rattle.hf_head.proofs.FtypLemmas as ftyp
use Rattle.hf_head.proofs.HdlrLemmas as hdlr
use Rattle.hf_head.proofs.PitmLemmas as pitm
use Rattle.hf_head.proofs.laws.written_bodies_are_bodies.Goals as goal

pub returns-clause-ftyp : goal.returns-clause-ftyp
returns-clause-ftyp c = ftyp.written_is

pub returns-clause-hdlr : goal.returns-clause-hdlr
returns-clause-hdlr c = hdlr.written_is

pub returns-clause-pitm : goal.returns-clause-pitm
returns-clause-pitm c = pitm.written_is
