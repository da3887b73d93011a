use Rattle.hf_head.proofs.FtypLemmas.{ftyp_found, ftyp_only}
use Rattle.hf_head.proofs.laws.ftyp_is_its_program.Goals as goal

pub returns : goal.returns
returns c = λ at body b fits. (ftyp_only at body b, ftyp_found at body b fits)
