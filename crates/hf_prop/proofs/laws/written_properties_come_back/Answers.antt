use Rattle.hf_prop.proofs.WrittenLemmas.{written_stand, written_read}
use Rattle.hf_prop.proofs.laws.written_properties_come_back.Goals as goal

pub returns-clause-stand : goal.returns-clause-stand
returns-clause-stand c = written_stand

pub returns-clause-read : goal.returns-clause-read
returns-clause-read c = written_read
