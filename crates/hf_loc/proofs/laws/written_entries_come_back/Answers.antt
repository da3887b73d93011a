use Rattle.hf_loc.proofs.WrittenLemmas.{written_is, written_read}
use Rattle.hf_loc.proofs.laws.written_entries_come_back.Goals as goal

pub returns-clause-relation : goal.returns-clause-relation
returns-clause-relation c = written_is

pub returns-clause-program : goal.returns-clause-program
returns-clause-program c = written_read
