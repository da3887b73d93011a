use Rattle.hf_links.proofs.IrefLemmas.{iref_again, written_stand}
use Rattle.hf_links.proofs.laws.written_references_come_back.Goals as goal

pub returns-clause-stand : goal.returns-clause-stand
returns-clause-stand c = written_stand

pub returns-clause-read : goal.returns-clause-read
returns-clause-read c = λ b wide links is w rows. iref_again b links (written_stand b wide links is w rows)
