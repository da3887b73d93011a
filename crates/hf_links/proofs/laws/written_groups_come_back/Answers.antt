use Rattle.hf_links.proofs.GrplLemmas.{grpl_again, written_stand}
use Rattle.hf_links.proofs.laws.written_groups_come_back.Goals as goal

pub returns-clause-stand : goal.returns-clause-stand
returns-clause-stand c = written_stand

pub returns-clause-read : goal.returns-clause-read
returns-clause-read c = λ b groups is w distinct rows. grpl_again b groups (written_stand b groups is w distinct rows)
