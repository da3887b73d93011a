use Rattle.std.proofs.Common.{refl}
use Rattle.hf_read.proofs.Bytes.{all_denotes}
use Rattle.hf_read.specs.WorkedStores.{store_of_all}
use Rattle.hf_read.specs.WorkedTables.{file_of_all}
use Rattle.hf_read.proofs.Opened.{reads}
use Rattle.hf_read.proofs.worked.tables_stand.Goals as goal

pub returns-clause-read : goal.returns-clause-read
unfolding reads file_of_all store_of_all
returns-clause-read c = refl

pub returns-clause-denotes : goal.returns-clause-denotes
returns-clause-denotes c = all_denotes
