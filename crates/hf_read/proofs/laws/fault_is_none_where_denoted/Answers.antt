use Rattle.hf_read.proofs.ReadingLaws.{no_fault_denotes, fault_is_read}
use Rattle.hf_read.proofs.laws.fault_is_none_where_denoted.Goals as goal

pub returns : goal.returns
returns c = record { none = no_fault_denotes; some = fault_is_read }
