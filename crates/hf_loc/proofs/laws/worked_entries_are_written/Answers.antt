use Rattle.std.proofs.Common.{refl}
use Rattle.hf_base.specs.Number.{num}
use Rattle.hf_loc.specs.Iloc.{iloc_body, iloc_entry}
use Rattle.hf_loc.proofs.laws.worked_entries_are_written.Goals as goal

pub returns-clause-worked_file : goal.returns-clause-worked_file
unfolding iloc_body iloc_entry num
returns-clause-worked_file c = refl

pub returns-clause-wide_and_long : goal.returns-clause-wide_and_long
unfolding iloc_body iloc_entry num
returns-clause-wide_and_long c = refl
