use Rattle.hf_box.proofs.WorkedFile.{length-worked_file, walk_at-worked_file, IsWalk-worked_file}
use Rattle.hf_box.proofs.laws.worked_file_rows.Goals as goal

pub returns : goal.returns
returns c = record { length = length-worked_file; rows = IsWalk-worked_file; program = walk_at-worked_file }
