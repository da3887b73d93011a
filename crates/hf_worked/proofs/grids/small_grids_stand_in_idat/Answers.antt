use Rattle.hf_worked.proofs.GridFiles.{valid_grids, laid_grids}
use Rattle.hf_worked.proofs.grids.small_grids_stand_in_idat.Goals as goal

pub returns : goal.returns
returns c = record { valid = valid_grids; laid = laid_grids }
