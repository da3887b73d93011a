use Rattle.hf_worked.proofs.GridFiles.{valid_identity_with_bytes, laid_identity_with_bytes}
use Rattle.hf_worked.proofs.grids.identity_stands_in_mdat.Goals as goal

pub returns : goal.returns
returns c = record { valid = valid_identity_with_bytes; laid = laid_identity_with_bytes }
