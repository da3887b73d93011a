use Rattle.hf_edit.proofs.PictureSize.{picture_size_is_told}
use Rattle.hf_edit.proofs.laws.picture_size_is_told.Goals as goal

pub returns : goal.returns
returns c = picture_size_is_told
