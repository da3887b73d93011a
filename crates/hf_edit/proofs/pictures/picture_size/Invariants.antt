use Rattle.std.proofs.Common.{◌≡◌, drop, Some}
use Rattle.std.specs.Prelude.{fold}
use Rattle.hf_edit.specs.Pictures.{first_size, sized_by}
use Rattle.hf_edit.proofs.pictures.picture_size.Given as goal

abbrev pub invariant-loop-held : goal.invariant-loop-held
invariant-loop-held l = fold sized_by (first_size l.props) l.props ≡ fold sized_by (Some l.size) (drop l.held-index l.props)
