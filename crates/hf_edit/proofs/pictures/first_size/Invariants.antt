use Rattle.std.proofs.Common.{◌≡◌, drop}
use Rattle.hf_edit.specs.Pictures.{first_size}
use Rattle.hf_edit.proofs.pictures.first_size.Given as goal

abbrev pub invariant-loop-held : goal.invariant-loop-held
invariant-loop-held l = first_size l.props ≡ first_size (drop l.held-index l.props)
