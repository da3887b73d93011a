use Rattle.std.proofs.Common.{◌∷◌, [], ap, ◌∙◌}
use Rattle.hf_write.proofs.Files.{version_cells}
use Rattle.hf_write.proofs.iref.front_of.Goals as goal

pub returns : goal.returns
returns c = ap (λ v. v ∷ 0 ∷ 0 ∷ 0 ∷ []) c.version_of.ensures ∙ version_cells c.args.wide
