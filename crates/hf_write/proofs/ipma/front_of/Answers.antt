use Rattle.std.proofs.Common.{◌∷◌, [], ◌++◌, ap, ◌∙◌, append-nil}
use Rattle.hf_base.specs.Number.{num}
use Rattle.hf_box.specs.Written.{id_version}
use Rattle.hf_write.proofs.Files.{ipma_cells}
use Rattle.hf_write.proofs.ipma.front_of.Goals as goal

pub returns : goal.returns
returns c =
    c.be_put.ensures ∙ append-nil _
    ∙ ap (λ l. l ++ num c.args.count 4)
    (ap (λ v. v ∷ 0 ∷ 0 ∷ c.flag_of.result ∷ []) c.version_of.ensures ∙ ap (λ f. id_version c.args.wide ∷ 0 ∷ 0 ∷ f ∷ []) c.flag_of.ensures ∙ ipma_cells c.args.wide c.args.long)
