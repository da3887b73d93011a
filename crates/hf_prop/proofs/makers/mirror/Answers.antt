use Rattle.std.proofs.Common.{◌≡◌, ◌++◌, List, ℕ, replicate, ap, take}
use Rattle.std.proofs.lemmas.List.{take_at}
use Rattle.hf_base.specs.declared.kinds.TheConstants.{IMIR}
use Rattle.hf_base.specs.Number.{num}
use Rattle.hf_base.specs.NumberLaws.{length-num}
use Rattle.hf_prop.specs.declared.prop.Prop.{Prop}
use Rattle.hf_prop.proofs.makers.mirror.Goals as goal

abbrev with_body : List ℕ → Prop
with_body body = record { kind = IMIR; body = body }

pub returns : goal.returns
returns c =
    let first : take 1 (num c.args.axis 1 ++ replicate 31 0) ≡ num c.args.axis 1 = take_at (num c.args.axis 1) (replicate 31 0) 1 (length-num 1 c.args.axis) in
    ap with_body (rw (c.small.ensures, c.be_put.ensures) first)
