use Rattle.std.proofs.Common.{List, ℕ, ap}
use Rattle.hf_base.specs.declared.kinds.TheConstants.{CLAP}
use Rattle.hf_prop.specs.declared.prop.Prop.{Prop}
use Rattle.hf_prop.specs.Views.{window_body}
use Rattle.hf_prop.proofs.ViewLemmas.{whole_window}
use Rattle.hf_prop.proofs.makers.window.Goals as goal

abbrev with_body : List ℕ → Prop
with_body body = record { kind = CLAP; body = body }

pub returns : goal.returns
unfolding window_body
returns c =
    let whole = whole_window c.args.x c.args.y c.args.w c.args.h c.args.width c.args.height in
    ap with_body (rw (c.small.ensures, c.numbers.ensures, c.difference-across.ensures, c.difference-down.ensures) whole)
