use denote.Text.{Utf8}
use denote.Shadow.{shadow}
use Rattle.hf_rows.proofs.run_rows.Given as goal

abbrev pub invariant-loop-line : goal.invariant-loop-line
invariant-loop-line l = shadow (Utf8 l.name)
