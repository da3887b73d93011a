use Rattle.std.proofs.Common.{length, ◌-◌, ◌≤◌, map, string_bytes}
use Rattle.hf_text.proofs.EditSteps.{Progress}
use Rattle.hf_text.proofs.edits.read_edits.Given as goal

abbrev pub invariant-loop-at : goal.invariant-loop-at
invariant-loop-at l = (l.at ≤ length l.words) × Progress (map string_bytes l.words) l.at l.count l.edits

abbrev pub decreases-loop-at : goal.decreases-loop-at
decreases-loop-at l = length l.words - l.at
