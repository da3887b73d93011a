use Rattle.hf_prop.proofs.ViewLemmas.{turn_again, axis_again, window_again}
use Rattle.hf_prop.proofs.laws.made_properties_are_seen.Goals as goal

pub returns-clause-turn : goal.returns-clause-turn
returns-clause-turn c = turn_again

pub returns-clause-axis : goal.returns-clause-axis
returns-clause-axis c = axis_again

pub returns-clause-window : goal.returns-clause-window
returns-clause-window c = window_again
