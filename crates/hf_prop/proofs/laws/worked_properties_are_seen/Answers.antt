use Rattle.std.proofs.Common.{refl}
use Rattle.hf_base.specs.Number.{num, number}
use Rattle.hf_prop.specs.Views.{window_body}
use Rattle.hf_prop.proofs.laws.worked_properties_are_seen.Goals as goal

pub returns-clause-size : goal.returns-clause-size
unfolding num number window_body
returns-clause-size c = refl

pub returns-clause-no_size : goal.returns-clause-no_size
unfolding num number window_body
returns-clause-no_size c = (refl, refl, refl)

pub returns-clause-turn : goal.returns-clause-turn
unfolding num number window_body
returns-clause-turn c = (refl, refl, refl, refl)

pub returns-clause-axis : goal.returns-clause-axis
unfolding num number window_body
returns-clause-axis c = (refl, refl, refl, refl)

pub returns-clause-window : goal.returns-clause-window
unfolding num number window_body
returns-clause-window c = refl

pub returns-clause-no_window : goal.returns-clause-no_window
unfolding num number window_body
returns-clause-no_window c = (refl, refl, refl, refl, refl)

pub returns-clause-corner : goal.returns-clause-corner
unfolding num number window_body
returns-clause-corner c = refl

pub returns-clause-other_corner : goal.returns-clause-other_corner
unfolding num number window_body
returns-clause-other_corner c = refl
