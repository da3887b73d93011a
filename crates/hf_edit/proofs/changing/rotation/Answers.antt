use Rattle.hf_edit.proofs.Ends.{turned_more, turned_once}
use Rattle.hf_edit.proofs.changing.rotation.Goals as goal

pub returns-in-None-clause-changed : goal.returns-in-None-clause-changed
returns-in-None-clause-changed c = turned_once c.args.quarters c.args.props.now c.turn.result c.in-None.ensures.value c.turn.ensures

pub returns-in-Some-clause-changed : goal.returns-in-Some-clause-changed
returns-in-Some-clause-changed c =
    turned_more c.args.quarters c.in-Some.before c.args.props.now c.turn_unless_none.result c.in-Some.ensures.value c.turn_unless_none.ensures
