use Rattle.hf_edit.proofs.Ends.{mirrored_back, mirrored_once, mirrored_other}
use Rattle.hf_edit.proofs.changing.mirroring.Goals as goal

pub returns-in-None-clause-changed : goal.returns-in-None-clause-changed
returns-in-None-clause-changed c = mirrored_once c.args.axis c.args.props.now c.mirror.result c.in-None.ensures.value c.mirror.ensures

pub returns-then-before-axis-clause-changed : goal.returns-then-before-axis-clause-changed
returns-then-before-axis-clause-changed c = mirrored_back c.args.axis c.in-Some.before c.args.props.now c.in-Some.ensures.value c.if-before-axis.true

pub returns-else-before-axis-clause-changed : goal.returns-else-before-axis-clause-changed
returns-else-before-axis-clause-changed c =
    mirrored_other c.args.axis c.in-Some.before c.args.props.now c.mirror-else-before-axis.result c.in-Some.ensures.value c.if-before-axis.false
    c.mirror-else-before-axis.ensures
