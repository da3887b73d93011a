use Rattle.std.proofs.Common.{rules}
use Rattle.hf_app.proofs.Trials.{trial_done, trial_unmade, trial_unsaid}
use Rattle.hf_app.proofs.trial.make_file.Goals as goal

pub returns-in_default-make_canonical-clause-ends : goal.returns-in_default-make_canonical-clause-ends
returns-in_default-make_canonical-clause-ends g c =
    let makes = c.make_canonical.ensures in
    let trial = c.in-Ok.ensures in
    trial_unmade c.args.seed c.args.n c.args.out.now _ _ _ trial makes.file makes.canonical (g.D.Desk.outside c.args.desk.now) _ makes.makes.only (search rules)

pub returns-in-Ok-say_trial-clause-ends : goal.returns-in-Ok-say_trial-clause-ends
returns-in-Ok-say_trial-clause-ends g c =
    let makes = c.make_canonical.ensures in
    let trial = c.in-Ok.ensures in
    trial_done c.args.seed c.args.n c.args.out.now _ _ _ trial makes.file makes.canonical (g.D.Desk.outside c.args.desk.now) _ makes.makes.only _ (search rules)
    c.say_trial.ensures.only (search rules)

pub returns-clause-ends : goal.returns-clause-ends
returns-clause-ends g c =
    let makes = c.make_canonical.ensures in
    let trial = c.in-Ok.ensures in
    trial_unsaid c.args.seed c.args.n c.args.out.now _ _ _ trial makes.file makes.canonical (g.D.Desk.outside c.args.desk.now) _ makes.makes.only _ (search rules)
    c.say_trial.ensures.only (search rules)
