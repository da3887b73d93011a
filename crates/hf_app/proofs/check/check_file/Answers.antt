use Rattle.std.proofs.Common.{ℕ, List, [], refl, rules}
use Rattle.hf_text.specs.Words.{CheckFile}
use Rattle.hf_text.specs.declared.outcome.Outcome.TheVariants.{Done, WriteFault}
use Rattle.hf_app.specs.Due.{Due, IsDueOfCheck, IsDueOfFile}
use Rattle.hf_app.specs.Stops.{outcome_of_stop}
use Rattle.hf_app.proofs.Dues.{ends_one, ends_stopped, steady_stopped}
use Rattle.hf_app.proofs.Faults.{refused_due}
use Rattle.hf_app.proofs.Checking.{broken_check, done_check}
use Rattle.hf_app.proofs.check.check_file.Goals as goal

-- what is due of these bytes
abbrev Of : List ℕ → Due → Type 0
Of bytes d = IsDueOfFile (IsDueOfCheck bytes) bytes d

pub returns-in-Err-clause-ends : goal.returns-in-Err-clause-ends
returns-in-Err-clause-ends g c =
    rw c.stopped.ensures (ends_stopped (CheckFile c.args.name.now) c.args.name.now [] refl (g.D.Desk.outside c.args.desk.now) _ c.in-Err.why
    (λ e. c.in-Err.ensures.too_long (search rules)))

pub returns-in-Err-clause-steady : goal.returns-in-Err-clause-steady
returns-in-Err-clause-steady g c =
    let old = g.D.Desk.outside c.args.desk.now in
    rw c.stopped.ensures (steady_stopped (CheckFile c.args.name.now) c.args.name.now [] refl old old c.in-Err.why
    (λ steady there e. (c.in-Err.ensures.steady steady there).0 (search rules)))

pub returns-in-Err-is_canonical-clause-ends : goal.returns-in-Err-is_canonical-clause-ends
returns-in-Err-is_canonical-clause-ends g c =
    let name = c.args.name.now in
    let read = c.in-Ok.ensures in
    let bytes = c.in-Ok.file.items in
    let why = c.in-Err-is_canonical.why in
    let old = g.D.Desk.outside c.args.desk.now in
    let new = g.D.Desk.outside c.read_input.new.desk in
    rw c.refused.ensures (ends_one (CheckFile name) name refl Of (λ files d due. due) old new bytes read.whole read.within
    (outcome_of_stop why) (refused_due (IsDueOfCheck bytes) bytes old new why (rw c.deref.ensures.value at c.in-Err-is_canonical.ensures)))

pub returns-in-Ok-say_check-clause-ends : goal.returns-in-Ok-say_check-clause-ends
returns-in-Ok-say_check-clause-ends g c =
    let name = c.args.name.now in
    let read = c.in-Ok.ensures in
    let bytes = c.in-Ok.file.items in
    let old = g.D.Desk.outside c.args.desk.now in
    ends_one (CheckFile name) name refl Of (λ files d due. due) old _ bytes read.whole read.within
    Done (done_check bytes c.in-Ok-is_canonical.canonical old _ (rw c.deref.ensures.value at c.in-Ok-is_canonical.ensures) (search rules) (search rules))

pub returns-clause-ends : goal.returns-clause-ends
returns-clause-ends g c =
    let name = c.args.name.now in
    let read = c.in-Ok.ensures in
    let bytes = c.in-Ok.file.items in
    let old = g.D.Desk.outside c.args.desk.now in
    ends_one (CheckFile name) name refl Of (λ files d due. due) old _ bytes read.whole read.within
    WriteFault (broken_check bytes c.in-Ok-is_canonical.canonical old _ (rw c.deref.ensures.value at c.in-Ok-is_canonical.ensures) (search rules)
    (search rules))
