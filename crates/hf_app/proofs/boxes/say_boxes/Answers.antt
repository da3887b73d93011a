use Rattle.std.proofs.Common.{◌≡◌, ℕ, List, [], Ok, Err, refl, sym, ap, rules}
use Rattle.hf_box.specs.Walk.{walk_at}
use Rattle.hf_text.specs.Texts.{rows_text}
use Rattle.hf_text.specs.Words.{Boxes}
use Rattle.hf_text.specs.declared.outcome.Outcome.TheVariants.{Done, Unfit, WriteFault}
use Rattle.hf_app.specs.Due.{Due, answered, due_of_rows, said}
use Rattle.hf_app.proofs.Dues.{ends_one, ends_stopped, steady_stopped}
use Rattle.hf_app.proofs.boxes.say_boxes.Goals as goal

-- what is due of these bytes
abbrev Of : List ℕ → Due → Type 0
Of bytes d = d ≡ due_of_rows (walk_at bytes)

pub returns-in-Err-clause-ends : goal.returns-in-Err-clause-ends
returns-in-Err-clause-ends g c =
    rw c.stopped.ensures (ends_stopped (Boxes c.args.name.now) c.args.name.now [] refl (g.D.Desk.outside c.args.desk.now) _ c.in-Err.why
    (λ e. c.in-Err.ensures.too_long (search rules)))

pub returns-in-Err-clause-steady : goal.returns-in-Err-clause-steady
returns-in-Err-clause-steady g c =
    let old = g.D.Desk.outside c.args.desk.now in
    rw c.stopped.ensures (steady_stopped (Boxes c.args.name.now) c.args.name.now [] refl old old c.in-Err.why
    (λ steady there e. (c.in-Err.ensures.steady steady there).0 (search rules)))

pub returns-in-Err-Unfit-clause-ends : goal.returns-in-Err-Unfit-clause-ends
returns-in-Err-Unfit-clause-ends g c =
    let name = c.args.name.now in
    let read = c.in-Ok.ensures in
    let fault : walk_at c.in-Ok.file.items ≡ Err c.in-Err-Unfit.why = search rules in
    ends_one (Boxes name) name refl Of (λ files d due. due) (g.D.Desk.outside c.args.desk.now)
    (g.D.Desk.outside c.read_input.new.desk) c.in-Ok.file.items read.whole read.within
    (Unfit 0 c.in-Err-Unfit.why) (answered (Unfit 0 c.in-Err-Unfit.why), sym (ap due_of_rows fault), refl, tt)

pub returns-in-Ok-say_rows-clause-ends : goal.returns-in-Ok-say_rows-clause-ends
returns-in-Ok-say_rows-clause-ends g c =
    let name = c.args.name.now in
    let read = c.in-Ok.ensures in
    let rows = c.in-Ok-walk.rows.items in
    let walked : walk_at c.in-Ok.file.items ≡ Ok rows = search rules in
    ends_one (Boxes name) name refl Of (λ files d due. due) (g.D.Desk.outside c.args.desk.now) _ c.in-Ok.file.items read.whole read.within
    Done (said (rows_text rows), sym (ap due_of_rows walked), refl, (search rules, search rules))

pub returns-clause-ends : goal.returns-clause-ends
returns-clause-ends g c =
    let name = c.args.name.now in
    let read = c.in-Ok.ensures in
    let rows = c.in-Ok-walk.rows.items in
    let walked : walk_at c.in-Ok.file.items ≡ Ok rows = search rules in
    ends_one (Boxes name) name refl Of (λ files d due. due) (g.D.Desk.outside c.args.desk.now) _ c.in-Ok.file.items read.whole read.within
    WriteFault (said (rows_text rows), sym (ap due_of_rows walked), refl, (search rules, search rules))
