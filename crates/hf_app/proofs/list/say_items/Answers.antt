use Rattle.std.proofs.Common.{[], refl, inr, rules}
use Rattle.hf_text.specs.Listing.{listing_text}
use Rattle.hf_text.specs.Words.{ListFile}
use Rattle.hf_text.specs.declared.outcome.Outcome.TheVariants.{Done, WriteFault}
use Rattle.hf_app.specs.Due.{IsDueOfFile, IsDueOfList, said}
use Rattle.hf_app.specs.Stops.{outcome_of_stop}
use Rattle.hf_app.proofs.Dues.{ends_one, ends_stopped, steady_stopped}
use Rattle.hf_app.proofs.Faults.{refused_due}
use Rattle.hf_app.proofs.list.say_items.Goals as goal

pub returns-in-Err-clause-ends : goal.returns-in-Err-clause-ends
returns-in-Err-clause-ends g c =
    rw c.stopped.ensures (ends_stopped (ListFile c.args.name.now) c.args.name.now [] refl (g.D.Desk.outside c.args.desk.now) _ c.in-Err.why
    (λ e. c.in-Err.ensures.too_long (search rules)))

pub returns-in-Err-clause-steady : goal.returns-in-Err-clause-steady
returns-in-Err-clause-steady g c =
    let old = g.D.Desk.outside c.args.desk.now in
    rw c.stopped.ensures (steady_stopped (ListFile c.args.name.now) c.args.name.now [] refl old old c.in-Err.why
    (λ steady there e. (c.in-Err.ensures.steady steady there).0 (search rules)))

pub returns-in-Err-opened-clause-ends : goal.returns-in-Err-opened-clause-ends
returns-in-Err-opened-clause-ends g c =
    let name = c.args.name.now in
    let read = c.in-Ok.ensures in
    let why = c.in-Err-opened.why in
    let new = g.D.Desk.outside c.read_input.new.desk in
    let old = g.D.Desk.outside c.args.desk.now in
    rw c.refused.ensures (ends_one (ListFile name) name refl (IsDueOfFile IsDueOfList) (λ files d due. due) old new c.in-Ok.file.items read.whole read.within
    (outcome_of_stop why) (refused_due IsDueOfList c.in-Ok.file.items old new why (rw c.deref.ensures.value at c.in-Err-opened.ensures)))

pub returns-in-Ok-say_list-clause-ends : goal.returns-in-Ok-say_list-clause-ends
returns-in-Ok-say_list-clause-ends g c =
    let name = c.args.name.now in
    let read = c.in-Ok.ensures in
    let s = c.in-Ok-opened.store in
    ends_one (ListFile name) name refl (IsDueOfFile IsDueOfList) (λ files d due. due)
    (g.D.Desk.outside c.args.desk.now) _ c.in-Ok.file.items read.whole read.within
    Done (said (listing_text s), inr (s, rw c.deref.ensures.value at c.in-Ok-opened.ensures, refl), refl, (search rules, search rules))

pub returns-clause-ends : goal.returns-clause-ends
returns-clause-ends g c =
    let name = c.args.name.now in
    let read = c.in-Ok.ensures in
    let s = c.in-Ok-opened.store in
    ends_one (ListFile name) name refl (IsDueOfFile IsDueOfList) (λ files d due. due)
    (g.D.Desk.outside c.args.desk.now) _ c.in-Ok.file.items read.whole read.within
    WriteFault (said (listing_text s), inr (s, rw c.deref.ensures.value at c.in-Ok-opened.ensures, refl), refl, (search rules, search rules))
