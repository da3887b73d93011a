use Rattle.std.proofs.Common.{[], refl, ◌∙◌, rules}
use Rattle.hf_text.specs.Words.{Redact}
use Rattle.hf_text.specs.declared.outcome.Outcome.TheVariants.{Done, WriteFault}
use Rattle.hf_app.specs.Due.{IsDueOfFile, IsDueOfRedact, made}
use Rattle.hf_app.specs.Stops.{outcome_of_stop}
use Rattle.hf_app.proofs.Dues.{ends_one, ends_stopped, steady_stopped, made_along, made_along_in_part, unsaid}
use Rattle.hf_app.proofs.Faults.{refused_due}
use Rattle.hf_app.proofs.Redacted.{redact_due}
use Rattle.hf_app.proofs.redacting.redact_file.Goals as goal

pub returns-in-Err-clause-ends : goal.returns-in-Err-clause-ends
returns-in-Err-clause-ends g c =
    let input = c.args.input.now in
    rw c.stopped.ensures (ends_stopped (Redact input c.args.out.now c.args.bare) input [] refl (g.D.Desk.outside c.args.desk.now) _ c.in-Err.why
    (λ e. c.in-Err.ensures.too_long (search rules)))

pub returns-in-Err-clause-steady : goal.returns-in-Err-clause-steady
returns-in-Err-clause-steady g c =
    let old = g.D.Desk.outside c.args.desk.now in
    let input = c.args.input.now in
    rw c.stopped.ensures (steady_stopped (Redact input c.args.out.now c.args.bare) input [] refl old old c.in-Err.why
    (λ steady there e. (c.in-Err.ensures.steady steady there).0 (search rules)))

pub returns-in-Err-redacted-clause-ends : goal.returns-in-Err-redacted-clause-ends
returns-in-Err-redacted-clause-ends g c =
    let input = c.args.input.now in
    let out = c.args.out.now in
    let bare = c.args.bare in
    let read = c.in-Ok.ensures in
    let bytes = c.in-Ok.file.items in
    let why = c.in-Err-redacted.why in
    let old = g.D.Desk.outside c.args.desk.now in
    let new = g.D.Desk.outside c.read_input.new.desk in
    rw c.refused.ensures (ends_one (Redact input out bare) input refl (IsDueOfFile (IsDueOfRedact bare out))
    (λ files d due. due) old new bytes read.whole read.within
    (outcome_of_stop why) (refused_due (IsDueOfRedact bare out) bytes old new why (rw c.deref.ensures.value at c.in-Err-redacted.ensures)))

pub returns-in-Ok-make_canonical-clause-ends : goal.returns-in-Ok-make_canonical-clause-ends
returns-in-Ok-make_canonical-clause-ends g c =
    let input = c.args.input.now in
    let out = c.args.out.now in
    let bare = c.args.bare in
    let read = c.in-Ok.ensures in
    let bytes = c.in-Ok.file.items in
    let old = g.D.Desk.outside c.args.desk.now in
    let makes = c.make_canonical.ensures in
    let redacts = rw c.deref.ensures.value at c.in-Ok-redacted.ensures in
    ends_one (Redact input out bare) input refl (IsDueOfFile (IsDueOfRedact bare out)) (λ files d due. due) old _ bytes read.whole read.within
    Done (
      made out makes.file,
      redact_due bytes out bare _ _ makes.file redacts makes.canonical,
      refl,
      (made_along read.only (search rules), unsaid old _ (makes.makes.only.said ∙ read.only.said)),
    )

pub returns-clause-ends : goal.returns-clause-ends
returns-clause-ends g c =
    let input = c.args.input.now in
    let out = c.args.out.now in
    let bare = c.args.bare in
    let read = c.in-Ok.ensures in
    let bytes = c.in-Ok.file.items in
    let old = g.D.Desk.outside c.args.desk.now in
    let makes = c.make_canonical.ensures in
    let redacts = rw c.deref.ensures.value at c.in-Ok-redacted.ensures in
    ends_one (Redact input out bare) input refl (IsDueOfFile (IsDueOfRedact bare out)) (λ files d due. due) old _ bytes read.whole read.within
    WriteFault (
      made out makes.file,
      redact_due bytes out bare _ _ makes.file redacts makes.canonical,
      refl,
      (
        made_along_in_part read.only (search rules),
        record {
          front = [];
          rest = [];
          whole = refl;
          said = unsaid old _ (makes.makes.only.said
              ∙ read.only.said);
        },
      ),
    )
