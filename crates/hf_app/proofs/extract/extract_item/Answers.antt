use Rattle.std.proofs.Common.{[], refl, inl, inr, ◌∙◌, rules}
use Rattle.hf_store.specs.Seen.{item_of}
use Rattle.hf_text.specs.Words.{Extract}
use Rattle.hf_text.specs.declared.outcome.Outcome.TheVariants.{Done, NoSuchItem, WriteFault}
use Rattle.hf_app.specs.Due.{IsDueOfExtract, IsDueOfFile, answered, made}
use Rattle.hf_app.specs.Stops.{outcome_of_stop}
use Rattle.hf_app.proofs.Dues.{ends_one, ends_stopped, steady_stopped, made_along, made_along_in_part, unsaid}
use Rattle.hf_app.proofs.Faults.{refused_due}
use Rattle.hf_app.proofs.extract.extract_item.Goals as goal

pub returns-in-Err-clause-ends : goal.returns-in-Err-clause-ends
returns-in-Err-clause-ends g c =
    let input = c.args.input.now in
    rw c.stopped.ensures (ends_stopped (Extract input c.args.id c.args.out.now) input [] refl (g.D.Desk.outside c.args.desk.now) _ c.in-Err.why
    (λ e. c.in-Err.ensures.too_long (search rules)))

pub returns-in-Err-clause-steady : goal.returns-in-Err-clause-steady
returns-in-Err-clause-steady g c =
    let old = g.D.Desk.outside c.args.desk.now in
    let input = c.args.input.now in
    rw c.stopped.ensures (steady_stopped (Extract input c.args.id c.args.out.now) input [] refl old old c.in-Err.why
    (λ steady there e. (c.in-Err.ensures.steady steady there).0 (search rules)))

pub returns-in-Err-opened-clause-ends : goal.returns-in-Err-opened-clause-ends
returns-in-Err-opened-clause-ends g c =
    let input = c.args.input.now in
    let out = c.args.out.now in
    let id = c.args.id in
    let read = c.in-Ok.ensures in
    let bytes = c.in-Ok.file.items in
    let why = c.in-Err-opened.why in
    let old = g.D.Desk.outside c.args.desk.now in
    let new = g.D.Desk.outside c.read_input.new.desk in
    rw c.refused.ensures (ends_one (Extract input id out) input refl (IsDueOfFile (IsDueOfExtract id out))
    (λ files d due. due) old new bytes read.whole read.within
    (outcome_of_stop why) (refused_due (IsDueOfExtract id out) bytes old new why (rw c.deref.ensures.value at c.in-Err-opened.ensures)))

pub returns-in_default-clause-ends : goal.returns-in_default-clause-ends
returns-in_default-clause-ends g c =
    let input = c.args.input.now in
    let out = c.args.out.now in
    let id = c.args.id in
    let read = c.in-Ok.ensures in
    let bytes = c.in-Ok.file.items in
    let old = g.D.Desk.outside c.args.desk.now in
    let new = g.D.Desk.outside c.read_input.new.desk in
    let s = c.in-Ok-opened.store in
    let opened = rw c.deref.ensures.value at c.in-Ok-opened.ensures in
    ends_one (Extract input id out) input refl (IsDueOfFile (IsDueOfExtract id out)) (λ files d due. due) old new bytes read.whole read.within
    (NoSuchItem id) (answered (NoSuchItem id), inr (s, opened, inl (search rules, refl)), refl, tt)

pub returns-in-Ok-make_pieces-clause-ends : goal.returns-in-Ok-make_pieces-clause-ends
returns-in-Ok-make_pieces-clause-ends g c =
    let input = c.args.input.now in
    let out = c.args.out.now in
    let id = c.args.id in
    let read = c.in-Ok.ensures in
    let bytes = c.in-Ok.file.items in
    let old = g.D.Desk.outside c.args.desk.now in
    let s = c.in-Ok-opened.store in
    let opened = rw c.deref.ensures.value at c.in-Ok-opened.ensures in
    let i = item_of c.in-Some.item.now in
    let found = c.in-Some.ensures.some in
    ends_one (Extract input id out) input refl (IsDueOfFile (IsDueOfExtract id out)) (λ files d due. due) old _ bytes read.whole read.within
    Done (
      made out i.bytes,
      inr (s, opened, inr (i, found.1, found.0, refl)),
      refl,
      (made_along read.only (search rules), unsaid old _ (c.make_pieces.ensures.only.said ∙ read.only.said)),
    )

pub returns-clause-ends : goal.returns-clause-ends
returns-clause-ends g c =
    let input = c.args.input.now in
    let out = c.args.out.now in
    let id = c.args.id in
    let read = c.in-Ok.ensures in
    let bytes = c.in-Ok.file.items in
    let old = g.D.Desk.outside c.args.desk.now in
    let s = c.in-Ok-opened.store in
    let opened = rw c.deref.ensures.value at c.in-Ok-opened.ensures in
    let i = item_of c.in-Some.item.now in
    let found = c.in-Some.ensures.some in
    ends_one (Extract input id out) input refl (IsDueOfFile (IsDueOfExtract id out)) (λ files d due. due) old _ bytes read.whole read.within
    WriteFault (
      made out i.bytes,
      inr (s, opened, inr (i, found.1, found.0, refl)),
      refl,
      (
        made_along_in_part read.only (search rules),
        record {
          front = [];
          rest = [];
          whole = refl;
          said = unsaid old _ (c.make_pieces.ensures.only.said
              ∙ read.only.said);
        },
      ),
    )
