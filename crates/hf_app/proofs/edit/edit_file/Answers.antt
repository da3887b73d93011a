use Rattle.std.proofs.Common.{[], map, refl, ◌∙◌, rules}
use Rattle.std.specs.Prelude.{string_bytes}
use Rattle.hf_desk.proofs.Frames.{reads_both}
use Rattle.hf_text.specs.Commands.{edit_of}
use Rattle.hf_text.specs.Words.{EditFile}
use Rattle.hf_text.specs.declared.outcome.Outcome.TheVariants.{Done, WriteFault}
use Rattle.hf_app.specs.Due.{made}
use Rattle.hf_app.specs.Edits.{with_files}
use Rattle.hf_app.specs.Sources.{sources_from}
use Rattle.hf_app.specs.Stops.{outcome_of_stop}
use Rattle.hf_app.proofs.Dues.{ends_edits, ends_stopped, ends_unread, steady_stopped, made_along, made_along_in_part, unsaid}
use Rattle.hf_app.proofs.EditChain.{edits_due, stops_due}
use Rattle.hf_app.proofs.SourceLaws.{sourced_files, steady_unread, unread_long}
use Rattle.hf_app.proofs.edit.edit_file.Goals as goal

pub returns-in-Err-clause-ends : goal.returns-in-Err-clause-ends
returns-in-Err-clause-ends g c =
    let input = c.args.input.now in
    let ws = map (edit_of (map string_bytes c.args.words.now)) c.args.edits.now in
    rw c.stopped.ensures (ends_stopped (EditFile input c.args.out.now ws) input (sources_from 1 ws) refl (g.D.Desk.outside c.args.desk.now) _ c.in-Err.why
    (λ e. c.in-Err.ensures.too_long (search rules)))

pub returns-in-Err-clause-steady : goal.returns-in-Err-clause-steady
returns-in-Err-clause-steady g c =
    let old = g.D.Desk.outside c.args.desk.now in
    let input = c.args.input.now in
    let ws = map (edit_of (map string_bytes c.args.words.now)) c.args.edits.now in
    rw c.stopped.ensures (steady_stopped (EditFile input c.args.out.now ws) input (sources_from 1 ws) refl old old c.in-Err.why
    (λ steady there e. (c.in-Err.ensures.steady steady there).0 (search rules)))

pub returns-in-Err-read_sources-clause-ends : goal.returns-in-Err-read_sources-clause-ends
returns-in-Err-read_sources-clause-ends g c =
    let input = c.args.input.now in
    let out = c.args.out.now in
    let ws = map (edit_of (map string_bytes c.args.words.now)) c.args.edits.now in
    let read = c.in-Ok.ensures in
    let unread = c.in-Err-read_sources.unread in
    let old = g.D.Desk.outside c.args.desk.now in
    let mid = g.D.Desk.outside c.read_input.new.desk in
    let new = g.D.Desk.outside c.read_sources.new.desk in
    rw c.stopped-in-Err-read_sources.ensures (ends_unread input out ws old new c.in-Ok.file.items read.whole read.within unread.source unread.why
    (unread_long mid new (sources_from 1 ws) unread.source unread.why old read.only.files c.in-Err-read_sources.ensures.read))

pub returns-in-Err-read_sources-clause-steady : goal.returns-in-Err-read_sources-clause-steady
returns-in-Err-read_sources-clause-steady g c =
    let input = c.args.input.now in
    let out = c.args.out.now in
    let ws = map (edit_of (map string_bytes c.args.words.now)) c.args.edits.now in
    let read = c.in-Ok.ensures in
    let unread = c.in-Err-read_sources.unread in
    let old = g.D.Desk.outside c.args.desk.now in
    let mid = g.D.Desk.outside c.read_input.new.desk in
    rw c.stopped-in-Err-read_sources.ensures (steady_unread input out ws old mid c.in-Ok.file.items read.whole read.within read.only unread
    c.in-Err-read_sources.ensures.steady)

pub returns-in-Err-edited-clause-ends : goal.returns-in-Err-edited-clause-ends
returns-in-Err-edited-clause-ends g c =
    let input = c.args.input.now in
    let out = c.args.out.now in
    let texts = map string_bytes c.args.words.now in
    let edits = c.args.edits.now in
    let ws = map (edit_of texts) edits in
    let read = c.in-Ok.ensures in
    let bytes = c.in-Ok.file.items in
    let files = c.in-Ok-read_sources.files.items in
    let why = c.in-Err-edited.why in
    let old = g.D.Desk.outside c.args.desk.now in
    let mid = g.D.Desk.outside c.read_input.new.desk in
    let new = g.D.Desk.outside c.read_sources.new.desk in
    rw c.refused.ensures (ends_edits input out ws old new bytes read.whole read.within (with_files texts edits files)
    (sourced_files texts edits files old mid read.only.files c.in-Ok-read_sources.ensures.read)
    (outcome_of_stop why) (stops_due bytes out (with_files texts edits files) old new why
    (rw c.deref.ensures.value at (rw c.deref-2.ensures.value at (c.in-Err-edited.ensures texts)))))

pub returns-in-Ok-make_canonical-clause-ends : goal.returns-in-Ok-make_canonical-clause-ends
returns-in-Ok-make_canonical-clause-ends g c =
    let input = c.args.input.now in
    let out = c.args.out.now in
    let texts = map string_bytes c.args.words.now in
    let edits = c.args.edits.now in
    let ws = map (edit_of texts) edits in
    let read = c.in-Ok.ensures in
    let others = c.in-Ok-read_sources.ensures in
    let only = reads_both read.only others.only in
    let bytes = c.in-Ok.file.items in
    let files = c.in-Ok-read_sources.files.items in
    let old = g.D.Desk.outside c.args.desk.now in
    let mid = g.D.Desk.outside c.read_input.new.desk in
    let makes = c.make_canonical.ensures in
    let edited = rw c.deref.ensures.value at (rw c.deref-2.ensures.value at (c.in-Ok-edited.ensures texts)) in
    ends_edits input out ws old _ bytes read.whole read.within (with_files texts edits files)
    (sourced_files texts edits files old mid read.only.files others.read)
    Done (
      made out makes.file,
      edits_due bytes out (with_files texts edits files) _ makes.file edited.0.valid edited.1 makes.canonical,
      refl,
      (made_along only (search rules), unsaid old _ (makes.makes.only.said ∙ only.said)),
    )

pub returns-clause-ends : goal.returns-clause-ends
returns-clause-ends g c =
    let input = c.args.input.now in
    let out = c.args.out.now in
    let texts = map string_bytes c.args.words.now in
    let edits = c.args.edits.now in
    let ws = map (edit_of texts) edits in
    let read = c.in-Ok.ensures in
    let others = c.in-Ok-read_sources.ensures in
    let only = reads_both read.only others.only in
    let bytes = c.in-Ok.file.items in
    let files = c.in-Ok-read_sources.files.items in
    let old = g.D.Desk.outside c.args.desk.now in
    let mid = g.D.Desk.outside c.read_input.new.desk in
    let makes = c.make_canonical.ensures in
    let edited = rw c.deref.ensures.value at (rw c.deref-2.ensures.value at (c.in-Ok-edited.ensures texts)) in
    ends_edits input out ws old _ bytes read.whole read.within (with_files texts edits files)
    (sourced_files texts edits files old mid read.only.files others.read)
    WriteFault (
      made out makes.file,
      edits_due bytes out (with_files texts edits files) _ makes.file edited.0.valid edited.1 makes.canonical,
      refl,
      (made_along_in_part only (search rules), record { front = []; rest = []; whole = refl; said = unsaid old _ (makes.makes.only.said ∙ only.said) }),
    )

pub make_canonical-requires-clause-plan : goal.make_canonical-requires-clause-plan
make_canonical-requires-clause-plan g c = (c.in-Ok-edited.ensures []).0.planned
