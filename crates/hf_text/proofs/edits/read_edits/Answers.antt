use Rattle.std.proofs.Common.{◌+◌, ◌∙◌, map, string_bytes, arith, ap, sym, subst, Ok}
use Rattle.std.specs.Prelude.{is_ok}
use Rattle.std.proofs.lemmas.List.{length-map}
use Rattle.std.proofs.lemmas.List.Elements.{All-nil, All-same}
use Rattle.std.proofs.lemmas.Result.{err_from_is_err_and}
use Rattle.hf_text.specs.Commands.{EditNamesWords, edit_of}
use Rattle.hf_text.proofs.EditSteps.{Progress, edit_within, progress_start, progress_full, progress_refused, progress_more, progress_end, held_edits}
use Rattle.hf_text.proofs.edits.read_edits.Goals as goal

pub loop-at-init : goal.loop-at-init
loop-at-init c =
    let words = map string_bytes c.args.words.now in (
      omega arith,
      progress_start words _ (record {
        same = ap (map (edit_of words)) c.new.ensures.items;
        named = All-same _ _ _ c.new.ensures.items
            (All-nil (EditNamesWords words));
      }),
    )

pub returns-then-count-eq-EDITS-clause-read : goal.returns-then-count-eq-EDITS-clause-read
returns-then-count-eq-EDITS-clause-read c =
    progress_full (map string_bytes c.args.words.now) c.loop-at.at c.loop-at.count c.loop-at.edits c.loop-at.invariant.1
    (omega (arith, length-map c.args.words.now string_bytes)) (omega arith)

pub returns-in-Err-clause-read : goal.returns-in-Err-clause-read
returns-in-Err-clause-read c =
    progress_refused (map string_bytes c.args.words.now) c.loop-at.at c.loop-at.count c.loop-at.edits c.loop-at.invariant.1 c.in-Err.at
    (omega (arith, length-map c.args.words.now string_bytes)) (omega arith)
    c.in-Err.ensures.read

pub loop-at-preserved : goal.loop-at-preserved
loop-at-preserved c =
    let words = map string_bytes c.args.words.now in
    let len = length-map c.args.words.now string_bytes in
    let edit = edit_of words c.in-Ok.edit in
    let within = edit_within words c.loop-at.at edit (omega (arith, len)) c.in-Ok.ensures.read in
    let more = progress_more words c.loop-at.at c.loop-at.count c.loop-at.edits c.loop-at.invariant.1 c.in-Ok.edit c.with_edit-edits.result
    (omega (arith, len)) (omega arith)
    c.in-Ok.ensures.read c.in-Ok.ensures.names c.with_edit-edits.ensures in (
      omega (arith, len, within, c.words.ensures words),
      subst (λ n. Progress words (c.loop-at.at + n) (c.loop-at.count + 1) c.with_edit-edits.result)
          (sym (c.words.ensures words)) more,
    )

pub returns-clause-read : goal.returns-clause-read
returns-clause-read c =
    let words = map string_bytes c.args.words.now in
    let end = progress_end words c.loop-at.at c.loop-at.count c.loop-at.edits c.loop-at.invariant.1 (omega (arith, length-map c.args.words.now string_bytes)) in
    end ∙ ap Ok (sym (held_edits words _ _ _ c.in_ok-edits.was c.loop-at.invariant.1.has).same)

pub returns-clause-names : goal.returns-clause-names
returns-clause-names c = (held_edits (map string_bytes c.args.words.now) _ _ _ c.in_ok-edits.was c.loop-at.invariant.1.has).named

pub returns-in_err-edits-clause-read : goal.returns-in_err-edits-clause-read
returns-in_err-edits-clause-read c =
    let end = progress_end (map string_bytes c.args.words.now) c.loop-at.at c.loop-at.count c.loop-at.edits c.loop-at.invariant.1
    (omega (arith, length-map c.args.words.now string_bytes)) in
    let p = err_from_is_err_and c.from_residual.result c.from_residual.ensures.1 in
    rw (p.1, p.2) (ap is_ok end)
