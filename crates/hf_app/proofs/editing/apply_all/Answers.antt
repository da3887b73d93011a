use Rattle.std.proofs.Common.{◌≤◌, ◌<◌, ◌+◌, List, [], length, ap, sym, subst, arith, rules}
use Rattle.std.proofs.lemmas.Result.{err_from_is_err_and}
use Rattle.hf_app.specs.Edits.{AreAccepted, with_files}
use Rattle.hf_app.specs.Sources.{Sourced}
use Rattle.hf_app.proofs.EditChain.{one_more, one_stops, stepped-none, with_files_all, with_files_at, with_files_len}
use Rattle.hf_app.proofs.editing.apply_all.Goals as goal

pub loop-edit-init : goal.loop-edit-init
loop-edit-init c = record {
  number = search rules;
  place = search rules;
  accepted = λ words. record {
    meant = [];
    are_meant = tt;
    steps = stepped-none 1
        c.args.store.now;
  };
}

pub returns-in_err-apply : goal.returns-in_err-apply
returns-in_err-apply c = λ words.
    let edits = c.args.edits.now in
    let files = c.args.files.now in
    let i = c.loop-edit.edit-index in
    let less : i < length edits = c.loop-edit-test.true in
    let there = with_files_at words edits files c.requires.count i _ c.index-files-place.result less (rw c.loop-edit.invariant.place at
    (sym c.index-files-place.is)) in
    let p = err_from_is_err_and c.from_residual.result c.from_residual.ensures.1 in
    rw (p.1, p.2) (one_stops c.args.store.now c.loop-edit.store (with_files words edits files) i _ (omega
    (arith, less, with_files_len words edits files c.requires.count)) there
    (c.loop-edit.invariant.accepted words) c.loop-edit.number c.loop-edit.invariant.number _ c.deref.ensures.value c.in_err-apply.field-0.0 _ _
    (c.in_err-apply.ensures words))

pub loop-edit-preserved : goal.loop-edit-preserved
loop-edit-preserved c =
    let edits = c.args.edits.now in
    let files = c.args.files.now in
    let i = c.loop-edit.edit-index in
    let less : i < length edits = c.loop-edit-test.true in
    record {
      number = ap (λ n. n + 1) c.loop-edit.invariant.number;
      place = ap (λ n. n + 1) c.loop-edit.invariant.place;
      accepted = λ words.
          let there = with_files_at words edits files c.requires.count i _ c.index-files-place.result less (rw c.loop-edit.invariant.place at
          (sym c.index-files-place.is)) in
          one_more c.args.store.now c.loop-edit.store (with_files words edits files) i _ (omega
          (arith, less, with_files_len words edits files c.requires.count)) there
          (c.loop-edit.invariant.accepted words) c.loop-edit.number c.loop-edit.invariant.number _ c.deref.ensures.value _ (c.in_ok-apply.ensures words);
    }

pub returns : goal.returns
returns c = λ words.
    let edits = c.args.edits.now in
    let files = c.args.files.now in
    let past : length edits ≤ c.loop-edit.edit-index = omega (arith, c.loop-edit-test.false) in
    subst (λ (all : List Sourced). AreAccepted c.args.store.now all c.loop-edit.store)
    (with_files_all words edits files c.requires.count c.loop-edit.edit-index past)
    (c.loop-edit.invariant.accepted words)
