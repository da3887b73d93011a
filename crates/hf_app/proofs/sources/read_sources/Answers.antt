use Rattle.std.proofs.Common.{◌≡◌, ◌<◌, ◌≤◌, ◌+◌, ◌++◌, ◌∷◌, [], ℕ, List, length, map, sym, ap, ◌∙◌, subst, arith, length-append, rules}
use Rattle.std.specs.Prelude.{Some, string_bytes}
use Rattle.std.specs.Global.{Vec}
use Rattle.std.specs.List.{All}
use Rattle.std.proofs.lemmas.List.{get_or-map, length-map, map-append}
use Rattle.std.proofs.lemmas.List.Elements.{All-push}
use Rattle.std.proofs.lemmas.Result.{err_from_is_err_and}
use Rattle.hf_base.specs.declared.limits.TheConstants.{FILE}
use Rattle.hf_desk.proofs.Frames.{reads_both}
use Rattle.hf_text.specs.Commands.{edit_of}
use Rattle.hf_app.specs.Sources.{Whole, content_of, read_of, source_of}
use Rattle.hf_app.proofs.SourceLaws.{content_more, readable_now, some_is, stops_now, whole_more}
use Rattle.hf_app.proofs.sources.read_sources.Goals as goal

pub returns-in_err-file-clause-read : goal.returns-in_err-file-clause-read
returns-in_err-file-clause-read g c =
    let texts = map string_bytes c.args.words.now in
    let edits = c.args.edits.now in
    let l = c.loop-edit in
    let less : l.edit-index < length edits = c.loop-edit-test.true in
    let there = get_or-map (edit_of texts) edits l.edit-index _ _ less in
    let p = err_from_is_err_and c.from_residual.result c.from_residual.ensures.1 in
    rw (p.1, p.2) (stops_now (g.D.Desk.outside c.args.desk.now) (g.D.Desk.outside l.desk) _ (map (edit_of texts) edits) l.edit-index _
    (omega (arith, less, length-map edits (edit_of texts))) there l.number l.invariant.number l.invariant.only (λ told some. (l.invariant.read told some).0)
    _ _ c.in_err-file.ensures.read)

pub returns-in_err-file-clause-steady : goal.returns-in_err-file-clause-steady
returns-in_err-file-clause-steady g c = λ steady told some defined.
    let texts = map string_bytes c.args.words.now in
    let edits = c.args.edits.now in
    let l = c.loop-edit in
    let less : l.edit-index < length edits = c.loop-edit-test.true in
    let there = get_or-map (edit_of texts) edits l.edit-index _ _ less in
    let p = err_from_is_err_and c.from_residual.result c.from_residual.ensures.1 in
    rw (p.1, p.2) (c.in_err-file.ensures.steady (l.invariant.only.steady ∙ steady) told (l.invariant.only.files ∙ some)
    (readable_now told (map (edit_of texts) edits) l.edit-index _ (omega (arith, less, length-map edits (edit_of texts))) there l.number l.invariant.number
    (l.invariant.read told some).0 defined))

pub loop-edit-preserved : goal.loop-edit-preserved
loop-edit-preserved g c =
    let texts = map string_bytes c.args.words.now in
    let edits = c.args.edits.now in
    let l = c.loop-edit in
    let less : l.edit-index < length edits = c.loop-edit-test.true in
    let there = get_or-map (edit_of texts) edits l.edit-index _ _ less in
    let pushed : c.push.new.self.items ≡ l.files.items ++ c.in_ok-file.file ∷ [] = search rules in
    record {
      number = ap (λ n. n + 1) l.invariant.number;
      only = reads_both l.invariant.only c.in_ok-file.ensures.only;
      count = ap length pushed ∙ length-append l.files.items (c.in_ok-file.file ∷ []) ∙ ap (λ n. n + 1) l.invariant.count;
      within = subst (λ (fs : List (Vec ℕ)). All (λ (f : Vec ℕ). length f.items ≤ FILE) fs) (sym pushed) (All-push (λ
          (f : Vec ℕ). length f.items ≤ FILE) l.files.items c.in_ok-file.file l.invariant.within c.in_ok-file.ensures.within);
      read = λ told some.
          let before = l.invariant.read told some in
          let one = some_is (g.D.Desk.outside l.desk).files (λ told. (read_of (Some told) (source_of l.number _) ≡ Whole)
          × (c.in_ok-file.file.items ≡ content_of (Some told) _)) c.in_ok-file.ensures.read told (l.invariant.only.files ∙ some) in
          let in_all : l.edit-index < length (map (edit_of texts) edits) = omega (arith, less, length-map edits (edit_of texts)) in (
            whole_more told (map (edit_of texts) edits) l.edit-index _ in_all there l.number l.invariant.number before.0 one.0,
            ap (map (λ (f : Vec ℕ). f.items)) pushed ∙ map-append (λ (f : Vec ℕ). f.items) l.files.items (c.in_ok-file.file ∷ [])
                ∙ content_more told (map (edit_of texts) edits) l.edit-index _ in_all there l.number l.invariant.number before.0 c.in_ok-file.file.items _
                one.1 before.1,
          );
    }
