use Rattle.std.proofs.Common.{ℕ, ap, ◌∙◌}
use Rattle.hf_edit.specs.Additions.{with_next}
use Rattle.hf_edit.specs.Edits.{named}
use Rattle.hf_edit.specs.Seen.{draft_of, edit_of}
use Rattle.hf_edit.proofs.Makes.{valid_made}
use Rattle.hf_edit.proofs.Steps.{place}
use Rattle.hf_edit.proofs.applying.make.Goals as goal

pub add-requires-clause-valid : goal.add-requires-clause-valid
add-requires-clause-valid c =
    let s = c.args.store.now in
    let is = ap (λ (of : ℕ). with_next (draft_of c.draft_in.result of) s) c.id.ensures ∙ c.draft_in.ensures.added s in
    valid_made s (edit_of c.args.edit.now) _ c.requires.valid c.draft_in.ensures.good c.requires.free is

pub reshape-requires-clause-place : goal.reshape-requires-clause-place
reshape-requires-clause-place c =
    place c.args.store.now (named (edit_of c.args.edit.now)) c.args.i c.requires.valid c.requires.place

pub reshape-requires-clause-valid : goal.reshape-requires-clause-valid
reshape-requires-clause-valid c =
    valid_made c.args.store.now (edit_of c.args.edit.now) _ c.requires.valid c.change_of-change.ensures.good c.requires.free
    c.change_of-change.ensures.made
