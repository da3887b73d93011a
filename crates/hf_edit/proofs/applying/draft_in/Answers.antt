use Rattle.std.proofs.Common.{◌≡◌, sym, ap, subst}
use Rattle.hf_store.specs.Seen.{item_of}
use Rattle.hf_edit.specs.Additions.{thumbnail_item, with_next}
use Rattle.hf_edit.specs.Edits.{named, step, with_thumbnail}
use Rattle.hf_edit.specs.Seen.{edit_of}
use Rattle.hf_edit.specs.declared.edit.Edit.{Edit}
use Rattle.hf_edit.proofs.applying.draft_in.Goals as goal

pub returns-in-Thumb-clause-added : goal.returns-in-Thumb-clause-added
returns-in-Thumb-clause-added c s =
    let picture = item_of c.primary_of.result.now in
    subst (λ (x : Edit). with_next (thumbnail_item picture (named (edit_of x))) s ≡ step s (edit_of x)) (sym c.in-Thumb.is)
    (ap (λ p. with_thumbnail p c.in-Thumb.id s) (sym c.primary_of.ensures.item))
