-- What an arm of a match on an edit knows.
use Rattle.std.proofs.Common.{◌≡◌, ℕ, List, sym, ap, subst, ◌∙◌, Option, Some, None}
use Rattle.std.specs.Prelude.{slice_get}
use Rattle.hf_store.specs.Store.{ItemStore}
use Rattle.hf_store.specs.declared.reason.Reason.{Reason}
use Rattle.hf_edit.specs.Edits.{named, step, why}
use Rattle.hf_edit.specs.Seen.{edit_of}
use Rattle.hf_edit.specs.declared.edit.Edit.{Edit}

module _ (s : ItemStore) (edit e : Edit) (is : edit ≡ e) where
  pub place_in : (ids : List ℕ) (k : ℕ) → slice_get ids k ≡ Some (named (edit_of edit)) → slice_get ids k ≡ Some (named (edit_of e))
  place_in ids k here = subst (λ (x : Edit). slice_get ids k ≡ Some (named (edit_of x))) is here

  pub free_in : why s (edit_of edit) ≡ None → why s (edit_of e) ≡ None
  free_in free = subst (λ (x : Edit). why s (edit_of x) ≡ None) is free

  pub reason_in : (result : Option Reason) → why s (edit_of e) ≡ result → result ≡ why s (edit_of edit)
  reason_in result told = sym (ap (λ (x : Edit). why s (edit_of x)) is ∙ told)

  pub step_of : step s (edit_of e) ≡ step s (edit_of edit)
  step_of = sym (ap (λ (x : Edit). step s (edit_of x)) is)

  pub step_in : (new : ItemStore) → new ≡ step s (edit_of e) → new ≡ step s (edit_of edit)
  step_in new made = made ∙ step_of
