use Rattle.std.proofs.Common.{◌≡◌, ◌+◌, ℕ, List, take}
use Rattle.hf_app.specs.Edits.{AreAccepted, with_files}
use Rattle.hf_app.proofs.editing.apply_all.Given as goal

abbrev pub invariant-loop-edit : goal.invariant-loop-edit
invariant-loop-edit l = record {
  number : l.number ≡ l.edit-index + 1;
  place : l.place ≡ l.edit-index;
  accepted : (words : List (List ℕ)) → AreAccepted l.fn.store (take l.edit-index (with_files words l.edits l.files)) l.store;
}
