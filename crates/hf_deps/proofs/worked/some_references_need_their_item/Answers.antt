use Rattle.std.proofs.Common.{[], ◌∷◌, refl, inl, inr}
use Rattle.hf_box.specs.Literals.{hex_of}
use Rattle.hf_worked.specs.WorkedChanges.{needed_by_three}
use Rattle.hf_worked.specs.WorkedStores.{plain, references}
use Rattle.hf_deps.proofs.worked.some_references_need_their_item.Goals as goal

pub returns-clause-least : goal.returns-clause-least
unfolding needed_by_three
returns-clause-least c = refl

pub returns-clause-third_needs_second : goal.returns-clause-third_needs_second
returns-clause-third_needs_second c =
    let tbas = references "tbas" (2 ∷ []) in
    let third = record (plain 3 "hvc1" (hex_of "ee")) { refs = tbas ∷ [] } in
    (third, tbas, inr (inr (inl refl)), refl, inl refl, refl, inl refl)
