use Rattle.std.proofs.Common.{◌≡◌, sym, ◌∙◌, Some}
use Rattle.std.specs.Prelude.{slice_get}
use Rattle.hf_store.specs.Seen.{item_of}
use Rattle.hf_store.specs.Store.{ids_of}
use Rattle.hf_store.proofs.Spots.{id_here, some_is}
use Rattle.hf_edit.proofs.Against.{first_with}
use Rattle.hf_edit.proofs.reasons.primary_of.Goals as goal

pub returns-clause-item : goal.returns-clause-item
returns-clause-item c =
    let s = c.args.store.now in
    let k = c.unwrap-i.result in
    let i = item_of c.at.result.now in
    let found : slice_get (ids_of s.items) k ≡ Some c.primary.result = rw c.unwrap-i.ensures at c.position.ensures.some in
    let same = some_is (sym (id_here s.items k i c.at.ensures) ∙ found) in
    first_with s.primary 0 k s.items i c.position.ensures.valid.ids_rise c.at.ensures (same ∙ c.primary.ensures)
