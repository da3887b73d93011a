use Rattle.std.proofs.Common.{◌≡◌, List, ap, map, subst, ◌∙◌}
use Rattle.std.specs.Prelude.{IfOk}
use Rattle.hf_base.specs.declared.loc.RefBox.{RefBox}
use Rattle.hf_store.specs.declared.item.RefList.{RefList}
use Rattle.hf_read.specs.Kept.{kept_refs}
use Rattle.hf_read.specs.References.{seen}
use Rattle.hf_read.proofs.ReferenceLaws.{all_kept}
use Rattle.hf_read.proofs.references.kept_refs.Goals as goal
use denote.Ref.{Bor}

pub returns : goal.returns
returns c =
    let ids = c.args.ids.now in
    let links = c.args.links.now in
    let same = ap (λ (boxes : List (Bor RefBox)). map (kept_refs ids (seen boxes)) ids) c.deref.ensures.value
    ∙ all_kept ids c.in_ok-boxes.boxes.items links c.in_ok-boxes.ensures.same ids in
    subst (λ (kept : List (List RefList)). IfOk c.refs_of_each.result (λ lists. lists.items ≡ kept)) same c.refs_of_each.ensures
