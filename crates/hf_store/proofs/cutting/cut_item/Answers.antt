use Rattle.std.proofs.Common.{◌∙◌, ap, sym}
use Rattle.std.specs.List.{list_all}
use Rattle.hf_store.specs.Seen.{item_of}
use Rattle.hf_store.specs.Stays.{is_whole, stays_of}
use Rattle.hf_store.proofs.Wholes.{cut_refs-whole}
use Rattle.hf_store.proofs.cutting.cut_item.Goals as goal

pub returns-then-refs_stay : goal.returns-then-refs_stay
returns-then-refs_stay c =
    let stays = stays_of c.args.stays.now in
    let refs = c.args.item.now.refs in
    let whole = ap (list_all (is_whole stays)) (sym c.as_slice.ensures) ∙ sym c.refs_stay.ensures ∙ c.if-refs_stay.true in
    ap (λ rs. record (item_of c.args.item.now) { refs = rs }) (sym (cut_refs-whole stays refs whole))
