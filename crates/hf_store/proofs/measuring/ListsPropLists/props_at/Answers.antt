use Rattle.std.proofs.Common.{sym, ap, ◌∙◌, arith, Some}
use Rattle.std.proofs.lemmas.List.{length-map}
use Rattle.hf_store.specs.Seen.{item_of, items_of}
use Rattle.hf_store.specs.Table.{props_of}
use Rattle.hf_store.specs.declared.item.Item.{Item as CodeItem}
use Rattle.hf_table.specs.Held.{props_in}
use Rattle.hf_store.proofs.Mapped.{here_at}
use Rattle.hf_store.proofs.Spots.{get_map}
use Rattle.hf_store.proofs.measuring.ListsPropLists.props_at.Goals as goal

pub returns : goal.returns
returns c =
    let is = c.args.self.now.items.now in
    let i = c.index-self-i.result in
    let here = here_at is c.args.i i (omega (arith, c.requires, length-map (items_of is) props_of, length-map is item_of)) c.index-self-i.is in
    get_map props_of (items_of is) c.args.i (item_of i) (get_map item_of is c.args.i i here)
    ∙ ap (λ (j : CodeItem). Some (props_in j.props)) c.index-self-i.is ∙ ap (λ hs. Some (props_in hs)) (sym c.as_slice.ensures)
