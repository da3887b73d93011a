use Rattle.std.proofs.Common.{◌∙◌, sym, ap, Some}
use Rattle.hf_store.specs.Seen.{item_of}
use Rattle.hf_edit.specs.Seen.{changed_by}
use Rattle.hf_edit.proofs.Ends.{cropped_once, sides_are_small}
use Rattle.hf_edit.proofs.changing.cropping.Goals as goal

pub window-requires-clause-width : goal.window-requires-clause-width
window-requires-clause-width c = (sides_are_small (item_of c.args.item.now) c.unwrap-width.result (sym c.picture_size.ensures ∙ c.unwrap-width.ensures)).0

pub window-requires-clause-height : goal.window-requires-clause-height
window-requires-clause-height c = (sides_are_small (item_of c.args.item.now) c.unwrap-width.result (sym c.picture_size.ensures ∙ c.unwrap-width.ensures)).1

pub returns-clause-changed : goal.returns-clause-changed
returns-clause-changed c =
    ap (λ n. changed_by (record { kept = n; more = Some c.window.result }) c.args.item.now.props) c.len.ensures
    ∙ cropped_once c.args.x c.args.y c.args.w c.args.h (item_of c.args.item.now) c.unwrap-width.result c.window.result
    (sym c.picture_size.ensures ∙ c.unwrap-width.ensures) c.window.ensures
