use Rattle.std.proofs.Common.{◌≡◌, List, Ok, ◌∙◌, subst}
use Rattle.std.specs.Option.{option_copied}
use Rattle.hf_base.specs.Located.{Located}
use Rattle.hf_base.specs.LocationFaults.{locations_fault}
use Rattle.hf_extent.specs.Bodies.{AreBytesOf}
use Rattle.hf_store.specs.Seen.{items_of}
use Rattle.hf_read.proofs.MadeItems.{items_is, located_is}
use Rattle.hf_read.proofs.items.placed_items.Goals as goal

pub returns : goal.returns
returns c = λ t are.
    let F = c.args.file.now in
    let idat = option_copied c.args.idat in
    let bodies = c.in_ok-bodies.bodies.items in
    let located =
    located_is t c.deref.result.now c.deref-2.result.now c.deref-3.result.now
    (c.deref.ensures.value ∙ are.ids) (c.deref-2.ensures.value ∙ are.locs) (c.deref-3.ensures.value ∙ are.links) in
    let found = subst (λ (l : List Located). (locations_fault F idat l ≡ Ok tt) × AreBytesOf F idat l bodies) located c.in_ok-bodies.ensures in
    (found.0, items_is F idat t c.args.tables.now bodies (items_of c.in_ok-described_items.field-0) are found.1 c.in_ok-described_items.ensures)
