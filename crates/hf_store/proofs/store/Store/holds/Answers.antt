use Rattle.std.proofs.Common.{◌≡◌, ◌∙◌, ap, arith}
use Rattle.std.specs.List.{flat_map}
use Rattle.hf_store.specs.Store.{ItemStore}
use Rattle.hf_store.specs.Table.{props_of}
use Rattle.hf_table.specs.Table.{places_of}
use Rattle.hf_table.specs.Uses.{holders_in}
use Rattle.hf_store.proofs.store.Store.holds.Goals as goal

pub returns : goal.returns
returns c =
    let p = c.args.prop.now in
    let e : holders_in c.self.inside.uses p ≡ places_of p (flat_map props_of c.args.self.now.items) = c.self.invariant.tallies.each p ∙ ap (λ (s : ItemStore). places_of p (flat_map props_of s.items)) c.self.view_is in
    (λ t. (let x = c.holds.ensures.0 t in omega arith), λ h. c.holds.ensures.1 (omega arith))
