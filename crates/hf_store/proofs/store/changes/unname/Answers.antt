use Rattle.std.proofs.Common.{refl, sym, ◌∙◌, arith}
use Rattle.std.proofs.lemmas.Grind.{common_steps}
use Rattle.std.proofs.lemmas.List.{length-map}
use Rattle.hf_store.specs.Changes.{unnamed}
use Rattle.hf_store.specs.Seen.{item_of, items_of}
use Rattle.hf_store.proofs.Mapped.{mapped-none, pass-next, mapped-all}
use Rattle.hf_store.proofs.store.changes.unname.Goals as goal

pub loop-i-init : goal.loop-i-init
loop-i-init c = sym (mapped-none unnamed (items_of c.args.items.now.items))

pub loop-i-preserved : goal.loop-i-preserved
loop-i-preserved c =
    pass-next item_of unnamed c.args.items.now.items c.loop-i.items.items c.loop-i.i c.index_mut.result.now _ (grind (arith, common_steps)) c.index_mut.ensures.value c.loop-i.invariant refl

pub returns : goal.returns
returns c =
    let is = c.args.items.now.items in
    c.loop-i.invariant ∙ mapped-all unnamed (items_of is) c.loop-i.i (grind (arith, common_steps, length-map is item_of))
