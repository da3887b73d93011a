use Rattle.std.proofs.Common.{◌∙◌}
use Rattle.std.proofs.lemmas.Result.{IfOk-weaker}
use Rattle.hf_store.specs.Derived.{input_pairs}
use Rattle.hf_store.specs.Seen.{items_of}
use Rattle.hf_store.specs.Store.{ids_of}
use Rattle.hf_read.proofs.DerivedLaws.{walker_is}
use Rattle.hf_read.proofs.derived.first_endless.Goals as goal

pub returns : goal.returns
returns c =
    let items = items_of c.args.items.now in
    let pairs = c.deref-2.ensures.value ∙ c.in_ok-pairs.ensures in
    let is = walker_is c.deref-2.result.now (input_pairs items) (ids_of items) in
    IfOk-weaker c.derive_cycle.result _ _ (λ id least. is id pairs c.requires.rises c.requires.among least) c.derive_cycle.ensures
