use Rattle.std.proofs.Common.{◌≡◌, true, false, sym, ◌∙◌, arith}
use Rattle.hf_store.specs.Lists.{IsIn}
use Rattle.hf_store.specs.Referred.{all_targets}
use Rattle.hf_store.specs.Seen.{items_of}
use Rattle.hf_store.proofs.Targets.{items-lacking}
use Rattle.hf_store.proofs.cutting.cut_referred.Goals as goal

pub returns : goal.returns
returns c =
    let is = items_of c.args.items.now.items in
    let none : IsIn c.args.gone (all_targets is) → ⊥ = λ h.
    let e : true ≡ false = sym (c.has.ensures.1 (c.requires.known c.args.gone h)) ∙ c.if-has.false in absurd cc
    in
    record {
      items = sym (items-lacking c.args.gone is c.requires.some none);
      lists = omega (arith, c.requires.links, c.well_formed);
      targets = omega (arith, c.requires.ids, c.well_formed);
    }
