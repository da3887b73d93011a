use Rattle.std.proofs.Common.{ap, ◌∙◌}
use Rattle.hf_box.specs.Literals.{four}
use Rattle.hf_store.specs.Changes.{without_optionals}
use Rattle.hf_deps.proofs.Undescribing.{all_dropped, place_without}
use Rattle.hf_deps.proofs.redaction.undescribe.Goals as goal

pub drop_kind-requires-2 : goal.drop_kind-requires-2
drop_kind-requires-2 c = place_without c.args.i (four "udes") c.args.store.now c.drop_kind.new.store c.drop_kind.ensures c.requires

pub drop_kind-requires-3 : goal.drop_kind-requires-3
drop_kind-requires-3 c =
    let first = place_without c.args.i (four "udes") c.args.store.now c.drop_kind.new.store c.drop_kind.ensures c.requires in
    place_without c.args.i (four "crtt") c.drop_kind.new.store c.drop_kind-2.new.store c.drop_kind-2.ensures first

pub returns : goal.returns
returns c =
    let i = c.args.i in
    c.drop_kind-3.ensures
    ∙ ap (without_optionals i (four "mdft")) (c.drop_kind-2.ensures ∙ ap (without_optionals i (four "crtt")) c.drop_kind.ensures)
    ∙ all_dropped i c.args.store.now
