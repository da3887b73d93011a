use Rattle.std.proofs.Common.{◌≡◌, ◌<◌, ◌+◌, ◌++◌, ◌∷◌, [], ap, sym, ◌∙◌, arith, length, map, take, get_or, List}
use Rattle.std.proofs.lemmas.List.{take_more, with_items_is}
use Rattle.hf_read.proofs.AssocLaws.{with_assocs, no_entries}
use Rattle.hf_prop.specs.declared.assoc.Assoc.{Assoc}
use Rattle.hf_read.proofs.Gathered.{all_taken}
use Rattle.hf_read.proofs.properties.kept_props.Goals as goal

pub loop-assoc-init : goal.loop-assoc-init
loop-assoc-init c = c.in_ok-lists.ensures ∙ no_entries c.args.iprp.now.props c.args.ids.now

pub loop-assoc-preserved : goal.loop-assoc-preserved
loop-assoc-preserved c =
    let assocs = c.args.iprp.now.assocs in
    let i = c.loop-assoc.assoc-index in
    let a = c.assoc-item.result in
    let within : i < length assocs = omega (arith, c.loop-assoc-test.true, ap length c.as_slice-assoc-items.ensures) in
    let is : a ≡ get_or assocs i a = c.assoc-item.is ∙ ap (λ l. get_or l i a) c.as_slice-assoc-items.ensures in
    let more : take (i + 1) assocs ≡ take i assocs ++ a ∷ [] = take_more assocs i a within ∙ ap (λ b. take i assocs ++ b ∷ []) (sym is) in
    with_items_is c.loop-assoc.lists c.add_assoc.new.lists (omega (arith, c.add_assoc.auto.lists, ap length c.deref_mut.ensures.value, c.loop-assoc.lists.ok.0))
    ∙ c.in_ok-add_assoc.ensures (take i assocs) (c.deref_mut.ensures.value ∙ c.loop-assoc.invariant)
    ∙ ap (λ l. map (with_assocs c.args.iprp.now.props l) c.args.ids.now) (sym more)

pub returns : goal.returns
returns c =
    let v = c.args.iprp.now in
    all_taken (λ (assocs : List Assoc). map (with_assocs v.props assocs) c.args.ids.now) v.assocs c.loop-assoc.assoc-index c.loop-assoc.lists.items
    (omega (arith, c.loop-assoc-test.false, c.loop-assoc.auto.assoc-index-end, ap length c.as_slice-assoc-items.ensures)) c.loop-assoc.invariant
