use Rattle.std.proofs.Common.{◌≡◌, ◌<◌, ◌^◌, ◌∙◌, refl, sym, ap, subst, arith, [], ◌∷◌, take}
use Rattle.hf_table.specs.Held.{props_in}
use Rattle.hf_table.specs.Table.{prop_size}
use Rattle.hf_table.specs.Uses.{holders_in, Gains}
use Rattle.hf_table.proofs.Lists.{added-room, added-more, sum-next, sum-more, holds-those, gains-undone, props-join}
use Rattle.hf_table.proofs.uses.Uses.add_all.Goals as goal

pub add-requires-clause-few : goal.add-requires-clause-few
add-requires-clause-few c =
    let h = c.index-props-i.result in
    let copied : c.copy.result ≡ h.prop = c.copy.ensures ∙ ap (λ g. g.prop) (sym c.index-props-i.is) in
    let few =
    added-room props_in props-join c.args.props.now c.loop-i.i h c.loop-i-test.true c.index-props-i.is c.args.self.now c.loop-i.self c.requires
    c.loop-i.invariant.gains h.prop refl in
    subst (λ p. holders_in c.loop-i.self p < 2 ^ 62) (sym copied) few

pub add-requires-clause-room : goal.add-requires-clause-room
add-requires-clause-room c none =
    let h = c.index-props-i.result in
    let bytes = c.loop-i.invariant.bytes in
    let next = sum-next props_in props-join c.args.props.now c.loop-i.i h c.loop-i-test.true c.index-props-i.is prop_size in
    let room = c.requires.1 in
    let size : prop_size c.copy.result ≡ prop_size h.prop = ap prop_size (c.copy.ensures ∙ ap (λ g. g.prop) (sym c.index-props-i.is)) in
    omega arith

pub take_all-requires : goal.take_all-requires
take_all-requires c =
    holds-those c.args.self.now c.add.new.self _
    (subst (λ us. Gains c.args.self.now (props_in (take c.loop-i.i c.args.props.now)) us) (sym c.in-Err.ensures.unchanged) c.loop-i.invariant.gains)

pub loop-i-preserved : goal.loop-i-preserved
loop-i-preserved c =
    let h = c.index-props-i.result in
    let copied : c.copy.result ≡ h.prop = c.copy.ensures ∙ ap (λ g. g.prop) (sym c.index-props-i.is) in
    let gains : Gains c.loop-i.self (h.prop ∷ []) c.add.new.self = subst (λ p. Gains c.loop-i.self (p ∷ []) c.add.new.self) copied c.in_default.ensures.gains in
    let sizes = sum-more props_in props-join c.args.props.now c.loop-i.i h c.loop-i-test.true c.index-props-i.is prop_size in
    let size : prop_size c.copy.result ≡ prop_size h.prop = ap prop_size copied in
    let before = c.loop-i.invariant.bytes in
    let grown = c.in_default.ensures.bytes in
    record {
      gains =
          added-more props_in props-join c.args.props.now c.loop-i.i h c.loop-i-test.true c.index-props-i.is c.args.self.now c.loop-i.self c.add.new.self
          c.loop-i.invariant.gains gains;
      bytes = omega arith;
    }

pub returns-in-Err-clause-same : goal.returns-in-Err-clause-same
returns-in-Err-clause-same c =
    gains-undone c.args.self.now c.add.new.self c.take_all.new.self _
    (subst (λ us. Gains c.args.self.now (props_in (take c.loop-i.i c.args.props.now)) us) (sym c.in-Err.ensures.unchanged) c.loop-i.invariant.gains)
    c.take_all.ensures
