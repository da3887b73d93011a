use Rattle.std.proofs.Common.{◌≡◌, ◌∙◌, ◌<◌, ◌≤◌, [], ◌∷◌, refl, sym, ap, subst, arith}
use Rattle.std.specs.Map.{keys_of}
use Rattle.hf_table.specs.Table.{size_sum}
use Rattle.hf_table.specs.Uses.{holders_in, Gains, IsCount}
use Rattle.hf_table.proofs.Writes.{gone-loses, gone-count, gone-size}
use Rattle.hf_table.proofs.uses.Uses.take.Goals as goal

pub invariant_of-self : goal.invariant_of-self
invariant_of-self c =
    let kept = c.if-lower.ensures.kept refl in
    (kept.count c.self.invariant.0, c.self.invariant.1 ∙ ap size_sum (sym kept.keys))

pub overflow_sub-self : goal.overflow_sub-self
overflow_sub-self c =
    let p = c.args.prop.now in
    let m = c.lower.new.places in
    let same : m.entries ≡ c.self.inside.places.entries = c.if-lower.ensures.unchanged refl in
    let count : IsCount m.entries = subst IsCount (sym same) c.self.invariant.0 in
    let last : holders_in c.self.inside.places.entries p ≤ 1 = c.if-lower.ensures.last refl in
    let few : holders_in m.entries p ≤ 1 = subst (λ us. holders_in us p ≤ 1) (sym same) last in
    let some : 0 < holders_in m.entries p = subst (λ us. 0 < holders_in us p) (sym (same ∙ c.self.view_is)) c.requires in
    let e = c.swap_remove.ensures in
    let size = gone-size m c.swap_remove.new.self p e.updates e.unique few some count in
    let before : size_sum (keys_of m.entries) ≡ c.self.inside.size = ap (λ us. size_sum (keys_of us)) same ∙ sym c.self.invariant.1 in
    omega arith

pub invariant_of-self-2 : goal.invariant_of-self-2
invariant_of-self-2 c =
    let p = c.args.prop.now in
    let m = c.lower.new.places in
    let same : m.entries ≡ c.self.inside.places.entries = c.if-lower.ensures.unchanged refl in
    let count : IsCount m.entries = subst IsCount (sym same) c.self.invariant.0 in
    let last : holders_in c.self.inside.places.entries p ≤ 1 = c.if-lower.ensures.last refl in
    let few : holders_in m.entries p ≤ 1 = subst (λ us. holders_in us p ≤ 1) (sym same) last in
    let some : 0 < holders_in m.entries p = subst (λ us. 0 < holders_in us p) (sym (same ∙ c.self.view_is)) c.requires in
    let e = c.swap_remove.ensures in
    let size = gone-size m c.swap_remove.new.self p e.updates e.unique few some count in
    let before : size_sum (keys_of m.entries) ≡ c.self.inside.size = ap (λ us. size_sum (keys_of us)) same ∙ sym c.self.invariant.1 in
    (gone-count m c.swap_remove.new.self p e.updates e.unique few some count, omega arith)

pub returns : goal.returns
returns c =
    let p = c.args.prop.now in
    let m = c.lower.new.places in
    let same : m.entries ≡ c.self.inside.places.entries = c.if-lower.ensures.unchanged refl in
    let last : holders_in c.self.inside.places.entries p ≤ 1 = c.if-lower.ensures.last refl in
    let few : holders_in m.entries p ≤ 1 = subst (λ us. holders_in us p ≤ 1) (sym same) last in
    let some : 0 < holders_in m.entries p = subst (λ us. 0 < holders_in us p) (sym (same ∙ c.self.view_is)) c.requires in
    let e = c.swap_remove.ensures in
    subst (λ us. Gains c.swap_remove.new.self.entries (p ∷ []) us) (same ∙ c.self.view_is) (gone-loses m c.swap_remove.new.self p e.updates e.unique few some)
