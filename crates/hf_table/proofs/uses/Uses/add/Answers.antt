use Rattle.std.proofs.Common.{◌≡◌, ◌∙◌, [], ◌∷◌, refl, sym, ap, subst, arith, None}
use Rattle.std.specs.Map.{keys_of, lookup}
use Rattle.hf_table.specs.Table.{same_prop, size_sum}
use Rattle.hf_table.specs.Uses.{Gains, IsCount}
use Rattle.hf_table.proofs.Writes.{come-gains, come-count, come-sizes}
use Rattle.hf_table.proofs.uses.Uses.add.Goals as goal

pub invariant_of-self-2 : goal.invariant_of-self-2
invariant_of-self-2 c =
    let p = c.args.prop in
    let m = c.raise.new.places in
    let same : m.entries ≡ c.self.inside.places.entries = ap (λ n. n.entries) (c.if-raise.ensures.unchanged refl) in
    let count : IsCount m.entries = subst IsCount (sym same) c.self.invariant.0 in
    let absent : lookup (same_prop p) m.entries ≡ None = ap (lookup (same_prop p)) same ∙ c.if-raise.ensures.absent refl in
    let e = c.in_ok-insert.ensures in
    let size = come-sizes m c.insert.new.self p e.updates e.unique absent count in
    let before : size_sum (keys_of m.entries) ≡ c.self.inside.size = ap (λ us. size_sum (keys_of us)) same ∙ sym c.self.invariant.1 in
    (come-count m c.insert.new.self p e.updates e.unique absent count, omega arith)

pub returns-clause-gains : goal.returns-clause-gains
returns-clause-gains c =
    let p = c.args.prop in
    let m = c.raise.new.places in
    let same : m.entries ≡ c.self.inside.places.entries = ap (λ n. n.entries) (c.if-raise.ensures.unchanged refl) in
    let absent : lookup (same_prop p) m.entries ≡ None = ap (lookup (same_prop p)) same ∙ c.if-raise.ensures.absent refl in
    let e = c.in_ok-insert.ensures in
    subst (λ us. Gains us (p ∷ []) c.insert.new.self.entries) (same ∙ c.self.view_is) (come-gains m c.insert.new.self p e.updates e.unique absent)

pub returns-clause-bytes : goal.returns-clause-bytes
returns-clause-bytes c =
    let p = c.args.prop in
    let m = c.raise.new.places in
    let same : m.entries ≡ c.self.inside.places.entries = ap (λ n. n.entries) (c.if-raise.ensures.unchanged refl) in
    let count : IsCount m.entries = subst IsCount (sym same) c.self.invariant.0 in
    let absent : lookup (same_prop p) m.entries ≡ None = ap (lookup (same_prop p)) same ∙ c.if-raise.ensures.absent refl in
    let e = c.in_ok-insert.ensures in
    let size = come-sizes m c.insert.new.self p e.updates e.unique absent count in
    let before : size_sum (keys_of m.entries) ≡ size_sum (keys_of c.args.self.now) = ap (λ us. size_sum (keys_of us)) (same ∙ c.self.view_is) in
    omega arith
