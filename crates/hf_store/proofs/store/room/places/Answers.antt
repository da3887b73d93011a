use Rattle.std.proofs.Common.{◌≡◌, ◌∙◌, ℕ, cond, sym, ap, arith}
use Rattle.hf_table.specs.Table.{same_prop}
use Rattle.hf_store.proofs.Loads.{places-next}
use Rattle.hf_store.proofs.store.room.places.Goals as goal
use Rattle.hf_store.proofs.store.room.places.Goals.{then-eq, else-eq}

pub loop-held-preserved : goal.loop-held-preserved
loop-held-preserved c =
    let h = c.held-item.result in
    let inv = c.loop-held.invariant in
    let more = places-next c.args.props.now c.loop-held.held-index h c.loop-held-test.true c.held-item.is c.args.prop.now in
    elim c.if-eq.branch [
      | then-eq w ↦
          let one : cond {A = ℕ} (same_prop c.args.prop.now h.prop) 1 0 ≡ 1 = ap (λ b. cond {A = ℕ} b 1 0) (sym c.eq.ensures ∙ w.if-eq.true) in
          record { few = omega (arith, inv.few, w.count-is); counted = omega (arith, inv.counted, more, one, w.count-is) }
      | else-eq w ↦
          let none : cond {A = ℕ} (same_prop c.args.prop.now h.prop) 1 0 ≡ 0 = ap (λ b. cond {A = ℕ} b 1 0) (sym c.eq.ensures ∙ w.if-eq.false) in
          record { few = omega (arith, inv.few, w.count-is); counted = omega (arith, inv.counted, more, none, w.count-is) }
    ]
