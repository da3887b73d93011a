use Rattle.std.proofs.Common.{ℕ, ◌-◌, ◌∙◌, ap, arith}
use Rattle.hf_edit.proofs.NextId.{greatest_with, greatest_without}
use Rattle.hf_edit.proofs.additions.greatest_id.Goals as goal

pub returns-then-groups-gt0 : goal.returns-then-groups-gt0
returns-then-groups-gt0 c =
    c.max.ensures
    ∙ greatest_with c.args.store.now c.len-items.ensures.valid _ _ c.at.ensures (ap (λ (n : ℕ). n - 1) c.len-items.ensures.count) _ _ c.group_at.ensures
    (ap (λ (n : ℕ). n - 1) c.group_count-groups.ensures)

pub returns-else-groups-gt0 : goal.returns-else-groups-gt0
returns-else-groups-gt0 c =
    greatest_without c.args.store.now c.len-items.ensures.valid _ _ c.at.ensures (ap (λ (n : ℕ). n - 1) c.len-items.ensures.count)
    (omega (arith, c.if-groups-gt0.false, c.group_count-groups.ensures))
