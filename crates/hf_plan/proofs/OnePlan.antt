-- The parts of a plan follow from the store.
use Rattle.std.proofs.Common.{◌≡◌, ◌∙◌, ℕ, Bool, length, map, sym, ap}
use Rattle.std.specs.List.{flat_map}
use Rattle.hf_loc.specs.Iloc.{offset_width}
use Rattle.hf_table.proofs.Unique.{firsts-unique}
use Rattle.hf_store.specs.Layout.{own, laid}
use Rattle.hf_store.specs.Table.{props_of, lists_of, table_of}
use Rattle.hf_plan.specs.Laws.{OnePlan}
use Rattle.hf_plan.specs.Plan.{start_of, sizes_of}

pub one_plan : OnePlan
one_plan s p q mine other =
    let wide : p.wide ≡ q.wide = mine.wide ∙ sym other.wide in
    let long : p.long ≡ q.long = mine.long ∙ sym other.long in
    let total : p.total ≡ q.total = mine.total ∙ ap (λ (b : Bool). length (laid own (offset_width b) 0 s)) long ∙ sym other.total in
    let starts : p.starts ≡ q.starts = mine.starts ∙ ap (λ (n : ℕ). map (start_of own n s.items) s.items) total ∙ sym other.starts in
    let sizes : p.sizes ≡ q.sizes = mine.sizes ∙ ap (λ (b : Bool). sizes_of b s) long ∙ sym other.sizes in
    let firsts : p.firsts ≡ q.firsts = firsts-unique (lists_of s) (flat_map props_of s.items) p.firsts q.firsts (table_of s) mine.firsts other.firsts in
    let numbers : p.numbers ≡ q.numbers = mine.numbers ∙ sym other.numbers in
    λ j. record { wide = wide j; long = long j; total = total j; starts = starts j; sizes = sizes j; firsts = firsts j; numbers = numbers j }
