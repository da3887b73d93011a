use Rattle.std.proofs.Common.{List, ℕ, ap, sym, ◌∙◌}
use Rattle.hf_links.specs.Grpl.{group_of}
use Rattle.hf_read.proofs.groups.left_of.Goals as goal

pub returns-then-stays-clause-some : goal.returns-then-stays-clause-some
returns-then-stays-clause-some c =
    let g = group_of c.args.group in
    let left = ap (λ (ids : List ℕ). record g { entities = ids }) c.keep_items.ensures in
    (sym (c.stays.ensures c.args.ids.now g c.len-count.ensures left) ∙ c.if-stays.true, left)

pub returns-clause-none : goal.returns-clause-none
returns-clause-none c =
    let g = group_of c.args.group in
    let left = ap (λ (ids : List ℕ). record g { entities = ids }) c.keep_items.ensures in
    sym (c.stays.ensures c.args.ids.now g c.len-count.ensures left) ∙ c.if-stays.false
