use Rattle.std.proofs.Common.{◌≡◌, true, List, ap, ◌∙◌, map}
use Rattle.hf_base.specs.Entries.{are_distinct}
use Rattle.hf_links.specs.Grpl.{Group, group_of, groups_of}
use Rattle.hf_read.specs.Kept.{kept_groups}
use Rattle.hf_read.specs.Rising.{by_rising}
use Rattle.hf_read.proofs.KeptGroups.{left_distinct}
use Rattle.hf_read.proofs.SortedLaws.{sorted_seen}
use Rattle.hf_read.proofs.groups.kept_groups.Goals as goal

pub returns : goal.returns
unfolding kept_groups
returns c =
    let left = c.in_ok-left.left.items in
    let distinct : are_distinct (map (λ (g : Group). g.id) (groups_of left)) ≡ true =
    ap (λ (gs : List Group). are_distinct (map (λ (g : Group). g.id) gs)) c.in_ok-left.ensures
    ∙ left_distinct c.args.ids.now (groups_of c.args.groups.items) c.requires.distinct in
    ap groups_of c.from_vec.ensures
    ∙ sorted_seen group_of (λ (g : Group). g.id) left c.in_ok-by_id.field-0.items distinct c.in_ok-by_id.ensures.moved c.in_ok-by_id.ensures.rises
    ∙ ap (by_rising (λ (g : Group). g.id)) c.in_ok-left.ensures
