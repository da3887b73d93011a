use Rattle.hf_links.specs.Grpl.{group_of}
use Rattle.hf_read.proofs.Gathered.{kept_more, passed_over}
use Rattle.hf_read.specs.Kept.{left_of, is_kept_group}
use Rattle.hf_read.proofs.groups.left_groups.Goals as goal

pub loop-group-preserved-in-Continue-1 : goal.loop-group-preserved-in-Continue-1
loop-group-preserved-in-Continue-1 c =
    let l = c.loop-group in
    let ids = c.args.ids.now in
    let left = c.in-Some-left_of.ensures.some in
    let more = kept_more group_of (is_kept_group ids) (left_of ids) l.yielded c.in-Some.group l.kept.items c.in-Some-left_of.left c.push.new.self.items in
    more left.0 left.1 l.invariant c.in_ok-push.ensures.items

pub loop-group-preserved : goal.loop-group-preserved
loop-group-preserved c =
    let ids = c.args.ids.now in
    let more = passed_over group_of (is_kept_group ids) (left_of ids) c.loop-group.yielded c.in-Some.group c.loop-group.kept.items in
    more c.in_default.ensures.none c.loop-group.invariant
