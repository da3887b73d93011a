use Rattle.std.proofs.Common.{◌≡◌, map}
use Rattle.std.specs.List.{filter}
use Rattle.hf_links.specs.Grpl.{groups_of}
use Rattle.hf_read.specs.Kept.{left_of, is_kept_group}
use Rattle.hf_read.proofs.groups.left_groups.Given as goal

abbrev pub invariant-loop-group : goal.invariant-loop-group
invariant-loop-group l = groups_of l.kept.items ≡ map (left_of l.ids) (filter (is_kept_group l.ids) (groups_of l.yielded))
