use Rattle.std.proofs.Common.{arith, ◌+◌, ◌*◌, ◌++◌, length, replicate, drop}
use Rattle.hf_base.specs.Number.{num}
use Rattle.hf_links.specs.Grpl.{group_of}
use Rattle.hf_links.proofs.Fronts.{version_is, group_is}
use Rattle.hf_links.proofs.grpl.front_of.Goals as goal

pub returns : goal.returns
unfolding num
returns c =
    let g = group_of c.args.group.now in
    let count = length g.entities in
    let size = 20 + 4 * count + length g.tail in
    let written = version_is size g.version g.flags g.id count in
    rw (c.copy_from_slice.ensures.after, c.be_put-5.ensures, c.be_put-4.ensures, c.be_put-3.ensures, c.be_put-2.ensures, c.be_put.ensures, c.len-count.ensures) (group_is g (num size 4 ++ replicate 4 0 ++ num g.version 1 ++ drop 1 (num g.flags 4) ++ num g.id 4 ++ num count 4) written (omega arith))
