use Rattle.std.proofs.Common.{◌<◌, ◌^◌, arith}
use Rattle.hf_edit.proofs.NextId.{next_is}
use Rattle.hf_edit.proofs.additions.next_id.Goals as goal

pub returns : goal.returns
returns c =
    let small : c.greatest_id.result < 2 ^ 32 = omega arith in
    next_is c.args.store.now c.greatest_id.result c.checked_add.result c.greatest_id.ensures c.checked_add.ensures small
