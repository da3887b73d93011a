use Rattle.std.proofs.Common.{◌≡◌, length, arith}
use Rattle.std.proofs.lemmas.Grind.{common_steps}
use Rattle.hf_table.specs.Held.{all_props}
use Rattle.hf_table.specs.Table.{table}
use Rattle.hf_table.proofs.Numbers.{zip-length}
use Rattle.hf_table.proofs.table.Table.kinds.Goals as goal

pub returns-clause-table : goal.returns-clause-table
returns-clause-table c lists t =
    let e : length c.args.self.now.firsts.items ≡ length (table (all_props lists)) = zip-length _ _ _ t.firsts in
    grind (arith, common_steps)
