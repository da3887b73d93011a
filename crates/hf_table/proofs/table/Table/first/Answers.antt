use Rattle.std.proofs.Common.{length, refl}
use Rattle.hf_table.specs.Held.{all_props}
use Rattle.hf_table.specs.Numbered.{IsFirst}
use Rattle.hf_table.specs.Table.{table}
use Rattle.std.proofs.lemmas.Option.{slice_get_read}
use Rattle.hf_table.proofs.Numbers.{zip-at}
use Rattle.hf_table.proofs.table.Table.first.Goals as goal

pub returns-clause-first : goal.returns-clause-first
returns-clause-first c lists p t e =
    let fs = c.args.self.now.firsts.items in
    zip-at (IsFirst lists (all_props lists)) fs (table (all_props lists)) c.args.k c.index.result.now p t.firsts
    (slice_get_read fs (length fs) c.args.k c.index.result.now refl c.requires c.index.ensures) e
