use Rattle.std.proofs.Common.{◌≡◌, ◌∙◌, length, take, sym, refl}
use Rattle.std.proofs.lemmas.Option.{slice_get_read, get_or_from_slice_get}
use Rattle.hf_table.specs.Held.{all_props}
use Rattle.hf_table.specs.Table.{table}
use Rattle.hf_table.proofs.Places.{list-there, number-at}
use Rattle.hf_table.proofs.table.Table.number.Goals as goal

pub returns-clause-number : goal.returns-clause-number
returns-clause-number c lists p t s =
    let starts = c.args.self.now.starts.items in
    let start : c.index.result.now ≡ length (all_props (take c.args.i lists)) =
    sym (get_or_from_slice_get starts c.args.i c.index.result.now 0
    (slice_get_read starts (length starts) c.args.i c.index.result.now refl c.requires.item c.index.ensures))
    ∙ t.starts c.args.i (list-there lists c.args.i c.args.j p s) in
    c.index-2.ensures ∙ number-at lists c.args.i c.args.j p s c.args.self.now.numbers.items (table (all_props lists)) c.index.result.now c.index-2.result.now
    t.numbers start
