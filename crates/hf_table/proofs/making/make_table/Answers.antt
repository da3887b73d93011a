use Rattle.std.proofs.Common.{refl}
use Rattle.hf_table.proofs.making.make_table.Goals as goal

pub note_lists-requires : goal.note_lists-requires
note_lists-requires g c κs = ((refl, tt), (c.requires, c.new-making.ensures (g.S.PropLists.lists c.args.store.now)))

pub returns : goal.returns
returns g c = c.into_table.ensures (g.S.PropLists.lists c.args.store.now) c.in_ok-starts.ensures.made c.in_ok-starts.ensures.starts
