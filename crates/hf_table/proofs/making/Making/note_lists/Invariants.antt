use Rattle.std.proofs.Common.{◌≡◌, ◌<◌, ℕ, length, take, get_or}
use Rattle.hf_table.specs.Held.{all_props}
use Rattle.hf_table.specs.Making.{IsMade}
use Rattle.hf_table.proofs.making.Making.note_lists.Given as goal

abbrev pub invariant-loop-i : goal.invariant-loop-i
invariant-loop-i g l = record {
  made : IsMade (g.S.PropLists.lists l.store) (all_props (take l.i (g.S.PropLists.lists l.store))) l.self;
  count : length l.starts.items ≡ l.i;
  starts : (k : ℕ) → k < l.i → get_or l.starts.items k 0 ≡ length (all_props (take k (g.S.PropLists.lists l.store)));
}
