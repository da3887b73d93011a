use Rattle.std.proofs.Common.{◌≤◌, take}
use Rattle.hf_store.specs.Room.{Adds, AreFourHeld}
use Rattle.hf_store.proofs.store.room.load_of.Given as goal

abbrev pub invariant-loop-k : goal.invariant-loop-k
invariant-loop-k l = record {
  few : l.load.kinds ≤ l.k;
  fours : AreFourHeld (take l.k l.more);
  adds : Adds l.uses l.less (take l.k l.more) l.load;
}
