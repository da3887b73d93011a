-- What a desk that compares stands for.
use Rattle.std.specs.Prelude.{[], Some, None, true, option_copied}
use Rattle.hf_desk.specs.Mark.{Match}
use Rattle.hf_desk.specs.Outside.{Outside, IsSound}
use Rattle.hf_desk.specs.ReadCounts.{ReadCounts}
use Rattle.hf_write.specs.declared.matching.MatchDesk.{MatchDesk}

-- It has no files, tells what is left of the file that is compared, and is steady.
abbrev pub match_outside : MatchDesk → Outside
match_outside d = record {
  files = Some [];
  made = None;
  said = None;
  mark = Match (option_copied d.rest);
  creating = d.creating;
  read_faults = d.read_faults;
  write_faults = 0;
  steady = true;
}

pub match_sound : (d : MatchDesk) → IsSound (match_outside d)
match_sound d = record { made = tt; steady = tt }

-- It does not count reads.
abbrev pub match_reads : MatchDesk → ReadCounts
match_reads d = record { calls = 0; given = 0; reach = 0 }
