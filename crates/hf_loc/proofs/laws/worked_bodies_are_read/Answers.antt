use Rattle.std.proofs.Common.{refl}
use Rattle.hf_base.specs.Entries.{entries_from}
use Rattle.hf_base.specs.Number.{number}
use Rattle.hf_base.specs.Reading.{front, front_full, times}
use Rattle.hf_loc.specs.Iloc.{iloc_within, counted_at, widths_at, entry_at, loc_at, fields_at, extent_at, index_at}
use Rattle.hf_loc.proofs.laws.worked_bodies_are_read.Goals as goal

pub returns-clause-worked_file : goal.returns-clause-worked_file
unfolding iloc_within counted_at widths_at entries_from entry_at loc_at fields_at extent_at index_at front front_full times number
returns-clause-worked_file c = refl

pub returns-clause-extents : goal.returns-clause-extents
unfolding iloc_within counted_at widths_at entries_from entry_at loc_at fields_at extent_at index_at front front_full times number
returns-clause-extents c = refl

pub returns-clause-version_0 : goal.returns-clause-version_0
unfolding iloc_within counted_at widths_at entries_from entry_at loc_at fields_at extent_at index_at front front_full times number
returns-clause-version_0 c = refl

pub returns-clause-version_2 : goal.returns-clause-version_2
unfolding iloc_within counted_at widths_at entries_from entry_at loc_at fields_at extent_at index_at front front_full times number
returns-clause-version_2 c = refl

pub returns-clause-no_bytes : goal.returns-clause-no_bytes
unfolding iloc_within counted_at widths_at entries_from entry_at loc_at fields_at extent_at index_at front front_full times number
returns-clause-no_bytes c = refl

pub returns-clause-full_table : goal.returns-clause-full_table
unfolding iloc_within counted_at widths_at entries_from entry_at loc_at fields_at extent_at index_at front front_full times number
returns-clause-full_table c = refl
