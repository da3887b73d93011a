use Rattle.std.proofs.Common.{refl}
use Rattle.hf_base.specs.Entries.{entries_from}
use Rattle.hf_base.specs.Number.{number}
use Rattle.hf_base.specs.Reading.{front, front_full, times}
use Rattle.hf_loc.specs.Iloc.{iloc_within, counted_at, widths_at, entry_at, loc_at, fields_at, extent_at, index_at}
use Rattle.hf_loc.proofs.laws.worked_bodies_are_refused.Goals as goal

pub returns-clause-no_flags : goal.returns-clause-no_flags
unfolding iloc_within counted_at widths_at entries_from entry_at loc_at fields_at extent_at index_at front front_full times number
returns-clause-no_flags c = refl

pub returns-clause-version : goal.returns-clause-version
unfolding iloc_within counted_at widths_at entries_from entry_at loc_at fields_at extent_at index_at front front_full times number
returns-clause-version c = refl

pub returns-clause-no_count : goal.returns-clause-no_count
unfolding iloc_within counted_at widths_at entries_from entry_at loc_at fields_at extent_at index_at front front_full times number
returns-clause-no_count c = refl

pub returns-clause-offset_width : goal.returns-clause-offset_width
unfolding iloc_within counted_at widths_at entries_from entry_at loc_at fields_at extent_at index_at front front_full times number
returns-clause-offset_width c = refl

pub returns-clause-length_width : goal.returns-clause-length_width
unfolding iloc_within counted_at widths_at entries_from entry_at loc_at fields_at extent_at index_at front front_full times number
returns-clause-length_width c = refl

pub returns-clause-base_width : goal.returns-clause-base_width
unfolding iloc_within counted_at widths_at entries_from entry_at loc_at fields_at extent_at index_at front front_full times number
returns-clause-base_width c = refl

pub returns-clause-index_width : goal.returns-clause-index_width
unfolding iloc_within counted_at widths_at entries_from entry_at loc_at fields_at extent_at index_at front front_full times number
returns-clause-index_width c = refl

pub returns-clause-short_entry : goal.returns-clause-short_entry
unfolding iloc_within counted_at widths_at entries_from entry_at loc_at fields_at extent_at index_at front front_full times number
returns-clause-short_entry c = refl

pub returns-clause-rows : goal.returns-clause-rows
unfolding iloc_within counted_at widths_at entries_from entry_at loc_at fields_at extent_at index_at front front_full times number
returns-clause-rows c = refl

pub returns-clause-entry_row : goal.returns-clause-entry_row
unfolding iloc_within counted_at widths_at entries_from entry_at loc_at fields_at extent_at index_at front front_full times number
returns-clause-entry_row c = refl

pub returns-clause-short_extents : goal.returns-clause-short_extents
unfolding iloc_within counted_at widths_at entries_from entry_at loc_at fields_at extent_at index_at front front_full times number
returns-clause-short_extents c = refl

pub returns-clause-second_entry : goal.returns-clause-second_entry
unfolding iloc_within counted_at widths_at entries_from entry_at loc_at fields_at extent_at index_at front front_full times number
returns-clause-second_entry c = refl
