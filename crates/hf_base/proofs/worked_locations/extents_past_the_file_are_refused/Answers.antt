use Rattle.std.proofs.Common.{refl}
use Rattle.hf_base.specs.BytesOf.{bytes_of}
use Rattle.hf_base.specs.Counts.{ends, leaves_of, size_of}
use Rattle.hf_base.specs.Levels.{over}
use Rattle.hf_base.specs.LocationFaults.{external_fault, bad_method_fault, zero_length_fault, no_idat_fault, bad_index_fault, loc_cycle_fault, out_of_file_fault, out_of_idat_fault, too_scattered_fault, out_of_item_fault, too_many_bytes_fault, locations_fault}
use Rattle.hf_base.proofs.worked_locations.extents_past_the_file_are_refused.Goals as goal

pub returns : goal.returns
unfolding over ends leaves_of size_of bytes_of locations_fault external_fault bad_method_fault zero_length_fault no_idat_fault bad_index_fault loc_cycle_fault out_of_file_fault out_of_idat_fault too_scattered_fault out_of_item_fault too_many_bytes_fault
returns c = record { least = refl; base = refl; within = refl; longer_items = refl; of_193_bytes = refl; of_193_bytes_within = refl; greatest = refl; wrapping = refl }
