use Rattle.std.proofs.Common.{refl}
use Rattle.hf_read.proofs.Opened.{reads}
use Rattle.hf_samples.specs.RefusedPlaces.{external_files, bad_method_files, zero_length_files, no_idat_files, bad_index_files, loc_cycle_files}
use Rattle.hf_samples.specs.RefusedPlaces.{out_of_file_files, out_of_idat_files, out_of_item_files, bad_derived_files, derive_cycle_files}
use Rattle.hf_samples.proofs.refused.places_are_refused.Goals as goal

pub returns-clause-external : goal.returns-clause-external
unfolding reads external_files
returns-clause-external c = refl

pub returns-clause-bad_method : goal.returns-clause-bad_method
unfolding reads bad_method_files
returns-clause-bad_method c = refl

pub returns-clause-zero_length : goal.returns-clause-zero_length
unfolding reads zero_length_files
returns-clause-zero_length c = refl

pub returns-clause-no_idat : goal.returns-clause-no_idat
unfolding reads no_idat_files
returns-clause-no_idat c = refl

pub returns-clause-bad_index : goal.returns-clause-bad_index
unfolding reads bad_index_files
returns-clause-bad_index c = refl

pub returns-clause-loc_cycle : goal.returns-clause-loc_cycle
unfolding reads loc_cycle_files
returns-clause-loc_cycle c = refl

pub returns-clause-out_of_file : goal.returns-clause-out_of_file
unfolding reads out_of_file_files
returns-clause-out_of_file c = refl

pub returns-clause-out_of_idat : goal.returns-clause-out_of_idat
unfolding reads out_of_idat_files
returns-clause-out_of_idat c = refl

pub returns-clause-out_of_item : goal.returns-clause-out_of_item
unfolding reads out_of_item_files
returns-clause-out_of_item c = refl

pub returns-clause-bad_derived : goal.returns-clause-bad_derived
unfolding reads bad_derived_files
returns-clause-bad_derived c = refl

pub returns-clause-derive_cycle : goal.returns-clause-derive_cycle
unfolding reads derive_cycle_files
returns-clause-derive_cycle c = refl
