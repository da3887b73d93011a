use Rattle.std.proofs.Common.{refl}
use Rattle.hf_read.proofs.Opened.{reads}
use Rattle.hf_samples.specs.OrderOfPlaces.{external_first, bad_method_first, zero_length_first, no_idat_first, bad_index_first, loc_cycle_first}
use Rattle.hf_samples.specs.OrderOfPlaces.{out_of_file_first, out_of_idat_first, out_of_item_first, bad_derived_first, derive_cycle_first}
use Rattle.hf_samples.proofs.order.places_come_in_order.Goals as goal

pub returns-clause-external : goal.returns-clause-external
unfolding reads external_first
returns-clause-external c = refl

pub returns-clause-bad_method : goal.returns-clause-bad_method
unfolding reads bad_method_first
returns-clause-bad_method c = refl

pub returns-clause-zero_length : goal.returns-clause-zero_length
unfolding reads zero_length_first
returns-clause-zero_length c = refl

pub returns-clause-no_idat : goal.returns-clause-no_idat
unfolding reads no_idat_first
returns-clause-no_idat c = refl

pub returns-clause-bad_index : goal.returns-clause-bad_index
unfolding reads bad_index_first
returns-clause-bad_index c = refl

pub returns-clause-loc_cycle : goal.returns-clause-loc_cycle
unfolding reads loc_cycle_first
returns-clause-loc_cycle c = refl

pub returns-clause-out_of_file : goal.returns-clause-out_of_file
unfolding reads out_of_file_first
returns-clause-out_of_file c = refl

pub returns-clause-out_of_idat : goal.returns-clause-out_of_idat
unfolding reads out_of_idat_first
returns-clause-out_of_idat c = refl

pub returns-clause-out_of_item : goal.returns-clause-out_of_item
unfolding reads out_of_item_first
returns-clause-out_of_item c = refl

pub returns-clause-bad_derived : goal.returns-clause-bad_derived
unfolding reads bad_derived_first
returns-clause-bad_derived c = refl

pub returns-clause-derive_cycle : goal.returns-clause-derive_cycle
unfolding reads derive_cycle_first
returns-clause-derive_cycle c = refl
