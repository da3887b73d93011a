-- The fault of places asks for the length of the file alone, and not for its bytes.
use Rattle.std.proofs.Common.{◌≡◌, ℕ, List, length, map, refl, Option, sum, Result}
use Rattle.hf_base.specs.Reading.{◌>>=◌}
use Rattle.hf_base.specs.declared.fault.ReadRefusal.{ReadRefusal}
use Rattle.hf_base.specs.declared.fault.ReadRefusal.TheVariants.{OutOfFile, OutOfItem, TooManyBytes}
use Rattle.hf_base.specs.declared.limits.TheConstants.{BODY}
use Rattle.hf_base.specs.Located.{Located}
use Rattle.hf_base.specs.Counts.{size_of, inner_size}
use Rattle.hf_base.specs.LocationFaults.{first_with, refused, limited, is_out_of_file, is_out_of_item, external_fault, bad_method_fault, zero_length_fault, no_idat_fault, bad_index_fault, loc_cycle_fault, out_of_file_fault, out_of_idat_fault, too_scattered_fault, out_of_item_fault, too_many_bytes_fault, locations_fault}

abbrev pub fault_by : ℕ → Option (List ℕ) → List Located → Result (Unit {0}) ReadRefusal
fault_by len idat items = do
  here ← external_fault items
  known ← bad_method_fault items
  whole ← zero_length_fault items
  inner ← no_idat_fault idat items
  named ← bad_index_fault items
  ending ← loc_cycle_fault items
  in_file ← refused (λ id. OutOfFile id) (first_with (is_out_of_file len) items)
  in_idat ← out_of_idat_fault idat items
  few ← too_scattered_fault items
  in_items ← refused (λ id. OutOfItem id) (first_with (is_out_of_item len (inner_size idat) items) items)
  limited BODY (λ total. TooManyBytes total) (sum (map (size_of len (inner_size idat) items) items))

pub by_length : (F : List ℕ) (idat : Option (List ℕ)) (items : List Located) → locations_fault F idat items ≡ fault_by (length F) idat items
unfolding locations_fault out_of_file_fault out_of_item_fault too_many_bytes_fault
by_length F idat items = refl
