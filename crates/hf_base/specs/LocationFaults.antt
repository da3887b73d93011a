-- Why the places of items are refused. Which are, the order of the parts, and the limits, are this project's own rule.
use Rattle.std.specs.Prelude.{ℕ, ◌+◌, ◌-◌, ◌^◌, Bool, not, ◌&&◌, ◌||◌, List, length, map, min, sum, ◌==◌, nat_lt, Option, Some, None, Result, Ok, Err, if◌then◌else◌}
use Rattle.std.specs.List.{find, list_any}
use Rattle.std.specs.Option.{option_map, is_none}
use Rattle.hf_base.specs.Reading.{◌>>=◌}
use Rattle.hf_base.specs.declared.fault.ReadRefusal.{ReadRefusal}
use Rattle.hf_base.specs.declared.fault.ReadRefusal.TheVariants.{External, BadMethod, ZeroLength, NoIdat, BadIndex, LocCycle, OutOfFile}
use Rattle.hf_base.specs.declared.fault.ReadRefusal.TheVariants.{OutOfIdat, TooScattered, OutOfItem, TooManyBytes}
use Rattle.hf_base.specs.declared.limits.TheConstants.{BODY, PIECES}
use Rattle.hf_base.specs.declared.loc.Extent.{Extent}
use Rattle.hf_base.specs.Located.{Located, source_of}
use Rattle.hf_base.specs.Levels.{told}
use Rattle.hf_base.specs.Counts.{ends, leaves_of, size_of, inner_size}

-- the id of the first item that has the fault; the items rise by their ids, so it is the least
abbrev pub first_with : (Located → Bool) → List Located → Option ℕ
first_with has items = option_map (λ (r : Located). r.id) (find has items)

abbrev pub has_extents : List Extent → Bool
has_extents es = nat_lt 0 (length es)

-- the place behind the last byte of an extent
abbrev pub end_of : Located → Extent → ℕ
end_of r e = r.base + e.offset + e.length

-- an extent passes the end of a source of so many bytes
abbrev pub passes : ℕ → Located → Extent → Bool
passes len r e = nat_lt len (end_of r e)

-- ---- the faults of an item

-- the data reference is not 0
abbrev pub is_external : Located → Bool
is_external r = not (r.dref == 0)

-- the construction method is above 2
abbrev pub has_bad_method : Located → Bool
has_bad_method r = nat_lt 2 r.method

-- the entry takes a whole source: it has one extent, of method 1 or 2, and base plus offset is 0
abbrev pub is_whole : Located → Extent → Bool
is_whole r e = ((r.method == 1) || (r.method == 2)) && ((length r.extents == 1) && (r.base + e.offset == 0))

-- an extent has length 0, and does not take the whole source
abbrev pub has_zero_length : Located → Bool
has_zero_length r = list_any (λ (e : Extent). (e.length == 0) && not (is_whole r e)) r.extents

-- an extent of method 1, and no `idat`
abbrev pub lacks_idat : Option (List ℕ) → Located → Bool
lacks_idat idat r = (r.method == 1) && (has_extents r.extents && is_none idat)

-- an extent of method 2 whose index is 0, is past the references, or stands at an id that names no item
abbrev pub has_bad_index : List Located → Located → Bool
has_bad_index items r = (r.method == 2) && list_any (λ (e : Extent). is_none (source_of items r e)) r.extents

-- unfolding into sources does not end
abbrev pub is_endless : List Located → Located → Bool
is_endless items r = not (ends items r)

-- an extent of method 0 passes the end of the file
abbrev pub is_out_of_file : ℕ → Located → Bool
is_out_of_file len r = (r.method == 0) && list_any (passes len r) r.extents

-- an extent of method 1 passes the end of `idat`
abbrev pub is_out_of_idat : ℕ → Located → Bool
is_out_of_idat inner r = (r.method == 1) && list_any (passes inner r) r.extents

-- an extent of method 2 passes the end of the item that it takes its bytes from
abbrev pub is_out_of_item : ℕ → ℕ → List Located → Located → Bool
is_out_of_item len inner items r =
    (r.method == 2) && list_any (λ (e : Extent). passes (told 0 (size_of len inner items) (source_of items r e)) r e) r.extents

-- ---- the parts, in the order in which faults are told

abbrev pub refused : (ℕ → ReadRefusal) → Option ℕ → Result (Unit {0}) ReadRefusal
refused why None = Ok tt
refused why (Some id) = Err (why id)

-- a total that passes its limit; it is told as 2^64 - 1 where it is greater
abbrev pub limited : ℕ → (ℕ → ReadRefusal) → ℕ → Result (Unit {0}) ReadRefusal
limited most why total = if nat_lt most total then Err (why (min total (2 ^ 64 - 1))) else Ok tt

unfoldable pub external_fault : List Located → Result (Unit {0}) ReadRefusal
external_fault items = refused (λ id. External id) (first_with is_external items)

unfoldable pub bad_method_fault : List Located → Result (Unit {0}) ReadRefusal
bad_method_fault items = refused (λ id. BadMethod id) (first_with has_bad_method items)

unfoldable pub zero_length_fault : List Located → Result (Unit {0}) ReadRefusal
zero_length_fault items = refused (λ id. ZeroLength id) (first_with has_zero_length items)

unfoldable pub no_idat_fault : Option (List ℕ) → List Located → Result (Unit {0}) ReadRefusal
no_idat_fault idat items = refused (λ id. NoIdat id) (first_with (lacks_idat idat) items)

unfoldable pub bad_index_fault : List Located → Result (Unit {0}) ReadRefusal
bad_index_fault items = refused (λ id. BadIndex id) (first_with (has_bad_index items) items)

unfoldable pub loc_cycle_fault : List Located → Result (Unit {0}) ReadRefusal
loc_cycle_fault items = refused (λ id. LocCycle id) (first_with (is_endless items) items)

unfoldable pub out_of_file_fault : List ℕ → List Located → Result (Unit {0}) ReadRefusal
out_of_file_fault F items = refused (λ id. OutOfFile id) (first_with (is_out_of_file (length F)) items)

unfoldable pub out_of_idat_fault : Option (List ℕ) → List Located → Result (Unit {0}) ReadRefusal
out_of_idat_fault idat items = refused (λ id. OutOfIdat id) (first_with (is_out_of_idat (inner_size idat)) items)

unfoldable pub too_scattered_fault : List Located → Result (Unit {0}) ReadRefusal
too_scattered_fault items = limited PIECES (λ count. TooScattered count) (sum (map (leaves_of items) items))

unfoldable pub out_of_item_fault : List ℕ → Option (List ℕ) → List Located → Result (Unit {0}) ReadRefusal
out_of_item_fault F idat items = refused (λ id. OutOfItem id) (first_with (is_out_of_item (length F) (inner_size idat) items) items)

unfoldable pub too_many_bytes_fault : List ℕ → Option (List ℕ) → List Located → Result (Unit {0}) ReadRefusal
too_many_bytes_fault F idat items = limited BODY (λ total. TooManyBytes total) (sum (map (size_of (length F) (inner_size idat) items) items))

-- the first fault of the places of these items
unfoldable pub locations_fault : List ℕ → Option (List ℕ) → List Located → Result (Unit {0}) ReadRefusal
locations_fault F idat items = do
  here ← external_fault items
  known ← bad_method_fault items
  whole ← zero_length_fault items
  inner ← no_idat_fault idat items
  named ← bad_index_fault items
  ending ← loc_cycle_fault items
  in_file ← out_of_file_fault F items
  in_idat ← out_of_idat_fault idat items
  few ← too_scattered_fault items
  in_items ← out_of_item_fault F idat items
  too_many_bytes_fault F idat items
