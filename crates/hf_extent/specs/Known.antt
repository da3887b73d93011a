-- What is told of an item by what is known of the others at their places.
use Rattle.std.specs.Prelude.{ℕ, ◌-◌, ◌^◌, List, map, min, sum, ◌==◌, slice_index, slice_get, Option, Some, None, Result, if◌then◌else◌}
use Rattle.std.specs.Option.{option_and_then}
use Rattle.hf_base.specs.declared.loc.Extent.{Extent}
use Rattle.hf_base.specs.Located.{Located}
use Rattle.hf_base.specs.Reading.{◌>>=◌}
use Rattle.hf_base.specs.declared.fault.ReadRefusal.{ReadRefusal}
use Rattle.hf_base.specs.Counts.{size_of}
use Rattle.hf_base.specs.LocationFaults.{bad_index_fault, loc_cycle_fault, out_of_file_fault, out_of_idat_fault}
use Rattle.hf_base.specs.LocationFaults.{too_scattered_fault, out_of_item_fault, too_many_bytes_fault}
use Rattle.hf_base.specs.BytesOf.{by_method, piece_of, joined_pieces}
use Rattle.hf_extent.specs.Places.{place_of}

-- the number at a place, or 0 where there is no place
abbrev pub at_place : List ℕ → Option ℕ → ℕ
at_place counts None = 0
at_place counts (Some k) = slice_index counts k

abbrev pub leaves_by : List ℕ → List ℕ → Located → ℕ
leaves_by ids counts r = sum (map (λ (e : Extent). by_method r.method 1 1 (at_place counts (place_of ids r e))) r.extents)

abbrev pub source_by : ℕ → ℕ → List ℕ → List ℕ → Located → Extent → ℕ
source_by len inner ids sizes r e = by_method r.method len inner (at_place sizes (place_of ids r e))

abbrev pub extent_by : ℕ → ℕ → List ℕ → List ℕ → Located → Extent → ℕ
extent_by len inner ids sizes r e = if e.length == 0 then source_by len inner ids sizes r e else e.length

abbrev pub size_by : ℕ → ℕ → List ℕ → List ℕ → Located → ℕ
size_by len inner ids sizes r = sum (map (extent_by len inner ids sizes r) r.extents)

-- the bytes of the item that an extent names, and what it takes of them
abbrev pub named_bytes : List ℕ → List (List ℕ) → Located → Extent → Option (List ℕ)
named_bytes ids bodies r e = option_and_then (slice_get bodies) (place_of ids r e)

abbrev pub named_piece : List ℕ → List (List ℕ) → Located → Extent → Option (List ℕ)
named_piece ids bodies r e = piece_of r.base e (named_bytes ids bodies r e)

abbrev pub piece_by : List ℕ → Option (List ℕ) → List ℕ → List (List ℕ) → Located → Extent → Option (List ℕ)
piece_by F idat ids bodies r e = piece_of r.base e (by_method r.method (Some F) idat (named_bytes ids bodies r e))

abbrev pub bytes_by : List ℕ → Option (List ℕ) → List ℕ → List (List ℕ) → Located → Option (List ℕ)
bytes_by F idat ids bodies r = joined_pieces (map (piece_by F idat ids bodies r) r.extents)

-- the sizes of these items, or 2^128 - 1
abbrev pub stopped : ℕ → ℕ → List Located → List ℕ
stopped len inner items = map (λ (r : Located). min (size_of len inner items r) (2 ^ 128 - 1)) items

-- the last two faults
abbrev pub sizes_fault : List ℕ → Option (List ℕ) → List Located → Result (Unit {0}) ReadRefusal
sizes_fault F idat items = do
  in_items ← out_of_item_fault F idat items
  too_many_bytes_fault F idat items

-- the last five faults
abbrev pub extents_fault : List ℕ → Option (List ℕ) → List Located → Result (Unit {0}) ReadRefusal
extents_fault F idat items = do
  in_file ← out_of_file_fault F items
  in_idat ← out_of_idat_fault idat items
  few ← too_scattered_fault items
  sizes_fault F idat items

-- the last seven faults: all but those that an entry shows by itself
abbrev pub linked_fault : List ℕ → Option (List ℕ) → List Located → Result (Unit {0}) ReadRefusal
linked_fault F idat items = do
  named ← bad_index_fault items
  ending ← loc_cycle_fault items
  extents_fault F idat items
