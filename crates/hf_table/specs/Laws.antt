-- What holds of the distinct properties, of the numbers of their holders, and of tables.
use Rattle.std.specs.Prelude.{◌≡◌, ◌+◌, ◌≤◌, ◌<◌, ℕ, suc, List, ◌∷◌, ◌++◌, length, slice_get, slice_index, Some, All, if◌then◌else◌}
use Rattle.std.specs.List.{list_any}
use Rattle.std.specs.List.Sorted.{IsPermutation}
use Rattle.std.specs.Map.{keys_of}
use Rattle.hf_base.specs.Members.{IsIn}
use Rattle.hf_base.specs.declared.limits.TheConstants as limits
use Rattle.hf_prop.specs.declared.prop.Prop.{Prop}
use Rattle.hf_table.specs.Held.{all_props}
use Rattle.hf_table.specs.Numbered.{IsTableOf, Stands}
use Rattle.hf_table.specs.Table.{same_prop, number_of, places_of, table, prop_size, size_sum}
use Rattle.hf_table.specs.Uses.{Use, Tallies, IsCount, HasRoom}
use Rattle.hf_table.specs.declared.table.Table.{Table}

-- a property of a list has a number, and stands at it in the table, counted from 1
abbrev pub EachIsNumbered : Type 0
EachIsNumbered = (p : Prop) (ps : List Prop) → IsIn p ps → (n : ℕ) × (number_of p (table ps) ≡ suc n) × (slice_get (table ps) n ≡ Some p)

-- a permutation leaves the length of the table and the sum of the sizes
abbrev pub OrderIsFree : Type 0
OrderIsFree = (ps qs : List Prop) → IsPermutation ps qs → (length (table ps) ≡ length (table qs)) × (size_sum (table ps) ≡ size_sum (table qs))

-- a place anywhere in the list counts where the rest lacks the property
abbrev pub OnePlaceMore : Type 0
OnePlaceMore = (p : Prop) (before after : List Prop)
    → (length (table (before ++ p ∷ after)) ≡ length (table (before ++ after)) + (if list_any (same_prop p) (before ++ after) then 0 else 1))
    × (size_sum (table (before ++ p ∷ after)) ≡ size_sum (table (before ++ after)) + (if list_any (same_prop p) (before ++ after) then 0 else prop_size p))

-- uses that tally a list are as many as its table is long, with the same sum of sizes
abbrev pub UsesAreTheTable : Type 0
UsesAreTheTable = (ps : List Prop) (us : List Use) → IsCount us → Tallies us ps
    → (length us ≡ length (table ps)) × (size_sum (keys_of us) ≡ size_sum (table ps))

-- within the limits of a store, before and after, there is room for the properties of one item
abbrev pub LimitsLeaveRoom : Type 0
LimitsLeaveRoom = (us : List Use) (lists : List (List Prop)) (ps all : List Prop) → IsCount us → Tallies us (all_props lists)
    → length lists ≤ limits.ITEMS → All (λ (l : List Prop). length l ≤ limits.PROPS) lists → size_sum (table (all_props lists)) ≤ limits.META
    → length ps ≤ limits.PROPS → ((q : Prop) → places_of q ps ≤ places_of q all) → size_sum (table all) ≤ limits.META → HasRoom us ps

-- tables of the same lists say the same
abbrev pub TablesAreAlike : Type 0
TablesAreAlike = (lists : List (List Prop)) (some other : Table) → IsTableOf lists some → IsTableOf lists other
    → (some.firsts.items ≡ other.firsts.items) × (some.numbers.items ≡ other.numbers.items) × (some.starts.items ≡ other.starts.items)

-- a table has a number for each property of the lists
abbrev pub PlacesAreThere : Type 0
PlacesAreThere = (lists : List (List Prop)) (t : Table) (i j : ℕ) (p : Prop) → IsTableOf lists t → Stands lists i j p
    → (i < length t.starts.items) × (slice_index t.starts.items i + j < length t.numbers.items)
