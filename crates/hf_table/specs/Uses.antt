-- How many holders each of some distinct properties has: the places at which the property lists of items have it.
use Rattle.std.specs.Prelude.{ℕ, ◌≡◌, ◌+◌, ◌≤◌, ◌<◌, ◌^◌, List, Some}
use Rattle.std.specs.List.{IsDistinct}
use Rattle.std.specs.Map.{keys_of, lookup, count_at}
use Rattle.hf_prop.specs.declared.prop.Prop.{Prop}
use Rattle.hf_table.specs.Table.{same_prop, places_of, size_sum}

-- a property with the number of its holders
abbrev pub Use : Type 0
Use = Prop × ℕ

-- how many holders these uses give a property; none where they lack it
abbrev pub holders_in : List Use → Prop → ℕ
holders_in us p = count_at (λ q. lookup (same_prop q) us) p

-- new gives each property as many holders as old and this list together
pub record Gains (old : List Use) (ps : List Prop) (new : List Use) : Type 0 where
  pub each : (q : Prop) → holders_in new q ≡ holders_in old q + places_of q ps

-- the places of one list go, and those of another one come
pub record Trades (old : List Use) (less more : List Prop) (new : List Use) : Type 0 where
  pub each : (q : Prop) → holders_in new q + places_of q less ≡ holders_in old q + places_of q more

-- the uses are those of this list
pub record Tallies (us : List Use) (ps : List Prop) : Type 0 where
  pub each : (q : Prop) → holders_in us q ≡ places_of q ps

-- no property stands twice, and none without a holder
pub record IsCount (us : List Use) : Type 0 where
  pub distinct : IsDistinct same_prop (keys_of us)
  pub filled : (q : Prop) → lookup (same_prop q) us ≡ Some 0 → ⊥

-- the distinct properties stay as they are
pub record KeepsKinds (old new : List Use) : Type 0 where
  pub keys : keys_of new ≡ keys_of old
  pub count : IsCount old → IsCount new

-- each property has at least as many holders as it has places in this list
abbrev pub Holds : List Use → List Prop → Type 0
Holds us ps = (q : Prop) → places_of q ps ≤ holders_in us q

-- the numbers of holders, and the bytes of the boxes, still fit when the list comes to these uses
abbrev pub HasRoom : List Use → List Prop → Type 0
HasRoom us ps = ((q : Prop) → holders_in us q + places_of q ps ≤ 2 ^ 62) × (size_sum (keys_of us) + size_sum ps < 2 ^ 64)
