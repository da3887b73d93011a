-- What a table of properties says of some lists of properties, one for each item.
use Rattle.std.specs.Prelude.{ℕ, ◌≡◌, ◌+◌, ◌<◌, List, length, map, take, slice_index, slice_get, Some}
use Rattle.std.specs.List.{AllZip, position_or_len}
use Rattle.hf_prop.specs.declared.prop.Prop.{Prop}
use Rattle.hf_table.specs.Held.{all_props}
use Rattle.hf_table.specs.Table.{same_prop, number_of, table}
use Rattle.hf_table.specs.declared.table.Table.{Table}

-- the place among all properties of the j-th property of the i-th list
abbrev pub place_of : List (List Prop) → ℕ → ℕ → ℕ
place_of lists i j = length (all_props (take i lists)) + j

-- the property is the j-th one of the i-th list
pub record Stands (lists : List (List Prop)) (i j : ℕ) (p : Prop) : Type 0 where
  pub props : List Prop
  pub at : slice_get lists i ≡ Some props
  pub held : slice_get props j ≡ Some p

-- the property stands at this place of these lists, which is its first one in the list ps of those so far
pub record IsFirst (lists : List (List Prop)) (ps : List Prop) (where_it_is : ℕ × ℕ) (p : Prop) : Type 0 where
  pub place : place_of lists where_it_is.0 where_it_is.1 ≡ position_or_len (same_prop p) ps
  pub there : place_of lists where_it_is.0 where_it_is.1 < length ps
  pub stands : Stands lists where_it_is.0 where_it_is.1 p

-- the first places of the distinct properties, the numbers of all properties, and where those of each list begin
pub record IsTableOf (lists : List (List Prop)) (t : Table) : Type 0 where
  pub firsts : AllZip (IsFirst lists (all_props lists)) t.firsts.items (table (all_props lists))
  pub numbers : t.numbers.items ≡ map (λ p. number_of p (table (all_props lists))) (all_props lists)
  pub count : length t.starts.items ≡ length lists
  pub starts : (i : ℕ) → i < length lists → slice_index t.starts.items i ≡ length (all_props (take i lists))
