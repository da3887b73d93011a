-- What is kept while a table is made.
use Rattle.std.specs.Prelude.{ℕ, ◌≡◌, ◌++◌, ◌<◌, List, [], ◌∷◌, length, map, take, slice_index, slice_get, Some}
use Rattle.std.specs.List.{AllZip}
use Rattle.hf_prop.specs.declared.prop.Prop.{Prop}
use Rattle.hf_table.specs.Held.{all_props}
use Rattle.hf_table.specs.Table.{number_of, table}
use Rattle.hf_table.specs.Numbered.{place_of, Stands, IsFirst}
use Rattle.hf_table.specs.declared.making.Making.{Making}

-- these properties were met so far
pub record IsMade (lists : List (List Prop)) (ps : List Prop) (m : Making) : Type 0 where
  pub seen : m.seen.keys ≡ table ps
  pub firsts : AllZip (IsFirst lists ps) m.firsts.items m.seen.keys
  pub numbers : m.numbers.items ≡ map (λ p. number_of p m.seen.keys) ps

-- the numbers of each list begin at these places
pub record AreStarts (lists : List (List Prop)) (starts : List ℕ) : Type 0 where
  pub count : length starts ≡ length lists
  pub begin : (i : ℕ) → i < length lists → slice_index starts i ≡ length (all_props (take i lists))

-- one more property is met, the j-th one of the i-th list
abbrev pub Notes : Making → ℕ → ℕ → Prop → Making → Type 0
Notes old i j p new = (lists : List (List Prop)) (ps : List Prop) → IsMade lists ps old → place_of lists i j ≡ length ps → Stands lists i j p
    → IsMade lists (ps ++ p ∷ []) new

-- the properties of the i-th list are met
abbrev pub NotesAll : Making → ℕ → List Prop → Making → Type 0
NotesAll old i props new = (lists : List (List Prop)) (ps : List Prop) → IsMade lists ps old → place_of lists i 0 ≡ length ps → slice_get lists i ≡ Some props
    → IsMade lists (ps ++ props) new
