-- A store with other properties of an item, and what a list of properties adds to others. Which lists they are is this project's own rule.
use Rattle.std.specs.Prelude.{ℕ, ◌≡◌, ◌-◌, List, [], ◌++◌, length, map, take, get_or}
use Rattle.std.specs.List.{AllByRecursion}
use Rattle.hf_table.specs.Held.{props_in}
use Rattle.hf_table.specs.Table.{table, size_sum}
use Rattle.hf_table.specs.Uses.{Use, Tallies}
use Rattle.hf_store.specs.Capped.{capped}
use Rattle.hf_store.specs.Store.{Prop, Held, RefList, Item, ItemStore}
use Rattle.hf_store.specs.Valid.{IsFour}
use Rattle.hf_store.specs.declared.store.room.Load.{Load}

-- the properties of the item at a place
abbrev pub props_at : ℕ → List Item → List Held
props_at i is = get_or (map (λ (j : Item). j.props) is) i []

-- the first ones of the item at a place, and others behind them
abbrev pub props_with : ℕ → List Held → ℕ → ItemStore → List Held
props_with kept more i s = take kept (props_at i s.items) ++ more

-- by how much these properties make the table of others longer
abbrev pub kinds_more : List Prop → List Prop → ℕ
kinds_more others ps = length (table (others ++ ps)) - length (table others)

-- and the boxes of its properties
abbrev pub bytes_more : List Prop → List Prop → ℕ
bytes_more others ps = size_sum (table (others ++ ps)) - size_sum (table others)

-- these properties add so much to those that are counted, of which some go before
pub record Adds (us : List Use) (less more : List Held) (load : Load) : Type 0 where
  pub kinds : (left : List Prop) → Tallies us (left ++ props_in less) → load.kinds ≡ kinds_more left (props_in more)
  pub bytes : (left : List Prop) → Tallies us (left ++ props_in less) → load.bytes ≡ capped (bytes_more left (props_in more))

-- the types of the properties have four bytes
abbrev pub AreFourHeld : List Held → Type 0
AreFourHeld hs = AllByRecursion (λ (h : Held). IsFour h.prop.kind) hs

-- the types of the references have four bytes
abbrev pub AreFourRefs : List RefList → Type 0
AreFourRefs rs = AllByRecursion (λ (r : RefList). IsFour r.kind) rs
