-- When an item needs another one. This is this project's own rule.
use Rattle.std.specs.Prelude.{ℕ, ◌≡◌, ◌≢◌, ◌↔◌, ◌≤◌, ◌==◌, Bool, not, ◌&&◌, IsTrue, List, [], ◌∷◌, Option, Some, None, if◌then◌else◌}
use Rattle.std.specs.List.{list_any}
use Rattle.hf_links.specs.Kinds.{is_need}
use Rattle.hf_store.specs.Lists.{IsIn}
use Rattle.hf_store.specs.Store.{Item, ItemStore}
use Rattle.hf_store.specs.Valid.{Valid}
use Rattle.hf_store.specs.declared.item.RefList.{RefList}

-- item a has a reference to b without whose item it cannot be shown
abbrev pub Needs : ItemStore → ℕ → ℕ → Type 0
Needs s a b = (i : Item) × (r : RefList) × IsIn i s.items × (i.id ≡ a) × IsIn r i.refs × IsTrue (is_need r.kind) × IsIn b r.to

-- the same, as a test of an item
abbrev pub needs : ℕ → Item → Bool
needs id i = list_any (λ (r : RefList). is_need r.kind && list_any (λ to. to == id) r.to) i.refs

-- the first id of another one of these items that needs the item
abbrev pub needed_by : ℕ → List Item → Option ℕ
needed_by id [] = None
needed_by id (i ∷ is) = if not (i.id == id) && needs id i then Some i.id else needed_by id is

-- by is the least of the other items that need this one
pub record IsLeastNeeder (s : ItemStore) (id by : ℕ) : Type 0 where
  pub other : by ≢ id
  pub needed : Needs s by id
  pub least : (a : ℕ) → a ≢ id → Needs s a id → by ≤ a

-- ---- laws

-- where ids rise, as in each valid store, `needed_by` tells the least other item that needs this one
abbrev pub LeastNeederIsTold : Type 0
LeastNeederIsTold = (s : ItemStore) (id by : ℕ) → Valid s → (needed_by id s.items ≡ Some by) ↔ IsLeastNeeder s id by

-- and in any store none exactly where no other item needs it
abbrev pub NoNeederIsTold : Type 0
NoNeederIsTold = (s : ItemStore) (id : ℕ) → (needed_by id s.items ≡ None) ↔ ((a : ℕ) → a ≢ id → Needs s a id → ⊥)
