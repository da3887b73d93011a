-- The table of properties where some items go.
use Rattle.std.proofs.Common.{ℕ, ◌≤◌, Bool, List, [], ◌∷◌, ◌++◌, length, arith, append_assoc, inl, inr}
use Rattle.std.specs.List.{flat_map}
use Rattle.std.proofs.lemmas.Bool.{cases_Bool}
use Rattle.hf_prop.specs.declared.prop.Prop.{Prop}
use Rattle.hf_store.specs.Changes.{cut_items}
use Rattle.hf_store.specs.Store.{Item}
use Rattle.hf_store.specs.Table.{props_of}
use Rattle.hf_table.specs.Table.{table, size_sum}
use Rattle.hf_table.proofs.Tally.{table-length-more, table-sizes-more}

-- a table that is no longer, with boxes of no more bytes
pub record IsLess (some all : List Prop) : Type 0 where
  pub kinds : length (table some) ≤ length (table all)
  pub bytes : size_sum (table some) ≤ size_sum (table all)

less_than_itself : (ps : List Prop) → IsLess ps ps
less_than_itself ps = record { kinds = omega arith; bytes = omega arith }

transitive : (some more all : List Prop) → IsLess some more → IsLess more all → IsLess some all
transitive some more all a b = record { kinds = omega (arith, a.kinds, b.kinds); bytes = omega (arith, a.bytes, b.bytes) }

without_one : (before after : List Prop) (p : Prop) → IsLess (before ++ after) (before ++ p ∷ after)
without_one before after p = record { kinds = omega (arith, table-length-more p before after); bytes = omega (arith, table-sizes-more p before after) }

pub without_some : (before ps after : List Prop) → IsLess (before ++ after) (before ++ (ps ++ after))
without_some before [] after = less_than_itself (before ++ after)
without_some before (p ∷ ps) after = transitive (before ++ after) (before ++ (ps ++ after)) (before ++ p ∷ (ps ++ after)) (without_some before ps after) (without_one before (ps ++ after) p)

nested : (before ps some all : List Prop) → IsLess ((before ++ ps) ++ some) ((before ++ ps) ++ all) → IsLess (before ++ (ps ++ some)) (before ++ (ps ++ all))
nested before ps some all less = simp append_assoc at less

behind : (stays : ℕ → Bool) (before : List Prop) (is : List Item) → IsLess (before ++ flat_map props_of (cut_items stays is)) (before ++ flat_map props_of is)
behind stays before [] = less_than_itself (before ++ [])
behind stays before (i ∷ is) =
    elim (cases_Bool (stays i.id)) [
      | inl here ↦ rw here (nested before (props_of i) (flat_map props_of (cut_items stays is)) (flat_map props_of is) (behind stays (before ++ props_of i) is))
      | inr gone ↦
          rw gone (transitive (before ++ flat_map props_of (cut_items stays is)) (before ++ flat_map props_of is) (before ++ (props_of i ++ flat_map props_of is)) (behind stays before is) (without_some before (props_of i) (flat_map props_of is)))
    ]

pub less_left : (stays : ℕ → Bool) (is : List Item) → IsLess (flat_map props_of (cut_items stays is)) (flat_map props_of is)
less_left stays is = behind stays [] is
