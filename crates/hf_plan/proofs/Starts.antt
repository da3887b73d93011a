-- The offsets of items, item by item.
use Rattle.std.proofs.Common.{◌≡◌, ℕ, ◌+◌, ◌-◌, ◌≤◌, cond, List, Option, [], ◌∷◌, ◌++◌, length, map, drop, Some, None, sym, ap, ◌∙◌, arith}
use Rattle.std.specs.Prelude.{slice_get}
use Rattle.hf_store.specs.Counts.{counts_of, counts_of_item, counts_before}
use Rattle.hf_store.specs.Layout.{own, has_bytes, in_idat}
use Rattle.hf_store.specs.Store.{Item, ItemStore}
use Rattle.hf_store.specs.Valid.{Valid}
use Rattle.hf_store.specs.declared.tally.Counts.{Counts}
use Rattle.hf_store.proofs.Counted.{one_more_before_the_next, rest_is_behind}
use Rattle.hf_plan.specs.Plan.{start_of}
use Rattle.hf_plan.proofs.CountedPlans.{start-counted}
use Rattle.hf_plan.proofs.Mapped.{mapped_here, mapped_end}

-- these are the offsets of the items before a place, and those of the next item with bytes
pub record AreStarts (s : ItemStore) (total k inner outer : ℕ) (starts : List (Option ℕ)) : Type 0 where
  pub inner_is : inner ≡ (counts_before k s.items).idat
  pub outer_is : outer ≡ total - (counts_of s).mdat + (counts_before k s.items).mdat
  pub so_far : starts ++ map (start_of own total s.items) (drop k s.items) ≡ map (start_of own total s.items) s.items

pub starts_first : (s : ItemStore) (total outer : ℕ) (starts : List (Option ℕ)) → starts ≡ [] → outer ≡ total - (counts_of s).mdat
    → AreStarts s total 0 0 outer starts
starts_first s total outer starts none is = record {
  inner_is = omega arith;
  outer_is = omega (arith, is);
  so_far = ap (λ xs. xs ++ map (start_of own total s.items) s.items) none;
}

-- the bytes up to an item and its own are among all
pub bytes_within : (s : ItemStore) (k : ℕ) (i : Item) → slice_get s.items k ≡ Some i
    → ((counts_before k s.items).idat + (counts_of_item i).idat ≤ (counts_of s).idat)
    × ((counts_before k s.items).mdat + (counts_of_item i).mdat ≤ (counts_of s).mdat)
bytes_within s k i here =
    let more = one_more_before_the_next s.items k i here in
    let rest = rest_is_behind s (k + 1) in (
      omega (arith, ap (λ (c : Counts). c.idat) more, ap (λ (c : Counts). c.idat) rest),
      omega (arith, ap (λ (c : Counts). c.mdat) more, ap (λ (c : Counts). c.mdat) rest),
    )

pub starts_next : (s : ItemStore) (total k inner outer in_len out_len : ℕ) (i : Item) (starts put : List (Option ℕ)) (start : Option ℕ) → Valid s
    → (counts_of s).mdat ≤ total → AreStarts s total k inner outer starts → slice_get s.items k ≡ Some i → put ≡ starts ++ start ∷ []
    → start ≡ cond (has_bytes i.bytes) (Some (cond (in_idat i) inner outer)) None → in_len ≡ (counts_of_item i).idat → out_len ≡ (counts_of_item i).mdat
    → AreStarts s total (k + 1) (inner + in_len) (outer + out_len) put
starts_next s total k inner outer in_len out_len i starts put start valid room are here more is ins outs =
    let next = one_more_before_the_next s.items k i here in
    let at : start_of own total s.items i ≡ start =
    start-counted total s k i valid room here ∙ sym (is ∙ (λ j. cond (has_bytes i.bytes) (Some (cond (in_idat i) (are.inner_is j) (are.outer_is j))) None))
    in
    record {
      inner_is = omega (arith, are.inner_is, ins, ap (λ (c : Counts). c.idat) next);
      outer_is = omega (arith, are.outer_is, outs, ap (λ (c : Counts). c.mdat) next);
      so_far = mapped_here (start_of own total s.items) s.items k i starts put _ start here more at are.so_far;
    }

pub starts_end : (s : ItemStore) (total k inner outer : ℕ) (starts : List (Option ℕ)) → AreStarts s total k inner outer starts → length s.items ≤ k
    → starts ≡ map (start_of own total s.items) s.items
starts_end s total k inner outer starts are past = mapped_end (start_of own total s.items) s.items k starts _ past are.so_far
