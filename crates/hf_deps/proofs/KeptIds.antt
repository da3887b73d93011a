-- What is reached from the primary item along the pairs of a store, in any order, is what is kept.
use Rattle.std.proofs.Common.{◌≡◌, ℕ, Bool, List, filter}
use Rattle.std.specs.List.Sorted.{IsPermutation}
use Rattle.std.proofs.lemmas.List.Sorted.{IsPermutation-sym}
use Rattle.hf_order.proofs.Members.{in_permutation}
use Rattle.hf_store.specs.Lists.{IsIn}
use Rattle.hf_store.specs.Store.{ItemStore, ids_of}
use Rattle.hf_store.specs.Valid.{Valid}
use Rattle.hf_table.specs.Held.{is_among}
use Rattle.hf_deps.specs.Kept.{Kept, keeping, kept_ids}
use Rattle.hf_deps.specs.Reach.{HasEnds, IsReached}
use Rattle.hf_deps.proofs.Among.{among_in, filter_rises, in_among, passes, same_members, to_filter}
use Rattle.hf_deps.proofs.Chains.{each_kept, IsLinked, keeps_pair, kept_ids_closed, kept_ids_first, kept_ids_rise, kept_there, pair_keeps, told_kept, valid_linked}

module _ (s : ItemStore) (bare : Bool) (valid : Valid s) (pairs : List (ℕ × ℕ)) (moved : IsPermutation (keeping bare s.items) pairs) where
  linked : IsLinked s bare
  linked = valid_linked s bare valid

  back : (a b : ℕ) → IsIn (b, a) pairs → IsIn (b, a) (keeping bare s.items)
  back a b h = in_permutation pairs (keeping bare s.items) (IsPermutation-sym (keeping bare s.items) pairs moved) (b, a) h

  pub pairs_end : HasEnds (ids_of s.items) pairs
  pairs_end a b h = linked.ends a b (pair_keeps s bare a b (back a b h))

  reached_kept : (ids : List ℕ) → IsReached pairs s.primary ids → (x : ℕ) → IsIn x ids → IsIn x (kept_ids bare s)
  reached_kept ids reached = reached.least (kept_ids bare s) (kept_ids_first s bare linked) (λ a b h pair. kept_ids_closed s bare linked a b h (back a b pair))

  kept_reached : (ids : List ℕ) → IsReached pairs s.primary ids → (x : ℕ) → Kept s bare x → IsIn x ids
  kept_reached ids reached =
      each_kept (λ (n : ℕ). IsIn n ids) s bare reached.starts
      (λ a b h keeps. reached.closed a b h (in_permutation (keeping bare s.items) pairs moved (b, a) (keeps_pair s bare a b keeps)))

  pub reached_ids : (ids : List ℕ) → IsReached pairs s.primary ids → filter (is_among ids) (ids_of s.items) ≡ kept_ids bare s
  reached_ids ids reached =
      let all = ids_of s.items in
      let some = is_among ids in
      same_members 0 (filter some all) (kept_ids bare s) (filter_rises some 0 all linked.rises) (kept_ids_rise s bare linked)
      (λ x h. reached_kept ids reached x (among_in x ids (passes some all x h)))
      (λ x h.
      let kept = told_kept s bare x h in
      to_filter some all x (in_among x ids (kept_reached ids reached x kept)) (kept_there s bare linked x kept))
