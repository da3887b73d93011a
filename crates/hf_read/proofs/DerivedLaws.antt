-- The pairs of items with what they are made of, as a loop gathers them, and the first walk that never ends.
use Rattle.std.proofs.Common.{◌≡◌, ℕ, ◌+◌, ◌<◌, List, [], ◌∷◌, ◌++◌, length, map, take, get_or, Option, sym, ap, subst, ◌∙◌}
use Rattle.std.proofs.lemmas.List.{map_more, flat_map_more}
use Rattle.hf_base.specs.Members.{Rises}
use Rattle.hf_derived.specs.Cycle.{AreAmong, IsLeastCycle}
use Rattle.hf_derived.proofs.Cycles.{one_least}
use Rattle.hf_store.specs.Derived.{inputs, input_pairs}
use Rattle.hf_store.specs.Seen.{item_of, items_of}
use Rattle.hf_store.specs.Store.{Item as StatedItem}
use Rattle.hf_store.specs.declared.item.Item.{Item}
use Rattle.hf_read.specs.Walks.{first_walker}
use Rattle.hf_read.proofs.WalkLaws.{least_cycle}

-- the pairs of one item
abbrev pairs_with : StatedItem → List (ℕ × ℕ)
pairs_with i = map (λ (to : ℕ). (i.id, to)) (inputs i.refs)

pub pairs_more : (items : List Item) (k : ℕ) (item : Item) (pairs new : List (ℕ × ℕ)) → k < length items → item ≡ get_or items k item
    → pairs ≡ input_pairs (items_of (take k items)) → new ≡ pairs ++ pairs_with (item_of item) → new ≡ input_pairs (items_of (take (k + 1) items))
pairs_more items k item pairs new within here so_far added =
    let earlier = items_of (take k items) in
    let more : items_of (take (k + 1) items) ≡ earlier ++ item_of (get_or items k item) ∷ [] = map_more item_of items k item within in
    let all : items_of (take (k + 1) items) ≡ earlier ++ item_of item ∷ [] = more ∙ ap (λ (i : Item). earlier ++ item_of i ∷ []) (sym here) in
    let joined = ap (λ (l : List (ℕ × ℕ)). l ++ pairs_with (item_of item)) so_far in
    added ∙ joined ∙ flat_map_more pairs_with [] earlier (item_of item) ∙ ap input_pairs (sym all)

pub walker_is : (pairs all : List (ℕ × ℕ)) (ids : List ℕ) (id : Option ℕ) → pairs ≡ all → Rises ◌<◌ ids → AreAmong ids all → IsLeastCycle pairs id
    → id ≡ first_walker all ids
walker_is pairs all ids id same up among least =
    let is : IsLeastCycle all id = subst (λ (ps : List (ℕ × ℕ)). IsLeastCycle ps id) same least in
    one_least all id (first_walker all ids) is (least_cycle all ids up among)
