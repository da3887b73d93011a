-- Pairs that are gathered item by item.
use Rattle.std.proofs.Common.{◌≡◌, ℕ, ◌+◌, ◌<◌, Bool, not, ◌&&◌, cond, List, [], ◌∷◌, ◌++◌, append_assoc, length, map, take, get_or, sym, ap, ◌∙◌, Some}
use Rattle.std.specs.Prelude.{slice_get}
use Rattle.std.specs.List.{flat_map}
use Rattle.std.proofs.lemmas.List.{flat_map_more, take_more}
use Rattle.hf_links.specs.Kinds.{is_minor, is_need}
use Rattle.hf_store.specs.Store.{Item}
use Rattle.hf_store.specs.declared.item.RefList.{RefList}
use Rattle.hf_store.proofs.Spots.{at_or, within_at}
use Rattle.hf_deps.specs.Kept.{keeping, pairs_of}

abbrev needs_of : ℕ → RefList → List (ℕ × ℕ)
needs_of id r = cond (is_need r.kind) (map (λ to. (to, id)) r.to) []

abbrev minors_of : Bool → ℕ → RefList → List (ℕ × ℕ)
minors_of bare id r = cond (is_minor r.kind && not bare) (map (λ to. (id, to)) r.to) []

-- the references of one more type
pub list_more : (bare : Bool) (id : ℕ) (rs : List RefList) (k : ℕ) (r : RefList) (start old middle new : List (ℕ × ℕ)) → k < length rs → r ≡ get_or rs k r
    → old ≡ start ++ flat_map (pairs_of bare id) (take k rs) → middle ≡ old ++ needs_of id r → new ≡ middle ++ minors_of bare id r
    → new ≡ start ++ flat_map (pairs_of bare id) (take (k + 1) rs)
list_more bare id rs k r start old middle new less here so_far first second =
    let of = pairs_of bare id in
    let all : take k rs ++ r ∷ [] ≡ take (k + 1) rs = ap (λ (q : RefList). take k rs ++ q ∷ []) here ∙ sym (take_more rs k r less) in
    second
    ∙ ap (λ (l : List (ℕ × ℕ)). l ++ minors_of bare id r) first
    ∙ append_assoc old (needs_of id r) (minors_of bare id r)
    ∙ ap (λ (l : List (ℕ × ℕ)). l ++ of r) so_far
    ∙ flat_map_more of start (take k rs) r
    ∙ ap (λ (qs : List RefList). start ++ flat_map of qs) all

abbrev item_pairs : Bool → Item → List (ℕ × ℕ)
item_pairs bare i = flat_map (pairs_of bare i.id) i.refs

pub none_yet : (bare : Bool) (pairs : List (ℕ × ℕ)) → pairs ≡ [] → pairs ≡ keeping bare []
unfolding keeping
none_yet bare pairs none = none

-- those of one more item
pub item_more : (bare : Bool) (is : List Item) (k : ℕ) (i : Item) (old new : List (ℕ × ℕ)) → slice_get is k ≡ Some i → old ≡ keeping bare (take k is)
    → new ≡ old ++ flat_map (pairs_of bare i.id) i.refs → new ≡ keeping bare (take (k + 1) is)
unfolding keeping
item_more bare is k i old new here so_far more =
    let all : take k is ++ i ∷ [] ≡ take (k + 1) is = ap (λ (j : Item). take k is ++ j ∷ []) (sym (at_or is k i i here))
    ∙ sym (take_more is k i (within_at is k i here)) in
    more
    ∙ ap (λ (l : List (ℕ × ℕ)). l ++ item_pairs bare i) so_far
    ∙ flat_map_more (item_pairs bare) [] (take k is) i
    ∙ ap (flat_map (item_pairs bare)) all
