-- The bytes of all items, counted item by item.
use Rattle.std.proofs.Common.{◌≡◌, ◌+◌, List, ◌∷◌, length}
use Rattle.std.proofs.lemmas.List.Sums.{sum_by-cons}
use Rattle.hf_store.specs.Store.{Item}
use Rattle.hf_store.specs.Valid.{body_sum}

pub body_sum-cons : (i : Item) (is : List Item) → body_sum (i ∷ is) ≡ length i.bytes + body_sum is
unfolding body_sum
body_sum-cons i is = sum_by-cons (λ (j : Item). length j.bytes) i is
