-- What the order tells of the items in the code.
use Rattle.std.proofs.Common.{◌≡◌, ℕ, ◌<◌, ◌≤◌, true, false, List, length, get_or, refl, ap, ◌∙◌, arith, Some}
use Rattle.std.specs.Prelude.{slice_get, nat_lt}
use Rattle.std.proofs.lemmas.Bool.{ltb-false, ltb-true}
use Rattle.std.specs.Option.{option_map}
use Rattle.std.proofs.lemmas.Option.{slice_get_read, slice_get-map}
use Rattle.hf_base.specs.Counts.{ends}
use Rattle.hf_extent.specs.declared.items.Located.{Located}
use Rattle.hf_extent.specs.Seen.{item_seen, items_seen}
use Rattle.hf_extent.specs.Places.{links_from}
use Rattle.hf_order.specs.Order.{IsOrder, IsLeft}
use Rattle.hf_extent.proofs.PlaceLaws.{length_at}
use Rattle.hf_extent.proofs.OrderLaws.{AreNamed, in_order, out_of_order}
use Rattle.std.proofs.lemmas.List.{length-map}

pub seen_at : (items : List Located) (i : ℕ) (x : Located) → i < length items → x ≡ get_or items i x → slice_get (items_seen items) i ≡ Some (item_seen x)
seen_at items i x less is = slice_get-map item_seen items i ∙ ap (option_map item_seen) (slice_get_read items (length items) i x refl less is)

-- what is left for the place of an item is 0 exactly where unfolding ends
pub left_ends : (ids : List ℕ) (items : List Located) (order left : List ℕ) (i : ℕ) (x : Located) → AreNamed ids (items_seen items)
    → IsOrder (length ids) (links_from ids 0 (items_seen items)) order
    → IsLeft (length ids) left order → i < length items → x ≡ get_or items i x → nat_lt 0 (get_or left i 0) ≡ false
    → ends (items_seen items) (item_seen x) ≡ true
left_ends ids items order left i x named ordered is_left less is none =
    let within : i < length ids = omega (arith, length_at ids (items_seen items) named.at, length-map items item_seen) in
    let few : get_or left i 0 ≤ 0 = ltb-false _ _ none in
    in_order ids (items_seen items) order named ordered i (item_seen x) (seen_at items i x less is) ((is_left.zero i within).1 (omega arith))

pub left_endless : (ids : List ℕ) (items : List Located) (order left : List ℕ) (i : ℕ) (x : Located) → AreNamed ids (items_seen items)
    → IsOrder (length ids) (links_from ids 0 (items_seen items)) order
    → IsLeft (length ids) left order → i < length items → x ≡ get_or items i x → nat_lt 0 (get_or left i 0) ≡ true
    → ends (items_seen items) (item_seen x) ≡ false
left_endless ids items order left i x named ordered is_left less is some =
    let within : i < length ids = omega (arith, length_at ids (items_seen items) named.at, length-map items item_seen) in
    let more : 0 < get_or left i 0 = ltb-true _ _ some in
    out_of_order ids (items_seen items) order named ordered i (item_seen x) (seen_at items i x less is) (λ is_in. let zero = (is_left.zero i within).0 is_in in omega arith)
