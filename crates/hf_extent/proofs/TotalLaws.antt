-- Totals that stop at a greatest number.
use Rattle.std.proofs.Common.{◌≡◌, ℕ, zero, suc, ◌+◌, ◌-◌, ◌<◌, ◌≤◌, ◌^◌, true, false, inl, inr, List, [], ◌∷◌, length, map, take, get_or, set, refl, sym, ap, subst, ◌∙◌, arith, Option, Some, None, Ok, Err, sum, min, get_or-set_same, get_or-set_other}
use Rattle.std.specs.Prelude.{◌==◌, slice_get, nat_lt, if◌then◌else◌}
use Rattle.std.proofs.lemmas.Bool.{cases_Bool, false≢true, eqb-true, cases_lt, lt-ltb, le-ltb}
use Rattle.std.proofs.lemmas.Bool.Decides.{nat_tests}
use Rattle.std.proofs.lemmas.List.Sums.{sum-map, sum_by_more, sum_by-cons}
use Rattle.std.specs.Option.{option_map, option_and_then}
use Rattle.std.proofs.lemmas.Option.{slice_get-map, get_or_from_slice_get}
use Rattle.hf_base.specs.declared.fault.ReadRefusal.{ReadRefusal}
use Rattle.hf_base.specs.declared.loc.Extent.{Extent}
use Rattle.hf_base.specs.Located.{Located, source_of}
use Rattle.hf_base.specs.Members.{IsIn}
use Rattle.hf_base.specs.Levels.{told}
use Rattle.hf_base.specs.BytesOf.{by_method}
use Rattle.hf_base.specs.Counts.{leaves_of, leaves_in, size_of, size_in, extent_size}
use Rattle.hf_base.specs.LocationFaults.{loc_cycle_fault, limited}
use Rattle.hf_base.proofs.LevelLaws.{leaves_are, size_is}
use Rattle.hf_base.proofs.BytesLaws.{not_endless}
use Rattle.hf_extent.specs.Places.{AreAt, place_of, links_from}
use Rattle.hf_order.specs.Order.{IsOrder}
use Rattle.hf_extent.specs.Known.{at_place, leaves_by, size_by, extent_by, stopped}
use Rattle.hf_extent.proofs.PlaceLaws.{length_at, source_found}
use Rattle.hf_extent.proofs.OrderLaws.{AreNamed, known_before, ends_in_order, in_before, slice_in}

-- one term more of a total that stops
pub total_more : {A : Type 0} (f : A → ℕ) (xs : List A) (i : ℕ) (d : A) (most total x next : ℕ) → total ≡ min (sum (map f (take i xs))) most → i < length xs
    → x ≡ f (get_or xs i d) → next ≡ min (total + x) most
    → next ≡ min (sum (map f (take (i + 1) xs))) most
total_more f xs i d most total x next so_far less e g =
    let more : sum (map f (take (i + 1) xs)) ≡ sum (map f (take i xs)) + f (get_or xs i d) =
    sum-map f (take (i + 1) xs) ∙ sum_by_more f xs i d less ∙ ap (λ n. n + f (get_or xs i d)) (sym (sum-map f (take i xs))) in
    omega (arith, so_far, e, g, more)

-- totals of terms that agree up to the greatest number agree up to it
pub totals_agree : {A : Type 0} (f g : A → ℕ) (most : ℕ) (xs : List A) → ((x : A) → IsIn x xs → min (f x) most ≡ min (g x) most)
    → min (sum (map f xs)) most ≡ min (sum (map g xs)) most
totals_agree f g most [] each = refl
totals_agree f g most (x ∷ xs) each =
    let first : min (f x) most ≡ min (g x) most = each x (inl refl) in
    let rest : min (sum (map f xs)) most ≡ min (sum (map g xs)) most = totals_agree f g most xs (λ y is. each y (inr is)) in
    let a : sum (map f (x ∷ xs)) ≡ f x + sum (map f xs) = sum_by-cons (λ n. n) (f x) (map f xs) in
    let b : sum (map g (x ∷ xs)) ≡ g x + sum (map g xs) = sum_by-cons (λ n. n) (g x) (map g xs) in
    omega (arith, first, rest, a, b)

-- ---- what is known at places

-- at each place that an order has so far stands the number of its item
pub record Knows (value : Located → ℕ) (items : List Located) (order counts : List ℕ) : Type 0 where
  pub known : (k : ℕ) (r : Located) → IsIn k order → slice_get items k ≡ Some r → get_or counts k 0 ≡ value r

pub knows_none : (value : Located → ℕ) (items : List Located) (counts : List ℕ) → Knows value items [] counts
knows_none value items counts = record { known = λ k r is at. absurd is }

same_item : (a b : Located) → Some a ≡ Some b → a ≡ b
same_item a b e = cc

same_test : (a b : ℕ) → a ≡ b → (a == b) ≡ true
same_test a b e = grind (arith, nat_tests)

pub knows_more : (value : Located → ℕ) (items : List Located) (order counts : List ℕ) (i : ℕ) (x : ℕ) (now : Located)
    → Knows value items (take i order) counts → i < length order → get_or order i 0 < length counts
    → slice_get items (get_or order i 0) ≡ Some now → x ≡ value now → Knows value items (take (i + 1) order) (set counts (get_or order i 0) x)
knows_more value items order counts i x now knows less within at is = record {
  known = λ k r has there. elim (cases_Bool (k == get_or order i 0)) [
    | inl same ↦ (
        let e : k ≡ get_or order i 0 = eqb-true k (get_or order i 0) same in
        let f : now ≡ r = same_item now r (sym at ∙ ap (slice_get items) (sym e) ∙ there) in
        ap (λ n. get_or (set counts (get_or order i 0) x) n 0) e ∙ get_or-set_same counts (get_or order i 0) x 0 within ∙ is ∙ ap value f
        )
    | inr other ↦ (
        let before = in_before order i k less has (λ e. false≢true (sym other ∙ same_test k (get_or order i 0) (sym e))) in
        get_or-set_other counts (get_or order i 0) k x 0 (λ e. false≢true (sym other ∙ same_test k (get_or order i 0) e)) ∙ knows.known k r before there
        )
  ];
}

in_item_agree : (most method a b x y : ℕ) → ((method == 2) ≡ true → min x most ≡ min y most)
    → min (by_method method a b x) most ≡ min (by_method method a b y) most
in_item_agree most method a b x y agree = elim (cases_Bool (method == 2)) [
  | inl two ↦ rw two (agree two)
  | inr other ↦ rw other refl
]

-- the number of the item that an extent takes its bytes from is known
source_known : (most : ℕ) (value : Located → ℕ) (ids : List ℕ) (items : List Located) (order counts : List ℕ) → AreNamed ids items
    → IsOrder (length ids) (links_from ids 0 items) order → (i : ℕ) (r : Located) (e : Extent) → i < length order → slice_get items (get_or order i 0) ≡ Some r
    → Knows (λ s. min (value s) most) items (take i order) counts → IsIn e r.extents → (r.method == 2) ≡ true
    → min (at_place counts (place_of ids r e)) most ≡ min (told 0 value (source_of items r e)) most
source_known most value ids items order counts named ordered i r e less at knows is two =
    let s = known_before ids items order named ordered i r e less at two is in
    let here : get_or counts s.0 0 ≡ min (value s.1) most = knows.known s.0 s.1 s.5 s.3 in
    let a : at_place counts (place_of ids r e) ≡ get_or counts s.0 0 = ap (at_place counts) s.2 in
    let b : told 0 value (source_of items r e) ≡ value s.1 = ap (told 0 value) s.4 in
    omega (arith, here, a, b)

pub leaves_known : (most : ℕ) (ids : List ℕ) (items : List Located) (order counts : List ℕ) → AreNamed ids items
    → IsOrder (length ids) (links_from ids 0 items) order → loc_cycle_fault items ≡ Ok tt → (i : ℕ) (r : Located) → i < length order
    → slice_get items (get_or order i 0) ≡ Some r
    → Knows (λ s. min (leaves_of items s) most) items (take i order) counts → min (leaves_by ids counts r) most ≡ min (leaves_of items r) most
leaves_known most ids items order counts named ordered ending i r less at knows =
    let all : min (leaves_by ids counts r) most ≡ min (leaves_in items (leaves_of items) r) most =
    totals_agree (λ (e : Extent). by_method r.method 1 1 (at_place counts (place_of ids r e))) (λ (e : Extent). by_method r.method 1 1 (told 0 (leaves_of items) (source_of items r e))) most r.extents
    (λ e is. in_item_agree most r.method 1 1 _ _ (λ two. source_known most (leaves_of items) ids items order counts named ordered i r e less at knows is two))
    in
    all ∙ ap (λ n. min n most) (sym (leaves_are items r (not_endless items r ending (slice_in items (get_or order i 0) r at))))

stated_agree : (most : ℕ) (e : Extent) (x y : ℕ) → min x most ≡ min y most
    → min (if e.length == 0 then x else e.length) most ≡ min (if e.length == 0 then y else e.length) most
stated_agree most e x y agree = elim (cases_Bool (e.length == 0)) [
  | inl whole ↦ rw whole agree
  | inr part ↦ rw part refl
]

pub size_known : (most len inner : ℕ) (ids : List ℕ) (items : List Located) (order counts : List ℕ) → AreNamed ids items
    → IsOrder (length ids) (links_from ids 0 items) order → loc_cycle_fault items ≡ Ok tt → (i : ℕ) (r : Located) → i < length order
    → slice_get items (get_or order i 0) ≡ Some r
    → Knows (λ s. min (size_of len inner items s) most) items (take i order) counts
    → min (size_by len inner ids counts r) most ≡ min (size_of len inner items r) most
size_known most len inner ids items order counts named ordered ending i r less at knows =
    let all : min (size_by len inner ids counts r) most ≡ min (size_in len inner items (size_of len inner items) r) most =
    totals_agree (extent_by len inner ids counts r) (extent_size len inner items (size_of len inner items) r) most r.extents
    (λ e is. stated_agree most e _ _ (in_item_agree most r.method len inner _ _ (λ two. source_known most (size_of len inner items) ids items order counts named ordered i r e less at knows is two)))
    in
    all ∙ ap (λ n. min n most) (sym (size_is len inner items r (not_endless items r ending (slice_in items (get_or order i 0) r at))))

-- where unfolding ends at each item, all numbers are known
all_known : (f : Located → ℕ) (items : List Located) (counts : List ℕ) → length counts ≡ length items
    → ((k : ℕ) (r : Located) → slice_get items k ≡ Some r → get_or counts k 0 ≡ f r) → counts ≡ map f items
all_known f [] [] same each = refl
all_known f [] (c ∷ cs) same each = absurd (omega arith)
all_known f (r ∷ rs) [] same each = absurd (omega arith)
all_known f (r ∷ rs) (c ∷ cs) same each =
    ap (λ n. n ∷ cs) (each zero r refl) ∙ ap (λ (ns : List ℕ). f r ∷ ns) (all_known f rs cs (omega arith) (λ k s at. each (suc k) s at))

whole_list : (xs : List ℕ) (n : ℕ) → length xs ≤ n → take n xs ≡ xs
whole_list [] zero all = refl
whole_list [] (suc n) all = refl
whole_list (x ∷ xs) zero all = absurd (omega arith)
whole_list (x ∷ xs) (suc n) all = ap (λ (l : List ℕ). x ∷ l) (whole_list xs n (omega arith))

pub knows_all : (value : Located → ℕ) (ids : List ℕ) (items : List Located) (order counts : List ℕ) (n : ℕ) → AreNamed ids items
    → IsOrder (length ids) (links_from ids 0 items) order → loc_cycle_fault items ≡ Ok tt → length order ≤ n → length counts ≡ length ids
    → Knows value items (take n order) counts → counts ≡ map value items
knows_all value ids items order counts n named ordered ending all count knows =
    all_known value items counts (count ∙ sym (length_at ids items named.at))
    (λ k r at.
    let has = ends_in_order ids items order named ordered k r at (not_endless items r ending (slice_in items k r at)) in
    knows.known k r (subst (λ (l : List ℕ). IsIn k l) (sym (whole_list order n all)) has) at)

-- ---- limits

-- a total over its limit, and one within it, that are known only as far as the greatest number
pub limited_over : (limit total n : ℕ) (why : ℕ → ReadRefusal) → n ≡ min total (2 ^ 64 - 1) → limit < n → limited limit why total ≡ Err (why n)
limited_over limit total n why e over =
    let t : nat_lt limit total ≡ true = lt-ltb limit total (omega arith) in
    rw (t, e) refl

pub limited_within : (limit total n : ℕ) (why : ℕ → ReadRefusal) → n ≡ min total (2 ^ 64 - 1) → n ≤ limit → limit < 2 ^ 64 - 1 → limited limit why total ≡ Ok tt
limited_within limit total n why e few small =
    let t : nat_lt limit total ≡ false = le-ltb limit total (omega arith) in
    rw t refl

-- the total of numbers that stop, as that of the numbers themselves
pub totals_stop : (f : Located → ℕ) (most : ℕ) (items : List Located)
    → min (sum (map (λ (r : Located). min (f r) most) items)) most ≡ min (sum (map f items)) most
totals_stop f most items = totals_agree (λ (r : Located). min (f r) most) f most items (λ r is. omega arith)

pub counted : (f : Located → ℕ) (most : ℕ) (items : List Located) (counts : List ℕ) (total : ℕ) → counts ≡ map (λ (r : Located). min (f r) most) items
    → total ≡ min (sum counts) most → total ≡ min (sum (map f items)) most
counted f most items counts total are e = e ∙ ap (λ (l : List ℕ). min (sum l) most) are ∙ totals_stop f most items

-- the sum so far of numbers, which stops
pub sum_more : (xs : List ℕ) (i : ℕ) (most total x next : ℕ) → total ≡ min (sum (take i xs)) most → i < length xs → x ≡ get_or xs i 0
    → next ≡ min (total + x) most → next ≡ min (sum (take (i + 1) xs)) most
sum_more xs i most total x next so_far less e g =
    let more : sum (take (i + 1) xs) ≡ sum (take i xs) + get_or xs i 0 = sum_by_more (λ n. n) xs i 0 less in
    omega (arith, so_far, e, g, more)

pub whole_sum : (xs : List ℕ) (n most total : ℕ) → total ≡ min (sum (take n xs)) most → length xs ≤ n → total ≡ min (sum xs) most
whole_sum xs n most total e all = e ∙ ap (λ (l : List ℕ). min (sum l) most) (whole_list xs n all)

-- ---- the ends of other items

pub passes_stopped : (most size end : ℕ) → end ≤ most → nat_lt (min size most) end ≡ nat_lt size end
passes_stopped most size end small = elim (cases_lt size end) [
  | inl over ↦ (let a : nat_lt (min size most) end ≡ true = lt-ltb _ _ (omega arith) in let b : nat_lt size end ≡ true = lt-ltb _ _ over in a ∙ sym b)
  | inr within ↦ (let a : nat_lt (min size most) end ≡ false = le-ltb _ _ (omega arith) in let b : nat_lt size end ≡ false = le-ltb _ _ within in a ∙ sym b)
]

item_there : (items : List Located) (k : ℕ) → k < length items → (r : Located) × (slice_get items k ≡ Some r)
item_there [] k less = absurd (omega arith)
item_there (x ∷ xs) zero less = (x, refl)
item_there (x ∷ xs) (suc k) less = item_there xs k (omega arith)

-- the size at a place
pub size_at : (len inner : ℕ) (ids : List ℕ) (items : List Located) (r : Located) (e : Extent) (sizes : List ℕ) (k : ℕ) → AreAt ids items
    → sizes ≡ stopped len inner items → place_of ids r e ≡ Some k → k < length ids
    → get_or sizes k 0 ≡ min (told 0 (size_of len inner items) (source_of items r e)) (2 ^ 128 - 1)
size_at len inner ids items r e sizes k at are place within =
    let s = item_there items k (omega (arith, length_at ids items at)) in
    let source : source_of items r e ≡ Some s.0 = source_found ids items r e at ∙ ap (option_and_then (slice_get items)) place ∙ s.1 in
    let here : slice_get sizes k ≡ Some (min (size_of len inner items s.0) (2 ^ 128 - 1)) = ap (λ (l : List ℕ). slice_get l k) are
    ∙ slice_get-map (λ (x : Located). min (size_of len inner items x) (2 ^ 128 - 1)) items k
    ∙ ap (option_map (λ (x : Located). min (size_of len inner items x) (2 ^ 128 - 1))) s.1 in
    get_or_from_slice_get sizes k _ 0 here ∙ ap (λ (o : Option Located). min (told 0 (size_of len inner items) o) (2 ^ 128 - 1)) (sym source)

-- no place, no source
pub no_source : (ids : List ℕ) (items : List Located) (r : Located) (e : Extent) → AreAt ids items → place_of ids r e ≡ None → source_of items r e ≡ None
no_source ids items r e at place = source_found ids items r e at ∙ ap (option_and_then (slice_get items)) place
