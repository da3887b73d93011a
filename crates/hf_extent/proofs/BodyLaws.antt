-- The bytes of items are gathered extent by extent, in an order of the items.
use Rattle.std.proofs.Common.{◌≡◌, ℕ, zero, suc, ◌+◌, ◌<◌, ◌≤◌, ◌^◌, true, inl, inr, List, [], ◌∷◌, ◌++◌, length, map, take, get_or, set, refl, sym, ap, subst, ◌∙◌, arith, Option, Some, None, Ok, sum, append_assoc, length-append}
use Rattle.std.specs.Prelude.{◌==◌, slice_get, nat_lt, IsSome}
use Rattle.std.specs.Option.{option_map, option_and_then, ForSome}
use Rattle.std.proofs.lemmas.Bool.{cases_Bool, false≢true, eqb-true, lt-ltb, cases_lt}
use Rattle.std.proofs.lemmas.Bool.Decides.{nat_tests}
use Rattle.std.proofs.lemmas.List.{append-nil}
use Rattle.std.proofs.lemmas.List.Sums.{sum_by-cons}
use Rattle.hf_base.specs.declared.limits.TheConstants.{BODY}
use Rattle.hf_base.specs.declared.fault.ReadRefusal.TheVariants.{TooManyBytes}
use Rattle.std.proofs.lemmas.Option.{slice_get-map, slice_get_read}
use Rattle.hf_pieces.specs.Bytes.{joined}
use Rattle.hf_base.specs.declared.loc.Extent.{Extent}
use Rattle.hf_base.specs.Located.{Located}
use Rattle.hf_base.specs.Members.{IsIn}
use Rattle.hf_base.specs.Levels.{told}
use Rattle.hf_base.specs.BytesOf.{piece_of, piece_in, bytes_of, joined_pieces}
use Rattle.hf_base.specs.Counts.{size_of, inner_size}
use Rattle.hf_base.specs.LocationFaults.{locations_fault, too_many_bytes_fault, limited}
use Rattle.hf_base.proofs.LevelLaws.{map_same, bytes_are, in_item_same}
use Rattle.hf_base.proofs.FaultLaws.{parts_fine}
use Rattle.hf_base.proofs.BytesLaws.{bytes_there, not_endless}
use Rattle.hf_extent.specs.Places.{AreAt, links_from, place_of}
use Rattle.hf_order.specs.Order.{IsOrder}
use Rattle.hf_extent.specs.Known.{piece_by, bytes_by}
use Rattle.hf_extent.proofs.PlaceLaws.{length_at}
use Rattle.hf_extent.proofs.OrderLaws.{AreNamed, known_before, ends_in_order, in_before, slice_in}

-- ---- one extent more

later_part : (q b : List ℕ) (o : Option (List ℕ)) → option_map (λ (rest : List ℕ). q ++ rest) o ≡ Some b → (r : List ℕ) × (o ≡ Some r) × (q ++ r ≡ b)
later_part q b None e = absurd (cc)
later_part q b (Some r) e = (r, refl, cc)

first_part : (o : Option (List ℕ)) (ps : List (Option (List ℕ))) (b : List ℕ) → joined_pieces (o ∷ ps) ≡ Some b
    → (q : List ℕ) × (r : List ℕ) × (o ≡ Some q) × (joined_pieces ps ≡ Some r) × (q ++ r ≡ b)
first_part None ps b e = absurd (cc)
first_part (Some q) ps b e = let rest = later_part q b (joined_pieces ps) e in (q, rest.0, refl, rest.1, rest.2)

with_first : (o : Option (List ℕ)) (ps : List (Option (List ℕ))) (q r : List ℕ) → o ≡ Some q → joined_pieces ps ≡ Some r
    → joined_pieces (o ∷ ps) ≡ Some (q ++ r)
with_first o ps q r e f = rw (e, f) refl

same_list : (a b : List ℕ) → Some a ≡ Some b → a ≡ b
same_list a b e = cc

pub joined_step : (f : Extent → Option (List ℕ)) (es : List Extent) (i : ℕ) (d : Extent) (b front : List ℕ) → joined_pieces (map f es) ≡ Some b
    → i < length es → joined_pieces (map f (take i es)) ≡ Some front
    → (p : List ℕ) × (f (get_or es i d) ≡ Some p) × (joined_pieces (map f (take (i + 1) es)) ≡ Some (front ++ p)) × (length front + length p ≤ length b)
joined_step f [] i d b front whole less so_far = absurd (omega arith)
joined_step f (e ∷ es) zero d b front whole less so_far =
    let w = first_part (f e) (map f es) b whole in
    let none : [] ≡ front = cc in
    let joined : joined_pieces (map f (e ∷ [])) ≡ Some (w.0 ++ []) = with_first (f e) [] w.0 [] w.2 refl in
    (w.0, w.2, joined ∙ ap (λ (l : List ℕ). Some l) (append-nil w.0 ∙ ap (λ (l : List ℕ). l ++ w.0) none), omega (arith, ap length none, ap length w.4, length-append w.0 w.1))
joined_step f (e ∷ es) (suc i) d b front whole less so_far =
    let w = first_part (f e) (map f es) b whole in
    let s = first_part (f e) (map f (take i es)) front so_far in
    let same : s.0 ≡ w.0 = same_list s.0 w.0 (sym s.2 ∙ w.2) in
    let rest = joined_step f es i d w.1 s.1 w.3 (omega arith) s.3 in
    let z : suc i + 1 ≡ suc (i + 1) = omega arith in
    let joined : joined_pieces (map f (e ∷ take (i + 1) es)) ≡ Some (s.0 ++ (s.1 ++ rest.0)) =
    with_first (f e) (map f (take (i + 1) es)) s.0 (s.1 ++ rest.0) s.2 rest.2 in (
      rest.0,
      rest.1,
      rw z (joined ∙ ap (λ (l : List ℕ). Some l) (sym (append_assoc s.0 s.1 rest.0) ∙ ap (λ (l : List ℕ). l ++ rest.0) s.4)),
      omega (arith, rest.3, ap length s.4, length-append s.0 s.1, ap length w.4, length-append w.0 w.1, ap length same),
    )

-- what the next extent asks of the pieces so far
pub piece_there : (f : Extent → Option (List ℕ)) (es : List Extent) (i : ℕ) (d : Extent) (front : List ℕ) (o : Option (List ℕ))
    → joined_pieces (map f es) ≡ o → IsSome o → i < length es → joined_pieces (map f (take i es)) ≡ Some front → IsSome (f (get_or es i d))
piece_there f es i d front None e some less so_far = absurd (false≢true some)
piece_there f es i d front (Some b) e some less so_far = let s = joined_step f es i d b front e less so_far in rw s.1 refl

pub piece_room : (f : Extent → Option (List ℕ)) (es : List Extent) (i : ℕ) (d : Extent) (front : List ℕ) (o : Option (List ℕ)) (most : ℕ)
    → joined_pieces (map f es) ≡ o → IsSome o → ForSome o (λ b. length b ≤ most) → i < length es → joined_pieces (map f (take i es)) ≡ Some front
    → ForSome (f (get_or es i d)) (λ p. length front + length p ≤ most)
piece_room f es i d front None most e some fits less so_far = absurd (false≢true some)
piece_room f es i d front (Some b) most e some fits less so_far =
    let s = joined_step f es i d b front e less so_far in
    let fits_b : length b ≤ most = fits b refl in
    λ p found. let same : s.0 ≡ p = same_list s.0 p (sym s.1 ∙ found) in omega (arith, s.3, fits_b, ap length same)

pub pieces_more : (f : Extent → Option (List ℕ)) (es : List Extent) (i : ℕ) (d : Extent) (front next : List ℕ) (o : Option (List ℕ))
    → joined_pieces (map f es) ≡ o → IsSome o → i < length es → joined_pieces (map f (take i es)) ≡ Some front
    → ((p : List ℕ) → f (get_or es i d) ≡ Some p → next ≡ front ++ p) → joined_pieces (map f (take (i + 1) es)) ≡ Some next
pieces_more f es i d front next None e some less so_far added = absurd (false≢true some)
pieces_more f es i d front next (Some b) e some less so_far added =
    let s = joined_step f es i d b front e less so_far in
    s.2 ∙ ap (λ (l : List ℕ). Some l) (sym (added s.0 s.1))

-- ---- one item more

-- at each place that an order has so far stand the bytes of its item
pub record KnowsBytes (value : Located → Option (List ℕ)) (items : List Located) (order : List ℕ) (bodies : List (List ℕ)) : Type 0 where
  pub known : (k : ℕ) (r : Located) → IsIn k order → slice_get items k ≡ Some r → slice_get bodies k ≡ value r

pub body_known : (F : List ℕ) (idat : Option (List ℕ)) (ids : List ℕ) (items : List Located) (order : List ℕ) (bodies : List (List ℕ)) → AreNamed ids items
    → IsOrder (length ids) (links_from ids 0 items) order → locations_fault F idat items ≡ Ok tt → (i : ℕ) (r : Located) → i < length order
    → slice_get items (get_or order i 0) ≡ Some r
    → KnowsBytes (bytes_of F idat items) items (take i order) bodies → bytes_by F idat ids bodies r ≡ bytes_of F idat items r
body_known F idat ids items order bodies named ordered fine i r less at knows =
    ap joined_pieces (map_same (piece_by F idat ids bodies r) (piece_in F idat items (bytes_of F idat items) r) r.extents
    (λ e is. ap (λ (o : Option (List ℕ)). piece_of r.base e o) (in_item_same r.method (Some F) idat _ _ (λ two.
    let s = known_before ids items order named ordered i r e less at two is in
    ap (λ (o : Option ℕ). option_and_then (slice_get bodies) o) s.2 ∙ knows.known s.0 s.1 s.5 s.3 ∙ sym (ap (told None (bytes_of F idat items)) s.4)))))
    ∙ sym (bytes_are F idat items r (not_endless items r (parts_fine F idat items fine).ending (slice_in items (get_or order i 0) r at)))

member_sum : (f : Located → ℕ) (items : List Located) (r : Located) → IsIn r items → f r ≤ sum (map f items)
member_sum f [] r is = absurd is
member_sum f (x ∷ xs) r (inl same) = omega (arith, ap f same, sum_by-cons (λ n. n) (f x) (map f xs))
member_sum f (x ∷ xs) r (inr is) = omega (arith, member_sum f xs r is, sum_by-cons (λ n. n) (f x) (map f xs))

within_limit : (limit total : ℕ) → limited limit (λ n. TooManyBytes n) total ≡ Ok tt → total ≤ limit
within_limit limit total fine = elim (cases_lt limit total) [
  | inl over ↦ (let t : nat_lt limit total ≡ true = lt-ltb limit total over in let e = rw t at fine in absurd (cc))
  | inr within ↦ within
]

pub small_item : (F : List ℕ) (idat : Option (List ℕ)) (items : List Located) (r : Located) → locations_fault F idat items ≡ Ok tt → IsIn r items
    → size_of (length F) (inner_size idat) items r ≤ BODY
unfolding too_many_bytes_fault
small_item F idat items r fine is =
    let all : sum (map (size_of (length F) (inner_size idat) items) items) ≤ BODY = within_limit BODY _ (parts_fine F idat items fine).small in
    omega (arith, member_sum (size_of (length F) (inner_size idat) items) items r is, all)

some_is : (o : Option (List ℕ)) (b : List ℕ) → o ≡ Some b → IsSome o
some_is o b e = rw e refl

room_is : (o : Option (List ℕ)) (b : List ℕ) (most : ℕ) → o ≡ Some b → length b ≤ most → ForSome o (λ x. length x ≤ most)
room_is o b most e few = λ x f. let same : b ≡ x = same_list b x (sym e ∙ f) in omega (arith, few, ap length same)

pub body_there : (F : List ℕ) (idat : Option (List ℕ)) (ids : List ℕ) (items : List Located) (order : List ℕ) (bodies : List (List ℕ)) → AreNamed ids items
    → IsOrder (length ids) (links_from ids 0 items) order → locations_fault F idat items ≡ Ok tt → (i : ℕ) (r : Located) → i < length order
    → slice_get items (get_or order i 0) ≡ Some r
    → KnowsBytes (bytes_of F idat items) items (take i order) bodies
    → IsSome (bytes_by F idat ids bodies r) × ForSome (bytes_by F idat ids bodies r) (λ b. length b ≤ 2 ^ 62)
body_there F idat ids items order bodies named ordered fine i r less at knows =
    let is = slice_in items (get_or order i 0) r at in
    let b = bytes_there F idat items r fine is in
    let e : bytes_by F idat ids bodies r ≡ Some b.0 = body_known F idat ids items order bodies named ordered fine i r less at knows ∙ b.1 in
    (some_is _ b.0 e, room_is _ b.0 (2 ^ 62) e (omega (arith, b.2, small_item F idat items r fine is)))

-- the bytes of the item that an extent names
pub body_at : (ids : List ℕ) (bodies : List (List (List ℕ))) (r : Located) (e : Extent) (k : ℕ) (made : List (List ℕ)) → place_of ids r e ≡ Some k
    → k < length bodies → made ≡ get_or bodies k made → option_and_then (slice_get (map joined bodies)) (place_of ids r e) ≡ Some (joined made)
body_at ids bodies r e k made place less is =
    ap (option_and_then (slice_get (map joined bodies))) place ∙ slice_get-map joined bodies k
    ∙ ap (option_map joined) (slice_get_read bodies (length bodies) k made refl less is)

-- ---- one item more in the list

set_here : {A : Type 0} (xs : List A) (j : ℕ) (v : A) → j < length xs → slice_get (set xs j v) j ≡ Some v
set_here [] j v less = absurd (omega arith)
set_here (x ∷ xs) zero v less = refl
set_here (x ∷ xs) (suc j) v less = set_here xs j v (omega arith)

set_elsewhere : {A : Type 0} (xs : List A) (j k : ℕ) (v : A) → (k ≡ j → ⊥) → slice_get (set xs j v) k ≡ slice_get xs k
set_elsewhere [] zero k v other = refl
set_elsewhere [] (suc j) k v other = refl
set_elsewhere (x ∷ xs) zero zero v other = absurd (other refl)
set_elsewhere (x ∷ xs) zero (suc k) v other = refl
set_elsewhere (x ∷ xs) (suc j) zero v other = refl
set_elsewhere (x ∷ xs) (suc j) (suc k) v other = set_elsewhere xs j k v (λ e. other (ap (λ (n : ℕ). suc n) e))

same_test : (a b : ℕ) → a ≡ b → (a == b) ≡ true
same_test a b e = grind (arith, nat_tests)

same_item : (a b : Located) → Some a ≡ Some b → a ≡ b
same_item a b e = cc

pub bytes_more : (value : Located → Option (List ℕ)) (items : List Located) (order : List ℕ) (bodies : List (List (List ℕ))) (i : ℕ) (made : List (List ℕ)) (now : Located) → KnowsBytes value items (take i order) (map joined bodies) → i < length order → get_or order i 0 < length bodies
    → slice_get items (get_or order i 0) ≡ Some now → value now ≡ Some (joined made)
    → KnowsBytes value items (take (i + 1) order) (map joined (set bodies (get_or order i 0) made))
bytes_more value items order bodies i made now knows less within at is = record {
  known = λ k r has there. elim (cases_Bool (k == get_or order i 0)) [
    | inl same ↦ (
        let e : k ≡ get_or order i 0 = eqb-true k (get_or order i 0) same in
        let f : now ≡ r = same_item now r (sym at ∙ ap (slice_get items) (sym e) ∙ there) in
        ap (slice_get (map joined (set bodies (get_or order i 0) made))) e
        ∙ slice_get-map joined (set bodies (get_or order i 0) made) (get_or order i 0)
        ∙ ap (option_map joined) (set_here bodies (get_or order i 0) made within) ∙ sym is ∙ ap value f
        )
    | inr other ↦ (
        let before = in_before order i k less has (λ e. false≢true (sym other ∙ same_test k (get_or order i 0) (sym e))) in
        slice_get-map joined (set bodies (get_or order i 0) made) k
        ∙ ap (option_map joined) (set_elsewhere bodies (get_or order i 0) k made (λ e. false≢true (sym other ∙ same_test k (get_or order i 0) e)))
        ∙ sym (slice_get-map joined bodies k) ∙ knows.known k r before there
        )
  ];
}

all_known : (value : Located → Option (List ℕ)) (items : List Located) (bodies : List (List (List ℕ))) → length bodies ≡ length items
    → ((k : ℕ) (r : Located) → slice_get items k ≡ Some r → slice_get (map joined bodies) k ≡ value r)
    → map value items ≡ map (λ (p : List (List ℕ)). Some (joined p)) bodies
all_known value [] [] same each = refl
all_known value [] (b ∷ bs) same each = absurd (omega arith)
all_known value (r ∷ rs) [] same each = absurd (omega arith)
all_known value (r ∷ rs) (b ∷ bs) same each =
    ap (λ (o : Option (List ℕ)). o ∷ map value rs) (sym (each zero r refl))
    ∙ ap (λ (os : List (Option (List ℕ))). Some (joined b) ∷ os) (all_known value rs bs (omega arith) (λ k s at. each (suc k) s at))

whole_list : (xs : List ℕ) (n : ℕ) → length xs ≤ n → take n xs ≡ xs
whole_list [] zero all = refl
whole_list [] (suc n) all = refl
whole_list (x ∷ xs) zero all = absurd (omega arith)
whole_list (x ∷ xs) (suc n) all = ap (λ (l : List ℕ). x ∷ l) (whole_list xs n (omega arith))

pub bytes_all : (F : List ℕ) (idat : Option (List ℕ)) (ids : List ℕ) (items : List Located) (order : List ℕ) (bodies : List (List (List ℕ))) (n : ℕ)
    → AreNamed ids items → IsOrder (length ids) (links_from ids 0 items) order → locations_fault F idat items ≡ Ok tt → length order ≤ n
    → length bodies ≡ length ids
    → KnowsBytes (bytes_of F idat items) items (take n order) (map joined bodies)
    → map (bytes_of F idat items) items ≡ map (λ (p : List (List ℕ)). Some (joined p)) bodies
bytes_all F idat ids items order bodies n named ordered fine all count knows =
    all_known (bytes_of F idat items) items bodies (count ∙ sym (length_at ids items named.at))
    (λ k r at.
    let has = ends_in_order ids items order named ordered k r at (not_endless items r (parts_fine F idat items fine).ending (slice_in items k r at)) in
    knows.known k r (subst (λ (l : List ℕ). IsIn k l) (sym (whole_list order n all)) has) at)

pub bytes_none : (value : Located → Option (List ℕ)) (items : List Located) (bodies : List (List ℕ)) → KnowsBytes value items [] bodies
bytes_none value items bodies = record { known = λ k r is at. absurd is }

pub named_items : (F : List ℕ) (idat : Option (List ℕ)) (ids : List ℕ) (items : List Located) → AreAt ids items → locations_fault F idat items ≡ Ok tt
    → AreNamed ids items
named_items F idat ids items at fine = record { at = at; named = (parts_fine F idat items fine).named }
