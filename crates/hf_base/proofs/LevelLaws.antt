-- What is told of an item does not depend on the number of levels, once unfolding has ended.
use Rattle.std.proofs.Common.{◌≡◌, ℕ, zero, suc, ◌<◌, ◌≤◌, Bool, true, false, ◌&&◌, inl, inr, List, [], ◌∷◌, length, map, get_or, refl, sym, ap, ◌∙◌, arith, Option, Some, None, sum}
use Rattle.std.specs.Prelude.{◌==◌, if◌then◌else◌}
use Rattle.std.specs.List.{list_all}
use Rattle.std.proofs.lemmas.Bool.{cases_Bool, and_parts, and_from, false≢true}
use Rattle.hf_base.specs.declared.loc.Extent.{Extent}
use Rattle.hf_base.specs.Located.{Located, source_of}
use Rattle.hf_base.specs.Members.{IsIn}
use Rattle.hf_base.specs.Levels.{over, by_levels, told}
use Rattle.hf_base.specs.BytesOf.{by_method, piece_in, bytes_in, bytes_of, joined_pieces, piece_of}
use Rattle.hf_base.specs.Counts.{ends_in, ends, leaves_in, leaves_of, extent_size, size_in, size_of}

-- ---- lists

pub map_same : {A B : Type 0} (f g : A → B) (xs : List A) → ((x : A) → IsIn x xs → f x ≡ g x) → map f xs ≡ map g xs
map_same {B = B} f g [] same = refl
map_same {B = B} f g (x ∷ xs) same = ap (λ (b : B). b ∷ map f xs) (same x (inl refl)) ∙ ap (λ (bs : List B). g x ∷ bs) (map_same f g xs (λ y is. same y (inr is)))

pub all_same : {A : Type 0} (p q : A → Bool) (xs : List A) → ((x : A) → IsIn x xs → p x ≡ q x) → list_all p xs ≡ list_all q xs
all_same p q [] same = refl
all_same p q (x ∷ xs) same = ap (λ (b : Bool). b && list_all p xs) (same x (inl refl)) ∙ ap (λ (b : Bool). q x && b) (all_same p q xs (λ y is. same y (inr is)))

pub all_at : {A : Type 0} (p : A → Bool) (xs : List A) (x : A) → list_all p xs ≡ true → IsIn x xs → p x ≡ true
all_at p [] x all is = absurd is
all_at p (y ∷ ys) x all (inl same) = ap p (sym same) ∙ (and_parts (p y) (list_all p ys) all).0
all_at p (y ∷ ys) x all (inr is) = all_at p ys x (and_parts (p y) (list_all p ys) all).1 is

pub all_from : {A : Type 0} (p : A → Bool) (xs : List A) → ((x : A) → IsIn x xs → p x ≡ true) → list_all p xs ≡ true
all_from p [] each = refl
all_from p (y ∷ ys) each = and_from (p y) (list_all p ys) (each y (inl refl)) (all_from p ys (λ x is. each x (inr is)))

pub member_at : {A : Type 0} (xs : List A) (i : ℕ) (d : A) → i < length xs → IsIn (get_or xs i d) xs
member_at [] i d less = absurd (omega arith)
member_at (x ∷ xs) zero d less = inl refl
member_at (x ∷ xs) (suc i) d less = inr (member_at xs i d (omega arith))

-- ---- what is told of sources

-- two ways to tell agree on the items that an item takes its bytes from
abbrev pub Agree : {A : Type 0} → List Located → (Located → A) → (Located → A) → Located → Type 0
Agree items f g r = (e : Extent) → IsIn e r.extents → (r.method == 2) ≡ true → (s : Located) → source_of items r e ≡ Some s → f s ≡ g s

-- what is told of an item depends only on what is told of these
abbrev pub IsLocal : {A : Type 0} → List Located → ((Located → A) → Located → A) → Type 0
IsLocal {A} items tell = (f g : Located → A) (r : Located) → Agree items f g r → tell f r ≡ tell g r

pub told_same : {A : Type 0} (nothing : A) (f g : Located → A) (o : Option Located) → ((s : Located) → o ≡ Some s → f s ≡ g s)
    → told nothing f o ≡ told nothing g o
told_same nothing f g None same = refl
told_same nothing f g (Some s) same = same s refl

pub in_item_same : {A : Type 0} (method : ℕ) (a b x y : A) → ((method == 2) ≡ true → x ≡ y) → by_method method a b x ≡ by_method method a b y
in_item_same {A = A} method a b x y same = elim (cases_Bool (method == 2)) [
  | inl two ↦ ap (λ (z : A). by_method method a b z) (same two)
  | inr other ↦ rw other refl
]

pub in_item : {A : Type 0} (method : ℕ) (a b x : A) → (method == 2) ≡ true → by_method method a b x ≡ x
in_item method a b x two = rw two refl

pub ends_local : (items : List Located) → IsLocal items (ends_in items)
ends_local items f g r agree =
    all_same (λ (e : Extent). by_method r.method true true (told false f (source_of items r e))) (λ (e : Extent). by_method r.method true true (told false g (source_of items r e))) r.extents
    (λ e is. in_item_same r.method true true _ _ (λ two. told_same false f g (source_of items r e) (agree e is two)))

pub leaves_local : (items : List Located) → IsLocal items (leaves_in items)
leaves_local items f g r agree =
    ap sum (map_same (λ (e : Extent). by_method r.method 1 1 (told 0 f (source_of items r e))) (λ (e : Extent). by_method r.method 1 1 (told 0 g (source_of items r e))) r.extents
    (λ e is. in_item_same r.method 1 1 _ _ (λ two. told_same 0 f g (source_of items r e) (agree e is two))))

pub size_local : (len inner : ℕ) (items : List Located) → IsLocal items (size_in len inner items)
size_local len inner items f g r agree =
    ap sum (map_same (extent_size len inner items f r) (extent_size len inner items g r) r.extents
    (λ e is. ap (λ (n : ℕ). if e.length == 0 then n else e.length) (in_item_same r.method len inner _ _ (λ two. told_same 0 f g (source_of items r e) (agree e is two)))))

pub bytes_local : (F : List ℕ) (idat : Option (List ℕ)) (items : List Located) → IsLocal items (bytes_in F idat items)
bytes_local F idat items f g r agree =
    ap joined_pieces (map_same (piece_in F idat items f r) (piece_in F idat items g r) r.extents
    (λ e is. ap (λ (b : Option (List ℕ)). piece_of r.base e b) (in_item_same r.method (Some F) idat _ _ (λ two. told_same None f g (source_of items r e) (agree e is two)))))

-- ---- levels

-- where unfolding ends at an item, it ends at those that it takes its bytes from
pub source_ends : (items : List Located) (other : Located → Bool) (r : Located) (e : Extent) (s : Located) → ends_in items other r ≡ true → IsIn e r.extents
    → (r.method == 2) ≡ true → source_of items r e ≡ Some s → other s ≡ true
source_ends items other r e s end is two found =
    let here : by_method r.method true true (told false other (source_of items r e)) ≡ true =
    all_at (λ (x : Extent). by_method r.method true true (told false other (source_of items r x))) r.extents e end is in
    ap (told false other) (sym found) ∙ sym (in_item r.method true true (told false other (source_of items r e)) two) ∙ here

pub stable : {A : Type 0} (nothing : A) (tell : (Located → A) → Located → A) (items : List Located) → IsLocal items tell → (n m k : ℕ) (r : Located)
    → over false (ends_in items) n r ≡ true → n ≤ m → n ≤ k → over nothing tell m r ≡ over nothing tell k r
unfolding over
stable nothing tell items local zero m k r end few less = absurd (false≢true end)
stable nothing tell items local (suc n) zero k r end few less = absurd (omega arith)
stable nothing tell items local (suc n) (suc m) zero r end few less = absurd (omega arith)
stable nothing tell items local (suc n) (suc m) (suc k) r end few less =
    local (over nothing tell m) (over nothing tell k) r
    (λ e is two s found. stable nothing tell items local n m k s (source_ends items (over false (ends_in items) n) r e s end is two found) (omega arith) (omega arith))

-- with as many levels as there are items, what is told of an item is told by what is told of the others
fixed : {A : Type 0} (nothing : A) (tell : (Located → A) → Located → A) (items : List Located) → IsLocal items tell → (n : ℕ) (r : Located)
    → over false (ends_in items) (suc n) r ≡ true
    → by_levels nothing tell n r ≡ tell (by_levels nothing tell n) r
unfolding over
fixed nothing tell items local n r end = stable nothing tell items local (suc n) (suc n) (suc (suc n)) r end (omega arith) (omega arith)

pub leaves_are : (items : List Located) (r : Located) → ends items r ≡ true → leaves_of items r ≡ leaves_in items (leaves_of items) r
unfolding ends leaves_of over
leaves_are items r end = fixed 0 (leaves_in items) items (leaves_local items) (length items) r end

pub size_is : (len inner : ℕ) (items : List Located) (r : Located) → ends items r ≡ true
    → size_of len inner items r ≡ size_in len inner items (size_of len inner items) r
unfolding ends size_of over
size_is len inner items r end = fixed 0 (size_in len inner items) items (size_local len inner items) (length items) r end

pub bytes_are : (F : List ℕ) (idat : Option (List ℕ)) (items : List Located) (r : Located) → ends items r ≡ true
    → bytes_of F idat items r ≡ bytes_in F idat items (bytes_of F idat items) r
unfolding ends bytes_of over
bytes_are F idat items r end = fixed None (bytes_in F idat items) items (bytes_local F idat items) (length items) r end

pub ends_is : (items : List Located) (r : Located) → ends items r ≡ true → ends_in items (ends items) r ≡ true
unfolding ends over
ends_is items r end = sym (fixed false (ends_in items) items (ends_local items) (length items) r end) ∙ end
