-- How many leaves and bytes a chain of doubled items has, and which fault its places have.
use Rattle.std.proofs.Common.{◌≡◌, ℕ, zero, suc, ◌+◌, ◌-◌, ◌^◌, ◌<◌, ◌≤◌, Bool, true, false, ◌&&◌, ◌||◌, ◌⊎◌, inl, inr, List, [], ◌∷◌, ◌++◌, length, map, refl, sym, ap, subst, ◌∙◌, arith, Option, Some, None, sum, min, Result, Ok, Err, length-append}
use Rattle.std.specs.Prelude.{◌==◌, not, nat_lt}
use Rattle.std.specs.Option.{is_none}
use Rattle.std.proofs.lemmas.Bool.{cases_Bool, cases_lt, lt-ltb, le-ltb}
use Rattle.std.proofs.lemmas.Bool.Decides.{nat_tests}
use Rattle.std.proofs.lemmas.List.{map-append}
use Rattle.std.proofs.lemmas.List.Sums.{sum_by-append, sum_by-cons}
use Rattle.std.proofs.lemmas.Nat.{pow_pos}
use Rattle.std.proofs.Math.Nat.{pow-suc}
use Rattle.hf_base.specs.Reading.{◌>>=◌}
use Rattle.hf_base.specs.declared.fault.ReadRefusal.{ReadRefusal}
use Rattle.hf_base.specs.declared.fault.ReadRefusal.TheVariants.{External, BadMethod, ZeroLength, NoIdat, BadIndex, LocCycle, OutOfFile, OutOfIdat, TooScattered, OutOfItem, TooManyBytes}
use Rattle.hf_base.specs.declared.limits.TheConstants.{BODY, PIECES}
use Rattle.hf_base.specs.Located.{Located, item_with}
use Rattle.hf_base.specs.Members.{IsIn}
use Rattle.hf_base.specs.Levels.{over, told}
use Rattle.hf_base.specs.Counts.{ends_in, ends, leaves_in, leaves_of, size_in, size_of, inner_size}
use Rattle.hf_base.specs.LocationFaults.{first_with, refused, limited, is_external, has_bad_method, has_zero_length, lacks_idat, has_bad_index, is_endless, is_out_of_file, is_out_of_idat, is_out_of_item, external_fault, bad_method_fault, zero_length_fault, no_idat_fault, bad_index_fault, loc_cycle_fault, out_of_file_fault, out_of_idat_fault, too_scattered_fault, out_of_item_fault, too_many_bytes_fault, locations_fault}
use Rattle.hf_base.specs.Doubling.{first_item, doubled_item, doubled}
use Rattle.hf_base.proofs.FaultLaws.{none_refused}
use Rattle.hf_base.proofs.Converse.{within_limit}

-- ---- the item with an id

with_front : (id : ℕ) (xs ys : List Located) (x : Located) → item_with id xs ≡ Some x → item_with id (xs ++ ys) ≡ Some x
with_front id [] ys x e = absurd (cc)
with_front id (z ∷ zs) ys x e = elim (cases_Bool (z.id == id)) [
  | inl same ↦ (
      let f : item_with id (z ∷ zs) ≡ Some z = rw same refl in
      let g : item_with id ((z ∷ zs) ++ ys) ≡ Some z = rw same refl in
      g ∙ sym f ∙ e
      )
  | inr other ↦ (
      let f : item_with id (z ∷ zs) ≡ item_with id zs = rw other refl in
      let g : item_with id ((z ∷ zs) ++ ys) ≡ item_with id (zs ++ ys) = rw other refl in
      g ∙ with_front id zs ys x (sym f ∙ e)
      )
]

with_back : (id : ℕ) (xs ys : List Located) → item_with id xs ≡ None → item_with id (xs ++ ys) ≡ item_with id ys
with_back id [] ys e = refl
with_back id (z ∷ zs) ys e = elim (cases_Bool (z.id == id)) [
  | inl same ↦ (let f : item_with id (z ∷ zs) ≡ Some z = rw same refl in absurd (cc))
  | inr other ↦ (
      let f : item_with id (z ∷ zs) ≡ item_with id zs = rw other refl in
      let g : item_with id ((z ∷ zs) ++ ys) ≡ item_with id (zs ++ ys) = rw other refl in
      g ∙ with_back id zs ys (sym f ∙ e)
      )
]

only_other : (id : ℕ) (x : Located) → (x.id == id) ≡ false → item_with id (x ∷ []) ≡ None
only_other id x other = rw other refl

only_same : (id : ℕ) (x : Located) → (x.id == id) ≡ true → item_with id (x ∷ []) ≡ Some x
only_same id x same = rw same refl

id_is : (inner : Bool) (long : ℕ → ℕ) (k : ℕ) → (doubled_item inner long k).id ≡ suc k
id_is inner long zero = refl
id_is inner long (suc k) = refl

no_later : (inner : Bool) (long : ℕ → ℕ) (n id : ℕ) → n < id → item_with id (doubled inner long n) ≡ None
unfolding doubled
no_later inner long zero id less = refl
no_later inner long (suc n) id less =
    let is = id_is inner long n in
    let other : ((doubled_item inner long n).id == id) ≡ false = grind (arith, nat_tests) in
    with_back id (doubled inner long n) (doubled_item inner long n ∷ []) (no_later inner long n id (omega arith))
    ∙ only_other id (doubled_item inner long n) other

last_at : (inner : Bool) (long : ℕ → ℕ) (n : ℕ) → item_with (suc n) (doubled inner long (suc n)) ≡ Some (doubled_item inner long n)
unfolding doubled
last_at inner long n =
    let is = id_is inner long n in
    let same : ((doubled_item inner long n).id == suc n) ≡ true = grind (arith, nat_tests) in
    with_back (suc n) (doubled inner long n) (doubled_item inner long n ∷ []) (no_later inner long n (suc n) (omega arith))
    ∙ only_same (suc n) (doubled_item inner long n) same

pub doubled_at : (inner : Bool) (long : ℕ → ℕ) (n k : ℕ) → k < n → item_with (suc k) (doubled inner long n) ≡ Some (doubled_item inner long k)
unfolding doubled
doubled_at inner long zero k less = absurd (omega arith)
doubled_at inner long (suc n) k less = elim (cases_lt k n) [
  | inl lt ↦ with_front (suc k) (doubled inner long n) (doubled_item inner long n ∷ []) (doubled_item inner long k) (doubled_at inner long n k lt)
  | inr ge ↦ (let same : n ≡ k = omega arith in subst (λ (m : ℕ). item_with (suc m) (doubled inner long (suc n)) ≡ Some (doubled_item inner long m)) same (last_at inner long n))
]

-- ---- all items

in_joined : (r : Located) (xs ys : List Located) → IsIn r (xs ++ ys) → IsIn r xs ⊎ IsIn r ys
in_joined r [] ys is = inr is
in_joined r (x ∷ xs) ys (inl same) = inl (inl same)
in_joined r (x ∷ xs) ys (inr is) = elim (in_joined r xs ys is) [ inl a ↦ inl (inr a) | inr b ↦ inr b ]

doubled_in : (inner : Bool) (long : ℕ → ℕ) (n : ℕ) (r : Located) → IsIn r (doubled inner long n) → (k : ℕ) × (k < n) × (doubled_item inner long k ≡ r)
unfolding doubled
doubled_in inner long zero r is = absurd is
doubled_in inner long (suc n) r is = elim (in_joined r (doubled inner long n) (doubled_item inner long n ∷ []) is) [
  | inl earlier ↦ (let found = doubled_in inner long n r earlier in let less : found.0 < n = found.1 in (found.0, (omega arith), found.2))
  | inr last ↦ elim last [ inl same ↦ (n, (omega arith), same) | inr none ↦ absurd none ]
]

none_of : (has : Located → Bool) (why : ℕ → ReadRefusal) (inner : Bool) (long : ℕ → ℕ) (n : ℕ) → ((k : ℕ) → k < n → has (doubled_item inner long k) ≡ false)
    → refused why (first_with has (doubled inner long n)) ≡ Ok tt
none_of has why inner long n each =
    none_refused has why (doubled inner long n) (λ r is.
    let found = doubled_in inner long n r is in
    ap has (sym found.2) ∙ each found.0 found.1)

twice : (k : ℕ) → sum (2 ^ k ∷ 2 ^ k ∷ []) ≡ 2 ^ suc k
twice k =
    let p = pow-suc 2 k in
    let one : sum (2 ^ k ∷ 2 ^ k ∷ []) ≡ 2 ^ k + sum (2 ^ k ∷ []) = sum_by-cons (λ n. n) (2 ^ k) (2 ^ k ∷ []) in
    let two : sum (2 ^ k ∷ []) ≡ 2 ^ k + sum [] = sum_by-cons (λ n. n) (2 ^ k) [] in
    let none : sum [] ≡ 0 = refl in
    omega (arith, one, two, none, p)

total : (f : Located → ℕ) (inner : Bool) (long : ℕ → ℕ) (n : ℕ) → ((k : ℕ) → k < n → f (doubled_item inner long k) ≡ 2 ^ k)
    → sum (map f (doubled inner long n)) + 1 ≡ 2 ^ n
unfolding doubled
total f inner long zero each = refl
total f inner long (suc n) each =
    let earlier = total f inner long n (λ k less. each k (omega arith)) in
    let last : f (doubled_item inner long n) ≡ 2 ^ n = each n (omega arith) in
    let parts : sum (map f (doubled inner long n ++ doubled_item inner long n ∷ [])) ≡ sum (map f (doubled inner long n)) + sum (f (doubled_item inner long n) ∷ []) =
    ap sum (map-append f (doubled inner long n) (doubled_item inner long n ∷ []))
    ∙ sum_by-append (λ m. m) (map f (doubled inner long n)) (f (doubled_item inner long n) ∷ []) in
    let one : sum (f (doubled_item inner long n) ∷ []) ≡ f (doubled_item inner long n) + sum [] = sum_by-cons (λ m. m) (f (doubled_item inner long n)) [] in
    let none : sum [] ≡ 0 = refl in
    let p = pow-suc 2 n in
    omega (arith, parts, one, none, earlier, last, p)

-- ---- one item

ends_first : (inner : Bool) (items : List Located) (other : Located → Bool) → ends_in items other (first_item inner) ≡ true
ends_first true items other = refl
ends_first false items other = refl

ends_at : (inner : Bool) (long : ℕ → ℕ) (n levels k : ℕ) → k < levels → k < n
    → over false (ends_in (doubled inner long n)) levels (doubled_item inner long k) ≡ true
unfolding over
ends_at inner long n zero k deep less = absurd (omega arith)
ends_at inner long n (suc m) zero deep less = ends_first inner (doubled inner long n) (over false (ends_in (doubled inner long n)) m)
ends_at inner long n (suc m) (suc k) deep less =
    let one : told false (over false (ends_in (doubled inner long n)) m) (item_with (suc k) (doubled inner long n)) ≡ true =
    ap (told false (over false (ends_in (doubled inner long n)) m)) (doubled_at inner long n k (omega arith))
    ∙ ends_at inner long n m k (omega arith) (omega arith) in
    ap (λ (b : Bool). b && (b && true)) one

leaves_first : (inner : Bool) (items : List Located) (other : Located → ℕ) → leaves_in items other (first_item inner) ≡ 1
leaves_first true items other = refl
leaves_first false items other = refl

leaves_at : (inner : Bool) (long : ℕ → ℕ) (n levels k : ℕ) → k < levels → k < n
    → over 0 (leaves_in (doubled inner long n)) levels (doubled_item inner long k) ≡ 2 ^ k
unfolding over
leaves_at inner long n zero k deep less = absurd (omega arith)
leaves_at inner long n (suc m) zero deep less = leaves_first inner (doubled inner long n) (over 0 (leaves_in (doubled inner long n)) m)
leaves_at inner long n (suc m) (suc k) deep less =
    let one : told 0 (over 0 (leaves_in (doubled inner long n)) m) (item_with (suc k) (doubled inner long n)) ≡ 2 ^ k =
    ap (told 0 (over 0 (leaves_in (doubled inner long n)) m)) (doubled_at inner long n k (omega arith))
    ∙ leaves_at inner long n m k (omega arith) (omega arith) in
    ap (λ (x : ℕ). sum (x ∷ x ∷ [])) one ∙ twice k

length_is : (inner : Bool) (long : ℕ → ℕ) (n : ℕ) → length (doubled inner long n) ≡ n
unfolding doubled
length_is inner long zero = refl
length_is inner long (suc n) = let earlier = length_is inner long n in grind (arith, length-append (doubled inner long n) (doubled_item inner long n ∷ []))

pub item_leaves : (inner : Bool) (long : ℕ → ℕ) (n k : ℕ) → k < n → leaves_of (doubled inner long n) (doubled_item inner long k) ≡ 2 ^ k
unfolding leaves_of over
item_leaves inner long n k less =
    let count = length_is inner long n in
    leaves_at inner long n (suc (length (doubled inner long n))) k (omega (arith, count)) less

pub all_leaves : (inner : Bool) (long : ℕ → ℕ) (n : ℕ) → sum (map (leaves_of (doubled inner long n)) (doubled inner long n)) + 1 ≡ 2 ^ n
all_leaves inner long n = total (leaves_of (doubled inner long n)) inner long n (λ k less. item_leaves inner long n k less)

pub item_ends : (inner : Bool) (long : ℕ → ℕ) (n k : ℕ) → k < n → ends (doubled inner long n) (doubled_item inner long k) ≡ true
unfolding ends over
item_ends inner long n k less =
    let count = length_is inner long n in
    ends_at inner long n (suc (length (doubled inner long n))) k (omega (arith, count)) less

-- ---- faults

-- what is asked of the first item, and of the lengths
pub record Begins (F : List ℕ) (idat : Option (List ℕ)) (inner : Bool) (long : ℕ → ℕ) : Type 0 where
  pub there : lacks_idat idat (first_item inner) ≡ false
  pub in_file : is_out_of_file (length F) (first_item inner) ≡ false
  pub some : (k : ℕ) → 0 < long k

not_external : (inner : Bool) (long : ℕ → ℕ) (k : ℕ) → is_external (doubled_item inner long k) ≡ false
not_external inner long zero = refl
not_external inner long (suc k) = refl

known_method : (inner : Bool) (long : ℕ → ℕ) (k : ℕ) → has_bad_method (doubled_item inner long k) ≡ false
known_method true long zero = refl
known_method false long zero = refl
known_method inner long (suc k) = refl

not_empty : (inner : Bool) (long : ℕ → ℕ) (k : ℕ) → ((k : ℕ) → 0 < long k) → has_zero_length (doubled_item inner long k) ≡ false
not_empty true long zero some = refl
not_empty false long zero some = refl
not_empty inner long (suc k) some =
    let filled = some k in
    let not_zero : (long k == 0) ≡ false = grind (arith, nat_tests) in
    rw not_zero refl

has_idat : (idat : Option (List ℕ)) (inner : Bool) (long : ℕ → ℕ) (k : ℕ) → lacks_idat idat (first_item inner) ≡ false
    → lacks_idat idat (doubled_item inner long k) ≡ false
has_idat idat inner long zero there = there
has_idat idat inner long (suc k) there = refl

good_index : (inner : Bool) (long : ℕ → ℕ) (n k : ℕ) → k < n → has_bad_index (doubled inner long n) (doubled_item inner long k) ≡ false
good_index true long n zero less = refl
good_index false long n zero less = refl
good_index inner long n (suc k) less =
    let one : is_none (item_with (suc k) (doubled inner long n)) ≡ false = ap is_none (doubled_at inner long n k (omega arith)) in
    ap (λ (b : Bool). b || (b || false)) one

not_endless : (inner : Bool) (long : ℕ → ℕ) (n k : ℕ) → k < n → is_endless (doubled inner long n) (doubled_item inner long k) ≡ false
not_endless inner long n k less = ap (λ (b : Bool). not b) (item_ends inner long n k less)

in_the_file : (len : ℕ) (inner : Bool) (long : ℕ → ℕ) (k : ℕ) → is_out_of_file len (first_item inner) ≡ false
    → is_out_of_file len (doubled_item inner long k) ≡ false
in_the_file len inner long zero first = first
in_the_file len inner long (suc k) first = refl

in_the_idat : (size : ℕ) (inner : Bool) (long : ℕ → ℕ) (k : ℕ) → is_out_of_idat size (first_item inner) ≡ false
    → is_out_of_idat size (doubled_item inner long k) ≡ false
in_the_idat size inner long zero first = first
in_the_idat size inner long (suc k) first = refl

next : (a b : Result (Unit {0}) ReadRefusal) → a ≡ Ok tt → (a >>= λ x. b) ≡ b
next a b fine = rw fine refl

-- the parts behind the first seven
abbrev pub later_fault : List ℕ → Option (List ℕ) → List Located → Result (Unit {0}) ReadRefusal
later_fault F idat items = out_of_idat_fault idat items >>= λ x. too_scattered_fault items >>= λ y. out_of_item_fault F idat items >>= λ z. too_many_bytes_fault F idat items

pub seven_fine : (F : List ℕ) (idat : Option (List ℕ)) (inner : Bool) (long : ℕ → ℕ) (n : ℕ) → Begins F idat inner long
    → locations_fault F idat (doubled inner long n) ≡ later_fault F idat (doubled inner long n)
unfolding locations_fault external_fault bad_method_fault zero_length_fault no_idat_fault bad_index_fault loc_cycle_fault out_of_file_fault
seven_fine F idat inner long n begins =
    let items = doubled inner long n in
    next _ _ (none_of is_external (λ id. External id) inner long n (λ k _. not_external inner long k))
    ∙ next _ _ (none_of has_bad_method (λ id. BadMethod id) inner long n (λ k _. known_method inner long k))
    ∙ next _ _ (none_of has_zero_length (λ id. ZeroLength id) inner long n (λ k _. not_empty inner long k begins.some))
    ∙ next _ _ (none_of (lacks_idat idat) (λ id. NoIdat id) inner long n (λ k _. has_idat idat inner long k begins.there))
    ∙ next _ _ (none_of (has_bad_index items) (λ id. BadIndex id) inner long n (good_index inner long n))
    ∙ next _ _ (none_of (is_endless items) (λ id. LocCycle id) inner long n (not_endless inner long n))
    ∙ next _ _ (none_of (is_out_of_file (length F)) (λ id. OutOfFile id) inner long n (λ k _. in_the_file (length F) inner long k begins.in_file))

in_idat_fine : (idat : Option (List ℕ)) (inner : Bool) (long : ℕ → ℕ) (n : ℕ) → is_out_of_idat (inner_size idat) (first_item inner) ≡ false
    → out_of_idat_fault idat (doubled inner long n) ≡ Ok tt
unfolding out_of_idat_fault
in_idat_fine idat inner long n first = none_of (is_out_of_idat (inner_size idat)) (λ id. OutOfIdat id) inner long n (λ k _. in_the_idat (inner_size idat) inner long k first)

past_limit : (most total : ℕ) (why : ℕ → ReadRefusal) → most < total → limited most why total ≡ Err (why (min total (2 ^ 64 - 1)))
past_limit most total why more = let t : nat_lt most total ≡ true = lt-ltb most total more in rw t refl

stops : (a b : Result (Unit {0}) ReadRefusal) (why : ReadRefusal) → a ≡ Err why → (a >>= λ x. b) ≡ Err why
stops a b why e = rw e refl

scattered : (inner : Bool) (long : ℕ → ℕ) (n : ℕ) → PIECES < 2 ^ n - 1
    → too_scattered_fault (doubled inner long n) ≡ Err (TooScattered (min (2 ^ n - 1) (2 ^ 64 - 1)))
unfolding too_scattered_fault
scattered inner long n more =
    let all = all_leaves inner long n in
    let is : sum (map (leaves_of (doubled inner long n)) (doubled inner long n)) ≡ 2 ^ n - 1 = omega (arith, all) in
    ap (limited PIECES (λ count. TooScattered count)) is ∙ past_limit PIECES (2 ^ n - 1) (λ count. TooScattered count) more

pub too_many_leaves : (F : List ℕ) (idat : Option (List ℕ)) (inner : Bool) (long : ℕ → ℕ) (n : ℕ) → Begins F idat inner long
    → is_out_of_idat (inner_size idat) (first_item inner) ≡ false → PIECES < 2 ^ n - 1
    → locations_fault F idat (doubled inner long n) ≡ Err (TooScattered (min (2 ^ n - 1) (2 ^ 64 - 1)))
too_many_leaves F idat inner long n begins first more =
    seven_fine F idat inner long n begins ∙ next _ _ (in_idat_fine idat inner long n first) ∙ stops _ _ _ (scattered inner long n more)

-- ---- a chain that is taken: each extent is the whole item before it

size_first : (inner : Bool) (len size : ℕ) (items : List Located) (other : Located → ℕ) → size_in len size items other (first_item inner) ≡ 1
size_first true len size items other = refl
size_first false len size items other = refl

power_some : (k : ℕ) → (2 ^ k == 0) ≡ false
power_some k = let p = pow_pos k in grind (arith, nat_tests)

size_at : (len size : ℕ) (inner : Bool) (n levels k : ℕ) → k < levels → k < n
    → over 0 (size_in len size (doubled inner (λ j. 2 ^ j) n)) levels (doubled_item inner (λ j. 2 ^ j) k) ≡ 2 ^ k
unfolding over
size_at len size inner n zero k deep less = absurd (omega arith)
size_at len size inner n (suc m) zero deep less = size_first inner len size (doubled inner (λ j. 2 ^ j) n) (over 0 (size_in len size (doubled inner (λ j. 2 ^ j) n)) m)
size_at len size inner n (suc m) (suc k) deep less = rw (power_some k) (twice k)

pub item_size : (len size : ℕ) (inner : Bool) (n k : ℕ) → k < n → size_of len size (doubled inner (λ j. 2 ^ j) n) (doubled_item inner (λ j. 2 ^ j) k) ≡ 2 ^ k
unfolding size_of over
item_size len size inner n k less =
    let count = length_is inner (λ j. 2 ^ j) n in
    size_at len size inner n (suc (length (doubled inner (λ j. 2 ^ j) n))) k (omega (arith, count)) less

in_the_item : (len size : ℕ) (inner : Bool) (n k : ℕ) → k < n
    → is_out_of_item len size (doubled inner (λ j. 2 ^ j) n) (doubled_item inner (λ j. 2 ^ j) k) ≡ false
in_the_item len size true n zero less = refl
in_the_item len size false n zero less = refl
in_the_item len size inner n (suc k) less =
    let items = doubled inner (λ j. 2 ^ j) n in
    let source : told 0 (size_of len size items) (item_with (suc k) items) ≡ 2 ^ k =
    ap (told 0 (size_of len size items)) (doubled_at inner (λ j. 2 ^ j) n k (omega arith)) ∙ item_size len size inner n k (omega arith) in
    let fits : nat_lt (told 0 (size_of len size items) (item_with (suc k) items)) (0 + 0 + 2 ^ k) ≡ false = le-ltb _ _ (omega (arith, source)) in
    ap (λ (b : Bool). b || (b || false)) fits

pub few_leaves : (F : List ℕ) (idat : Option (List ℕ)) (inner : Bool) (n : ℕ) → lacks_idat idat (first_item inner) ≡ false
    → is_out_of_file (length F) (first_item inner) ≡ false → is_out_of_idat (inner_size idat) (first_item inner) ≡ false
    → 2 ^ n - 1 ≤ PIECES → locations_fault F idat (doubled inner (λ j. 2 ^ j) n) ≡ Ok tt
unfolding too_scattered_fault out_of_item_fault too_many_bytes_fault
few_leaves F idat inner n there in_file first few =
    let long : ℕ → ℕ = λ j. 2 ^ j in
    let items = doubled inner (λ j. 2 ^ j) n in
    let leaves = all_leaves inner (λ j. 2 ^ j) n in
    let sizes = total (size_of (length F) (inner_size idat) items) inner (λ j. 2 ^ j) n (item_size (length F) (inner_size idat) inner n) in
    let limit : PIECES ≤ BODY = omega arith in
    let begins : Begins F idat inner (λ j. 2 ^ j) = record { there = there; in_file = in_file; some = λ k. pow_pos k } in
    seven_fine F idat inner (λ j. 2 ^ j) n begins
    ∙ next _ _ (in_idat_fine idat inner (λ j. 2 ^ j) n first)
    ∙ next _ _ (within_limit PIECES _ (λ count. TooScattered count) (omega (arith, leaves)))
    ∙ next _ _ (none_of (is_out_of_item (length F) (inner_size idat) items) (λ id. OutOfItem id) inner (λ j. 2 ^ j) n (in_the_item (length F) (inner_size idat) inner n))
    ∙ within_limit BODY _ (λ most. TooManyBytes most) (omega (arith, sizes))

-- ---- the first item passes the end of `idat`

first_refused : (has : Located → Bool) (why : ℕ → ReadRefusal) (x : Located) (xs ys : List Located) → xs ≡ x ∷ ys → has x ≡ true
    → refused why (first_with has xs) ≡ Err (why x.id)
first_refused has why x xs ys is held = rw (is, held) refl

begins_with : (inner : Bool) (long : ℕ → ℕ) (n : ℕ) → (ys : List Located) × (doubled inner long (suc n) ≡ first_item inner ∷ ys)
unfolding doubled
begins_with inner long zero = ([], refl)
begins_with inner long (suc n) = let earlier = begins_with inner long n in (earlier.0 ++ doubled_item inner long (suc n) ∷ [], ap (λ (l : List Located). l ++ doubled_item inner long (suc n) ∷ []) earlier.1)

pub past_idat : (F : List ℕ) (long : ℕ → ℕ) (n : ℕ) → ((k : ℕ) → 0 < long k) → locations_fault F (Some []) (doubled true long (suc n)) ≡ Err (OutOfIdat 1)
unfolding out_of_idat_fault
past_idat F long n some =
    let begins : Begins F (Some []) true long = record { there = refl; in_file = refl; some = some } in
    let first = begins_with true long n in
    let refuse : out_of_idat_fault (Some []) (doubled true long (suc n)) ≡ Err (OutOfIdat 1) =
    first_refused (is_out_of_idat 0) (λ id. OutOfIdat id) (first_item true) (doubled true long (suc n)) first.0 first.1 refl in
    seven_fine F (Some []) true long (suc n) begins ∙ stops _ _ _ refuse

pub file_there : (F : List ℕ) → 1 ≤ length F → is_out_of_file (length F) (first_item false) ≡ false
file_there F some = let fits : nat_lt (length F) (0 + 0 + 1) ≡ false = le-ltb _ _ (omega arith) in ap (λ (b : Bool). b || false) fits

pub idat_there : (F idat : List ℕ) → 1 ≤ length idat → is_out_of_idat (length idat) (first_item true) ≡ false
idat_there F idat some = let fits : nat_lt (length idat) (0 + 0 + 1) ≡ false = le-ltb _ _ (omega arith) in ap (λ (b : Bool). b || false) fits
