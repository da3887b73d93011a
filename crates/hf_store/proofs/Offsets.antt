-- The offset of an item follows from the counts of those before it.
use Rattle.std.proofs.Common.{◌≡◌, ℕ, zero, suc, ◌+◌, ◌-◌, ◌<◌, ◌≤◌, Bool, true, false, ◌&&◌, cond, leb, ltb, List, [], ◌∷◌, length, take, refl, sym, ap, ◌∙◌, arith, Some}
use Rattle.std.specs.Prelude.{slice_get}
use Rattle.std.specs.List.{AllByRecursion, sum_by, filter}
use Rattle.std.proofs.lemmas.Bool.{lt-ltb, le-ltb, le-leb, lt-leb}
use Rattle.std.proofs.lemmas.List.Sums.{sum_by-cons}
use Rattle.hf_store.specs.Counts.{counts_of, counts_before}
use Rattle.hf_store.specs.Layout.{own, in_idat, bytes_in, written, mdat_offset, idat_offset}
use Rattle.hf_store.specs.Lists.{RisesFrom}
use Rattle.hf_store.specs.Offsets.{OffsetsAreCounted}
use Rattle.hf_store.specs.Store.{Item, ids_of}
use Rattle.hf_store.proofs.CountsAre.{sum-zero, sum-bytes, is_written, mdat-here}
use Rattle.hf_store.proofs.Spots.{some_is, id_here, rises_at}

-- a sum over those that pass
sum_here : {A : Type 0} (f : A → ℕ) (b : Bool) (x : A) (xs : List A) → sum_by f (cond b (x ∷ xs) xs) ≡ cond b (f x) 0 + sum_by f xs
sum_here f true x xs = sum_by-cons f x xs
sum_here f false x xs = omega arith

sum-filter : {A : Type 0} (f : A → ℕ) (p : A → Bool) (xs : List A) → sum_by f (filter p xs) ≡ sum_by (λ x. cond (p x) (f x) 0) xs
sum-filter f p [] = refl
sum-filter f p (x ∷ xs) =
    sum_here f (p x) x (filter p xs) ∙ ap (λ n. cond (p x) (f x) 0 + n) (sum-filter f p xs) ∙ sym (sum_by-cons (λ y. cond (p y) (f y) 0) x xs)

abbrev AreFrom : ℕ → List Item → Type 0
AreFrom low is = AllByRecursion (λ (j : Item). low ≤ j.id) is

are_from : (low first : ℕ) (is : List Item) → low ≤ first → RisesFrom ◌<◌ first (ids_of is) → AreFrom low is
are_from low first [] le rises = tt
are_from low first (j ∷ js) le rises = (omega (arith, le, rises.0), are_from low j.id js (omega (arith, le, rises.0)) rises.1)

-- what stands first has the least id
first_is_least : (low : ℕ) (i j : Item) (js : List Item) → j ≡ i → RisesFrom ◌<◌ low (ids_of (j ∷ js)) → AreFrom i.id (j ∷ js)
first_is_least low i j js same rises =
    let id : j.id ≡ i.id = ap (λ (x : Item). x.id) same in
    (omega (arith, id), are_from i.id j.id js (omega (arith, id)) rises.1)

-- and is less than what stands behind it
comes_first : (low : ℕ) (j : Item) (js : List Item) (k : ℕ) (i : Item) → RisesFrom ◌<◌ low (ids_of (j ∷ js)) → slice_get js k ≡ Some i → j.id < i.id
comes_first low j js k i rises here = rises_at low (ids_of (j ∷ js)) 0 (suc k) j.id i.id rises refl (id_here (j ∷ js) (suc k) i here) (omega arith)

-- ---- idat

abbrev inside : Item → ℕ
inside j = cond (in_idat j) (length j.bytes) 0

abbrev inside_before : ℕ → Item → ℕ
inside_before id j = cond (in_idat j && ltb j.id id) (length j.bytes) 0

and-true : (b c : Bool) (n : ℕ) → c ≡ true → cond (b && c) n 0 ≡ cond b n 0
and-true true c n e = ap (λ d. cond d n 0) e
and-true false c n e = refl

and-false : (b c : Bool) (n : ℕ) → c ≡ false → cond (b && c) n 0 ≡ 0
and-false true c n e = ap (λ d. cond d n 0) e
and-false false c n e = refl

none_inside : (id : ℕ) (is : List Item) → AreFrom id is → sum_by (inside_before id) is ≡ 0
none_inside id [] from = refl
none_inside id (j ∷ js) from =
    omega (arith, sum_by-cons (inside_before id) j js, and-false (in_idat j) (ltb j.id id) (length j.bytes) (le-ltb j.id id from.0), none_inside id js from.1)

inside-counted : (low : ℕ) (is : List Item) (k : ℕ) (i : Item) → RisesFrom ◌<◌ low (ids_of is) → slice_get is k ≡ Some i
    → sum_by (inside_before i.id) is ≡ sum_by inside (take k is)
inside-counted low [] k i rises here = absurd cc
inside-counted low (j ∷ js) zero i rises here = none_inside i.id (j ∷ js) (first_is_least low i j js (some_is here) rises)
inside-counted low (j ∷ js) (suc k) i rises here =
    let before = and-true (in_idat j) (ltb j.id i.id) (length j.bytes) (lt-ltb j.id i.id (comes_first low j js k i rises here)) in
    let rest = inside-counted j.id js k i rises.1 here in
    omega (arith, sum_by-cons (inside_before i.id) j js, sum_by-cons inside j (take k js), before, rest)

pub idat_offset-counted : (is : List Item) (k : ℕ) (i : Item) → RisesFrom ◌<◌ 0 (ids_of is) → slice_get is k ≡ Some i
    → idat_offset is i ≡ sum_by inside (take k is)
idat_offset-counted is k i rises here = sym (sum-bytes (λ (j : Item). in_idat j && ltb j.id i.id) is) ∙ inside-counted 0 is k i rises here

-- ---- mdat

abbrev outside : Item → ℕ
outside j = cond (in_idat j) 0 (length j.bytes)

abbrev outside_from : ℕ → Item → ℕ
outside_from id j = cond (is_written j) (cond (leb id j.id) (length j.bytes) 0) 0

nothing : (b : Bool) (n : ℕ) → cond b n n ≡ n
nothing true n = refl
nothing false n = refl

all_outside : (id : ℕ) (is : List Item) → AreFrom id is → sum_by (outside_from id) is ≡ sum_by outside is
all_outside id [] from = refl
all_outside id (j ∷ js) from =
    let here : outside_from id j ≡ outside j = ap (λ b. cond (is_written j) (cond b (length j.bytes) 0) 0) (le-leb id j.id from.0) ∙ sym (mdat-here j) in
    omega (arith, sum_by-cons (outside_from id) j js, sum_by-cons outside j js, here, all_outside id js from.1)

outside-counted : (low : ℕ) (is : List Item) (k : ℕ) (i : Item) → RisesFrom ◌<◌ low (ids_of is) → slice_get is k ≡ Some i
    → sum_by (outside_from i.id) is + sum_by outside (take k is) ≡ sum_by outside is
outside-counted low [] k i rises here = absurd cc
outside-counted low (j ∷ js) zero i rises here = omega (arith, all_outside i.id (j ∷ js) (first_is_least low i j js (some_is here) rises))
outside-counted low (j ∷ js) (suc k) i rises here =
    let less = lt-leb i.id j.id (comes_first low j js k i rises here) in
    let before : outside_from i.id j ≡ 0 = ap (λ b. cond (is_written j) (cond b (length j.bytes) 0) 0) less ∙ nothing (is_written j) 0 in
    let rest = outside-counted j.id js k i rises.1 here in
    omega (arith, sum_by-cons (outside_from i.id) j js, sum_by-cons outside j (take k js), sum_by-cons outside j js, before, rest)

pub mdat_offset-counted : (file_len : ℕ) (is : List Item) (k : ℕ) (i : Item) → RisesFrom ◌<◌ 0 (ids_of is) → slice_get is k ≡ Some i
    → sum_by outside is ≤ file_len
    → mdat_offset own file_len is i ≡ file_len - sum_by outside is + sum_by outside (take k is)
mdat_offset-counted file_len is k i rises here within =
    let from : length (bytes_in (filter (λ (j : Item). leb i.id j.id) (written own is))) ≡ sum_by (outside_from i.id) is =
    sym (sum-bytes (λ (j : Item). leb i.id j.id) (written own is)) ∙ sum-filter (λ (j : Item). cond (leb i.id j.id) (length j.bytes) 0) is_written is
    in
    omega (arith, from, outside-counted 0 is k i rises here, within)

pub offsets_are_counted : OffsetsAreCounted
unfolding counts_of
offsets_are_counted s file_len k i rises within here =
    let none = sum-zero s.groups in
    let all : (counts_of s).mdat ≡ sum_by outside s.items = omega (arith, none) in
    let out : mdat_offset own file_len s.items i ≡ file_len - (counts_of s).mdat + (counts_before k s.items).mdat =
    omega (arith, mdat_offset-counted file_len s.items k i rises here (omega (arith, within, all)), all)
    in
    ap (λ n. cond (in_idat i) n (mdat_offset own file_len s.items i)) (idat_offset-counted s.items k i rises here)
    ∙ ap (λ n. cond (in_idat i) (counts_before k s.items).idat n) out
