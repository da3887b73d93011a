-- Stores of many items and properties.
use Rattle.std.proofs.Common.{◌≡◌, ◌≢◌, ℕ, zero, suc, ◌+◌, ◌*◌, ◌^◌, ◌<◌, ◌≤◌, false, List, [], ◌∷◌, ◌++◌, length, map, refl, sym, ap, ◌∙◌, arith, inl, inr}
use Rattle.std.specs.Prelude.{fold}
use Rattle.std.specs.List.{AllByRecursion, range_with_len, flat_map, list_any}
use Rattle.std.proofs.lemmas.Bool.{cases_Bool, cases_lt}
use Rattle.std.proofs.lemmas.List.{append-nil}
use Rattle.std.proofs.lemmas.Grind.{flat_map-append}
use Rattle.std.proofs.lemmas.List.FromFn.{length-map-range_with_len}
use Rattle.hf_box.specs.Literals.{four}
use Rattle.hf_store.specs.Lists.{IsIn, RisesFrom}
use Rattle.hf_store.specs.Store.{Prop, Held, Item, ids_of}
use Rattle.hf_store.specs.Table.{same_prop, props_of, with_prop, table_of, number_of}
use Rattle.hf_store.specs.Valid.{IsFour, IsGoodItem}
use Rattle.hf_worked.specs.LimitStores.{numbered, holder, holders}
use Rattle.hf_store.proofs.Tables.{same_prop-is, same_prop-self}

-- ---- their properties are distinct

abbrev pub kind : ℕ → Prop
kind n = (numbered n).prop

first_of_two : List ℕ → ℕ
first_of_two (a ∷ bs) = a
first_of_two [] = 0

second_of_two : List ℕ → ℕ
second_of_two (a ∷ b ∷ bs) = b
second_of_two _ = 0

apart : (x y : ℕ) → x ≢ y → same_prop (kind x) (kind y) ≡ false
unfolding first_of_two second_of_two
apart x y other =
    elim (cases_Bool (same_prop (kind x) (kind y))) [
      | inl same ↦ let bodies = ap (λ (p : Prop). p.body) (same_prop-is (kind x) (kind y) same) in absurd (other (omega (arith, ap (λ (b : List ℕ). first_of_two b) bodies, ap (λ (b : List ℕ). second_of_two b) bodies)))
      | inr differs ↦ differs
    ]

not_among : (x a n : ℕ) → a + n ≤ x → list_any (same_prop (kind x)) (map kind (range_with_len a n)) ≡ false
not_among x a zero h = refl
not_among x a (suc n) h =
    let here : same_prop (kind x) (kind a) ≡ false = apart x a (omega arith) in
    rw here (not_among x (a + 1) n (omega arith))

kinds-append : (a n m k b : ℕ) → k ≡ n + m → b ≡ a + n → map kind (range_with_len a k) ≡ map kind (range_with_len a n) ++ map kind (range_with_len b m)
kinds-append a zero m k b e f = let k_is : k ≡ m = omega arith in let b_is : b ≡ a = omega arith in rw (k_is, b_is) refl
kinds-append a (suc n) m k b e f = let k_is : k ≡ suc (n + m) = omega arith in rw k_is (ap (λ (xs : List Prop). kind a ∷ xs) (kinds-append (a + 1) n m (n + m) b refl (omega arith)))

-- each is numbered by its place
pub number-kind : (x a n : ℕ) → a ≤ x → x < a + n → number_of (kind x) (map kind (range_with_len a n)) + a ≡ x + 1
number-kind x a zero low high = absurd (omega (arith, low, high))
number-kind x a (suc n) low high =
    elim (cases_lt a x) [
      | inl later ↦ rw (apart x a (λ e. omega (arith, later, e))) (omega (arith, number-kind x (a + 1) n (omega arith) (omega arith)))
      | inr here ↦ let same : x ≡ a = omega (arith, low, here) in rw same (rw (same_prop-self (kind a)) (omega arith))
    ]

-- a table takes each of them
taken : (a n k : ℕ) → k ≡ a + n → fold with_prop (map kind (range_with_len 0 a)) (map kind (range_with_len a n)) ≡ map kind (range_with_len 0 k)
taken a zero k e = let k_is : k ≡ a = omega arith in rw k_is refl
taken a (suc n) k e =
    let none : list_any (same_prop (kind a)) (map kind (range_with_len 0 a)) ≡ false = not_among a 0 a (omega arith) in
    let more : map kind (range_with_len 0 a) ++ kind a ∷ [] ≡ map kind (range_with_len 0 (a + 1)) = sym (kinds-append 0 a 1 (a + 1) a refl (omega arith)) in
    let step : with_prop (map kind (range_with_len 0 a)) (kind a) ≡ map kind (range_with_len 0 (a + 1)) = rw none more in
    ap (λ (table : List Prop). fold with_prop table (map kind (range_with_len (a + 1) n))) step ∙ taken (a + 1) n k (omega arith)

props-are : (a n : ℕ) → map (λ (h : Held). h.prop) (map numbered (range_with_len a n)) ≡ map kind (range_with_len a n)
props-are a zero = refl
props-are a (suc n) = ap (λ (ps : List Prop). kind a ∷ ps) (props-are (a + 1) n)

-- the properties of the items, in order
of_each : (each a n m b : ℕ) → m ≡ each * n → b ≡ each * a → flat_map props_of (map (λ k. holder (k + 1) (each * k) each) (range_with_len a n)) ≡ map kind (range_with_len b m)
of_each each a zero m b e f = let none : m ≡ 0 = omega arith in rw none refl
of_each each a (suc n) m b e f =
    let first : map (λ (h : Held). h.prop) (map numbered (range_with_len (each * a) each)) ≡ map kind (range_with_len b each) = rw (← f) (props-are b each) in
    let rest = of_each each (a + 1) n (each * n) (b + each) refl (omega arith) in
    rw (first, rest) (sym (kinds-append b each (each * n) m (b + each) (omega arith) refl))

pub holders-kinds : (count each rest m : ℕ) → m ≡ each * count + rest → flat_map props_of (holders count each rest).items ≡ map kind (range_with_len 0 m)
unfolding holders
holders-kinds count each rest m e =
    let front = of_each each 0 count (each * count) 0 refl (omega arith) in
    let last : flat_map props_of (holder (count + 1) (each * count) rest ∷ []) ≡ map kind (range_with_len (each * count) rest) = append-nil _ ∙ props-are (each * count) rest in
    flat_map-append props_of (map (λ n. holder (n + 1) (each * n) each) (range_with_len 0 count)) (holder (count + 1) (each * count) rest ∷ [])
    ∙ ap (λ (ps : List Prop). ps ++ flat_map props_of (holder (count + 1) (each * count) rest ∷ [])) front
    ∙ ap (λ (ps : List Prop). map kind (range_with_len 0 (each * count)) ++ ps) last
    ∙ sym (kinds-append 0 (each * count) rest m (each * count) e (omega arith))

pub holders-table : (count each rest m : ℕ) → m ≡ each * count + rest → table_of (holders count each rest) ≡ map kind (range_with_len 0 m)
unfolding table_of
holders-table count each rest m e = ap (λ (ps : List Prop). fold with_prop [] ps) (holders-kinds count each rest m e) ∙ taken 0 m m (omega arith)

pub holders-distinct : (count each rest : ℕ) → length (table_of (holders count each rest)) ≡ each * count + rest
holders-distinct count each rest = ap length (holders-table count each rest (each * count + rest) refl) ∙ length-map-range_with_len kind 0 (each * count + rest)

-- ---- their items

-- an item with nothing but an id and properties
pub record IsBare (i : Item) : Type 0 where
  pub kind : i.kind ≡ four "hvc1"
  pub name : i.name ≡ []
  pub bytes : i.bytes ≡ []
  pub refs : i.refs ≡ []

holder-bare : (id first n : ℕ) → IsBare (holder id first n)
holder-bare id first n = record { kind = refl; name = refl; bytes = refl; refs = refl }

kinds_four : (first n : ℕ) → AllByRecursion (λ (h : Held). IsFour h.prop.kind) (map numbered (range_with_len first n))
kinds_four first zero = tt
kinds_four first (suc n) = (refl, kinds_four (first + 1) n)

holder-good : (all : List Item) (id first n : ℕ) → id < 256 ^ 4 → n ≤ 255 → IsGoodItem all (holder id first n)
holder-good all id first n small few =
    record {
      id = small;
      kind = refl;
      name = tt;
      content = tt;
      encoding = tt;
      uri = tt;
      only_mime = inr (refl, refl);
      only_uri = inr refl;
      props = omega (arith, length-map-range_with_len numbered first n);
      prop_kinds = kinds_four first n;
      refs = tt;
      kinds_rise = tt;
      fits = search arith;
    }

-- the items from number a on, and the last one
abbrev pub from_on : ℕ → ℕ → ℕ → ℕ → ℕ → List Item
from_on each a n last rest = map (λ k. holder (k + 1) (each * k) each) (range_with_len a n) ++ holder (last + 1) (each * last) rest ∷ []

pub all_bare : (each a n last rest : ℕ) → AllByRecursion IsBare (from_on each a n last rest)
all_bare each a zero last rest = (holder-bare (last + 1) (each * last) rest, tt)
all_bare each a (suc n) last rest = (holder-bare (a + 1) (each * a) each, all_bare each (a + 1) n last rest)

pub all_good : (all : List Item) (each a n last rest : ℕ) → a + n ≤ last → last + 1 < 256 ^ 4 → each ≤ 255 → rest ≤ 255 → AllByRecursion (IsGoodItem all) (from_on each a n last rest)
all_good all each a zero last rest before small few few_left = (holder-good all (last + 1) (each * last) rest small few_left, tt)
all_good all each a (suc n) last rest before small few few_left =
    (holder-good all (a + 1) (each * a) each (omega arith) few, all_good all each (a + 1) n last rest (omega arith) small few few_left)

pub all_rise : (each a n last rest low : ℕ) → a + n ≤ last → low < a + 1 → low < last + 1 → RisesFrom ◌<◌ low (ids_of (from_on each a n last rest))
all_rise each a zero last rest low before first later = (later, tt)
all_rise each a (suc n) last rest low before first later = (first, all_rise each (a + 1) n last rest (a + 1) (omega arith) (omega arith) (omega arith))

pub last_in : (each a n last rest : ℕ) → IsIn (last + 1) (ids_of (from_on each a n last rest))
last_in each a zero last rest = inl refl
last_in each a (suc n) last rest = inr (last_in each (a + 1) n last rest)
