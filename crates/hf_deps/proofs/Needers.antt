-- Which item is told to need another one.
use Rattle.std.proofs.Common.{◌≡◌, ◌≢◌, ℕ, ◌<◌, ◌≤◌, Bool, true, false, not, ◌&&◌, ◌||◌, cond, List, [], ◌∷◌, refl, sym, ap, ◌∙◌, arith, inl, inr, subst, eqb-true, Option, Some, None}
use Rattle.std.specs.Prelude.{◌==◌, IsTrue}
use Rattle.std.specs.List.{list_any}
use Rattle.std.proofs.lemmas.Bool.{cases_Bool, and_parts, eq-eqb}
use Rattle.hf_store.specs.Lists.{IsIn, RisesFrom}
use Rattle.hf_store.specs.Changes.{removed}
use Rattle.hf_store.specs.Store.{Item, ItemStore, ids_of}
use Rattle.hf_store.specs.Valid.{Valid}
use Rattle.hf_store.specs.declared.item.RefList.{RefList}
use Rattle.hf_store.proofs.CutValid.{valid_removed}
use Rattle.hf_store.proofs.Finds.{found, finds}
use Rattle.hf_links.specs.Kinds.{is_need}
use Rattle.hf_deps.specs.Needs.{Needs, needs, needed_by, IsLeastNeeder, LeastNeederIsTold, NoNeederIsTold}

-- ---- a test of references

both : (x y : Bool) → x ≡ true → y ≡ true → (x && y) ≡ true
both x y e f = rw (e, f) refl

second_or : (x y : Bool) → y ≡ true → (x || y) ≡ true
second_or true y e = refl
second_or false y e = e

abbrev needs_by : ℕ → RefList → Bool
needs_by id r = is_need r.kind && list_any (λ to. to == id) r.to

need_found : (id : ℕ) (rs : List RefList) → list_any (needs_by id) rs ≡ true → (r : RefList) × IsIn r rs × IsTrue (is_need r.kind) × IsIn id r.to
need_found id [] e = absurd cc
need_found id (r ∷ rs) e =
    elim (cases_Bool (needs_by id r)) [
      | inl here ↦ let parts = and_parts _ _ here in (r, inl refl, parts.0, found id r.to parts.1)
      | inr not_here ↦ let later = need_found id rs (subst (λ (b : Bool). (b || list_any (needs_by id) rs) ≡ true) not_here e) in (later.0, inr later.1, later.2, later.3)
    ]

finds_need : (id : ℕ) (rs : List RefList) (r : RefList) → IsIn r rs → IsTrue (is_need r.kind) → IsIn id r.to → list_any (needs_by id) rs ≡ true
finds_need id [] r h need to = absurd h
finds_need id (q ∷ rs) r (inl e) need to =
    let here : needs_by id r ≡ true = both _ _ need (finds id r.to to) in
    ap (λ (b : Bool). b || list_any (needs_by id) rs) (ap (needs_by id) e ∙ here)
finds_need id (q ∷ rs) r (inr h) need to = second_or _ _ (finds_need id rs r h need to)

-- ---- a test of items

is_not : (x y : ℕ) → not (x == y) ≡ true → x ≢ y
is_not x y e same = let no : not (x == y) ≡ false = ap not (eq-eqb x y same) in cc

test_not : (x y : ℕ) → x ≢ y → not (x == y) ≡ true
test_not x y other = elim (cases_Bool (x == y)) [ inl e ↦ absurd (other (eqb-true x y e)) | inr e ↦ ap not e ]

abbrev is_needer : ℕ → Item → Bool
is_needer id i = not (i.id == id) && needs id i

-- an item that another one needs, by its reference
needer_of : (s : ItemStore) (a id : ℕ) → a ≢ id → Needs s a id → (i : Item) × IsIn i s.items × (i.id ≡ a) × (is_needer id i ≡ true)
needer_of s a id other h =
    (h.0, h.2, h.3, both _ _ (test_not h.0.id id (λ e. other (sym h.3 ∙ e))) (finds_need id h.0.refs h.1 h.4 h.5 h.6))

needs_of : (s : ItemStore) (i : Item) (id : ℕ) → IsIn i s.items → is_needer id i ≡ true → Needs s i.id id
needs_of s i id there e =
    let by = need_found id i.refs (and_parts _ _ e).1 in
    (i, by.0, there, refl, by.1, by.2, by.3)

-- ---- the first item that needs it

none_found : (id : ℕ) (is : List Item) (i : Item) → needed_by id is ≡ None → IsIn i is → is_needer id i ≡ true → ⊥
none_found id [] i e there need = there
none_found id (j ∷ is) i e there need =
    elim (cases_Bool (is_needer id j)) [
      | inl here ↦ let no = subst (λ (b : Bool). cond b (Some j.id) (needed_by id is) ≡ None) here e in cc
      | inr not_here ↦ elim there [
        | inl same ↦ let no : is_needer id j ≡ true = ap (is_needer id) same ∙ need in cc
        | inr later ↦ none_found id is i (subst (λ (b : Bool). cond b (Some j.id) (needed_by id is) ≡ None) not_here e) later need
      ]
    ]

finds_none : (id : ℕ) (is : List Item) → ((i : Item) → IsIn i is → is_needer id i ≡ true → ⊥) → needed_by id is ≡ None
finds_none id [] none = refl
finds_none id (j ∷ is) none =
    elim (cases_Bool (is_needer id j)) [
      | inl here ↦ absurd (none j (inl refl) here)
      | inr not_here ↦ ap (λ (b : Bool). cond b (Some j.id) (needed_by id is)) not_here ∙ finds_none id is (λ i there. none i (inr there))
    ]

some_found : (id by : ℕ) (is : List Item) → needed_by id is ≡ Some by → (i : Item) × IsIn i is × (i.id ≡ by) × (is_needer id i ≡ true)
some_found id by [] e = absurd cc
some_found id by (j ∷ is) e =
    elim (cases_Bool (is_needer id j)) [
      | inl here ↦ let first : Some j.id ≡ Some by = subst (λ (b : Bool). cond b (Some j.id) (needed_by id is) ≡ Some by) here e in (j, inl refl, cc, here)
      | inr not_here ↦ let later = some_found id by is (subst (λ (b : Bool). cond b (Some j.id) (needed_by id is) ≡ Some by) not_here e) in (later.0, inr later.1, later.2, later.3)
    ]

above : (low : ℕ) (is : List Item) (i : Item) → RisesFrom ◌<◌ low (ids_of is) → IsIn i is → low < i.id
above low [] i rises there = absurd there
above low (j ∷ is) i rises (inl e) = subst (λ (k : Item). low < k.id) e rises.0
above low (j ∷ is) i rises (inr h) = omega (arith, rises.0, above j.id is i rises.1 h)

first_is_least : (id by low : ℕ) (is : List Item) (i : Item) → RisesFrom ◌<◌ low (ids_of is) → needed_by id is ≡ Some by → IsIn i is → is_needer id i ≡ true → by ≤ i.id
first_is_least id by low [] i rises e there need = absurd there
first_is_least id by low (j ∷ is) i rises e there need =
    elim (cases_Bool (is_needer id j)) [
      | inl here ↦
          let first : Some j.id ≡ Some by = subst (λ (b : Bool). cond b (Some j.id) (needed_by id is) ≡ Some by) here e in
          let same : j.id ≡ by = cc in
          elim there [
            | inl self ↦ let ids : j.id ≡ i.id = ap (λ (k : Item). k.id) self in omega (arith, same, ids)
            | inr later ↦ omega (arith, same, above j.id is i rises.1 later)
          ]
      | inr not_here ↦ elim there [
        | inl self ↦ absurd (let no : is_needer id j ≡ true = ap (is_needer id) self ∙ need in cc)
        | inr later ↦ first_is_least id by j.id is i rises.1 (subst (λ (b : Bool). cond b (Some j.id) (needed_by id is) ≡ Some by) not_here e) later need
      ]
    ]

-- ---- the laws

told_is_least : (s : ItemStore) (id by : ℕ) → Valid s → needed_by id s.items ≡ Some by → IsLeastNeeder s id by
told_is_least s id by valid e =
    let first = some_found id by s.items e in
    record {
      other = λ same. is_not first.0.id id (and_parts _ _ first.3).0 (first.2 ∙ same);
      needed = subst (λ (n : ℕ). Needs s n id) first.2 (needs_of s first.0 id first.1 first.3);
      least = λ a other h.
          let needer = needer_of s a id other h in
          subst (λ (n : ℕ). by ≤ n) needer.2 (first_is_least id by 0 s.items needer.0 valid.ids_rise e needer.1 needer.3);
    }

least_is_told : (s : ItemStore) (id by : ℕ) (told : Option ℕ) → Valid s → IsLeastNeeder s id by → needed_by id s.items ≡ told → told ≡ Some by
least_is_told s id by None valid least e =
    let needer = needer_of s by id least.other least.needed in
    absurd (none_found id s.items needer.0 e needer.1 needer.3)
least_is_told s id by (Some first) valid least e =
    let told = told_is_least s id first valid e in
    let same : first ≡ by = omega (arith, told.least by least.other least.needed, least.least first told.other told.needed) in
    ap Some same

pub least_needer_is_told : LeastNeederIsTold
least_needer_is_told s id by valid = (told_is_least s id by valid, λ least. least_is_told s id by (needed_by id s.items) valid least refl)

pub no_needer_is_told : NoNeederIsTold
no_needer_is_told s id = (
  λ e a other h. let needer = needer_of s a id other h in none_found id s.items needer.0 e needer.1 needer.3,
  λ none. finds_none id s.items (λ i there need. none i.id (is_not i.id id (and_parts _ _ need).0) (needs_of s i id there need)),
)

-- ---- an item that no other one needs

first_or : (b c d : Bool) → b ≡ true → (b || c || d) ≡ true
first_or true c d e = refl
first_or false c d e = absurd cc

-- what is left of a valid store without such an item, which is not the primary, is valid
pub valid_unneeded : (s : ItemStore) (id : ℕ) → Valid s → (s.primary == id) ≡ false → needed_by id s.items ≡ None → Valid (removed id s)
valid_unneeded s id valid shown none =
    valid_removed s id valid shown
    (λ i r there other has input leads. (no_needer_is_told s id).0 none i.id other (i, r, there, refl, has, first_or _ _ _ input, leads))
