-- The least id that something bad stands at, found in one pass over what may be bad.
use Rattle.std.proofs.Common.{◌≡◌, ℕ, ◌+◌, ◌≤◌, ◌<◌, min, Bool, true, false, not, ◌&&◌, ◌||◌, eqb, List, [], ◌∷◌, length, take, get_or, find, Option, Some, None}
use Rattle.std.proofs.Common.{refl, sym, ap, subst, ◌∙◌, arith, inl, inr}
use Rattle.std.specs.List.{list_any}
use Rattle.std.specs.Prelude.{nat_lt}
use Rattle.std.specs.Option.{unwrap_or}
use Rattle.std.proofs.lemmas.Bool.{cases_Bool, and_parts, eqb-true, eq-eqb}
use Rattle.std.proofs.lemmas.List.Folds.{list_any-append, list_any_more}
use Rattle.hf_base.specs.Entries.{has_id}
use Rattle.hf_base.specs.Members.{IsIn, RisesFrom, Rises}
use Rattle.hf_base.specs.declared.loc.RefBox.{RefBox}
use Rattle.hf_order.proofs.Members.{has_in, in_has}
use Rattle.hf_prop.specs.declared.assoc.Assoc.{Assoc}
use Rattle.hf_prop.specs.declared.assoc.Pick.{Pick}
use Rattle.hf_prop.specs.declared.iprp.Iprp.{Iprp}
use Rattle.hf_links.specs.Kinds.{is_need}
use Rattle.hf_read.specs.Faults.{is_past}
use Rattle.hf_read.specs.Kept.{picks_of}

-- ---- the first of some ids

pub find_same : (p q : ℕ → Bool) (ids : List ℕ) → ((id : ℕ) → IsIn id ids → p id ≡ q id) → find p ids ≡ find q ids
find_same p q [] same = refl
find_same p q (id ∷ ids) same = elim (cases_Bool (q id)) [
  | inl t ↦ let s = same id (inl refl) ∙ t in rw (s, t) refl
  | inr f ↦ let s = same id (inl refl) ∙ f in rw (s, f) (find_same p q ids (λ i h. same i (inr h)))
]

-- one id more is told where it passes
abbrev or_there : (ℕ → Bool) → ℕ → ℕ → Bool
or_there p k id = p id || (eqb k id && true)

above : (low : ℕ) (ids : List ℕ) (k : ℕ) → RisesFrom ◌<◌ low ids → IsIn k ids → low < k
above low [] k up h = absurd h
above low (x ∷ xs) k up (inl e) = subst (λ (n : ℕ). low < n) e up.0
above low (x ∷ xs) k up (inr h) = let next = above x xs k up.1 h in let first : low < x = up.0 in omega arith

at_most : (x : ℕ) (xs : List ℕ) (k : ℕ) → RisesFrom ◌<◌ x xs → IsIn k (x ∷ xs) → x ≤ k
at_most x xs k up (inl e) = omega arith
at_most x xs k up (inr h) = let over = above x xs k up h in omega arith

tail_rises : (x : ℕ) (xs : List ℕ) → RisesFrom ◌<◌ x xs → Rises ◌<◌ xs
tail_rises x [] up = tt
tail_rises x (y ∷ ys) up = up.1

find_in : (p : ℕ → Bool) (ids : List ℕ) (id : ℕ) → find p ids ≡ Some id → IsIn id ids
find_in p [] id e = absurd cc
find_in p (x ∷ xs) id e = elim (cases_Bool (p x)) [
  | inl t ↦ let s : find p (x ∷ xs) ≡ Some x = rw t refl in let same : Some x ≡ Some id = sym s ∙ e in inl cc
  | inr f ↦ let s : find p (x ∷ xs) ≡ find p xs = rw f refl in inr (find_in p xs id (sym s ∙ e))
]

lesser_here : (x : ℕ) (o : Option ℕ) → ((id : ℕ) → o ≡ Some id → x < id) → min (unwrap_or o x) x ≡ x
lesser_here x None over = omega arith
lesser_here x (Some id) over = let lt = over id refl in omega arith

first_more : (p : ℕ → Bool) (ids : List ℕ) (k : ℕ) → Rises ◌<◌ ids → IsIn k ids → find (or_there p k) ids ≡ Some (min (unwrap_or (find p ids) k) k)
first_more p [] k up h = absurd h
first_more p (x ∷ xs) k up h = elim (cases_Bool (p x)) [
  | inl t ↦
      let left : find (or_there p k) (x ∷ xs) ≡ Some x = rw t refl in
      let right : find p (x ∷ xs) ≡ Some x = rw t refl in
      let le = at_most x xs k up h in
      let least : x ≡ min x k = omega arith in
      left ∙ ap (λ (n : ℕ). Some n) least ∙ ap (λ (o : Option ℕ). Some (min (unwrap_or o k) k)) (sym right)
  | inr f ↦ elim (cases_Bool (eqb k x)) [
    | inl same ↦
        let e : k ≡ x = eqb-true k x same in
        let left : find (or_there p k) (x ∷ xs) ≡ Some x = rw (f, same) refl in
        let right : find p (x ∷ xs) ≡ find p xs = rw f refl in
        let least : min (unwrap_or (find p xs) x) x ≡ x = lesser_here x (find p xs) (λ id there. above x xs id up (find_in p xs id there)) in
        let at_k : min (unwrap_or (find p xs) k) k ≡ x = ap (λ (n : ℕ). min (unwrap_or (find p xs) n) n) e ∙ least in
        left ∙ ap (λ (n : ℕ). Some n) (sym at_k) ∙ ap (λ (o : Option ℕ). Some (min (unwrap_or o k) k)) (sym right)
    | inr other ↦
        let left : find (or_there p k) (x ∷ xs) ≡ find (or_there p k) xs = rw (f, other) refl in
        let right : find p (x ∷ xs) ≡ find p xs = rw f refl in
        let behind : IsIn k xs = elim h [
          | inl e ↦ absurd (let t = eq-eqb k x (sym e) in let no : true ≡ false = sym t ∙ other in cc)
          | inr there ↦ there
        ] in
        left ∙ first_more p xs k (tail_rises x xs up) behind ∙ ap (λ (o : Option ℕ). Some (min (unwrap_or o k) k)) (sym right)
  ]
]

-- ---- one pass over what may be bad

-- something bad stands at this id
abbrev pub stands : {A : Type 0} → (A → ℕ) → (A → Bool) → List A → ℕ → Bool
stands key bad xs id = list_any (λ x. eqb (key x) id && bad x) xs

pub none_yet : (ids : List ℕ) → find (λ (id : ℕ). false) ids ≡ None
none_yet [] = refl
none_yet (id ∷ ids) = none_yet ids

-- one more, at which something bad stands: m is the least id before it, or its own id where there was none
pub least_more : {A : Type 0} (key : A → ℕ) (bad : A → Bool) (ids : List ℕ) (xs : List A) {i : ℕ} {x : A} {o : Option ℕ} {m n : ℕ}
    → Rises ◌<◌ ids → i < length xs → x ≡ get_or xs i x → has_id (key x) ids && bad x ≡ true
    → o ≡ find (stands key bad (take i xs)) ids → m ≡ unwrap_or o (key x) → n ≡ min m (key x) → Some n ≡ find (stands key bad (take (i + 1) xs)) ids
least_more {A = A} key bad ids xs {i = i} {x = x} {o = o} {m = m} {n = n} up less here both before first lesser =
    let p = and_parts (has_id (key x) ids) (bad x) both in
    let step : (id : ℕ) → IsIn id ids → stands key bad (take (i + 1) xs) id ≡ or_there (stands key bad (take i xs)) (key x) id = λ id h.
    list_any_more (λ (y : A). eqb (key y) id && bad y) xs i x less
    ∙ ap (λ (y : A). stands key bad (take i xs) id || (eqb (key y) id && bad y)) (sym here)
    ∙ ap (λ (b : Bool). stands key bad (take i xs) id || (eqb (key x) id && b)) p.1 in
    let told : n ≡ min (unwrap_or (find (stands key bad (take i xs)) ids) (key x)) (key x) =
    lesser ∙ ap (λ (k : ℕ). min k (key x)) (first ∙ ap (λ (l : Option ℕ). unwrap_or l (key x)) before) in
    ap (λ (k : ℕ). Some k) told
    ∙ sym (find_same (stands key bad (take (i + 1) xs)) (or_there (stands key bad (take i xs)) (key x)) ids step
    ∙ first_more (stands key bad (take i xs)) ids (key x) up (in_has (key x) ids p.0))

or_false : (b : Bool) → b || false ≡ b
or_false true = refl
or_false false = refl

not_both : (ids : List ℕ) (k id : ℕ) (b : Bool) → has_id k ids && b ≡ false → IsIn id ids → eqb k id && b ≡ false
not_both ids k id true e h = elim (cases_Bool (eqb k id)) [
  | inl t ↦ absurd (
      let there : has_id k ids ≡ true = has_in k ids (subst (λ (n : ℕ). IsIn n ids) (sym (eqb-true k id t)) h) in
      let yes : has_id k ids && true ≡ true = rw there refl in
      let clash : true ≡ false = sym yes ∙ e in
      cc)
  | inr f ↦ rw f refl
]
not_both ids k id false e h = elim (cases_Bool (eqb k id)) [ inl t ↦ rw t refl | inr f ↦ rw f refl ]

-- one more, at which nothing bad stands
pub least_same : {A : Type 0} (key : A → ℕ) (bad : A → Bool) (ids : List ℕ) (xs : List A) {i : ℕ} {x : A} → i < length xs → x ≡ get_or xs i x
    → has_id (key x) ids && bad x ≡ false → find (stands key bad (take i xs)) ids ≡ find (stands key bad (take (i + 1) xs)) ids
least_same {A = A} key bad ids xs {i = i} {x = x} less here fine =
    let step : (id : ℕ) → IsIn id ids → stands key bad (take (i + 1) xs) id ≡ stands key bad (take i xs) id = λ id h.
    list_any_more (λ (y : A). eqb (key y) id && bad y) xs i x less
    ∙ ap (λ (y : A). stands key bad (take i xs) id || (eqb (key y) id && bad y)) (sym here)
    ∙ ap (λ (b : Bool). stands key bad (take i xs) id || b) (not_both ids (key x) id (bad x) fine h)
    ∙ or_false (stands key bad (take i xs) id) in
    sym (find_same (stands key bad (take (i + 1) xs)) (stands key bad (take i xs)) ids step)

-- ---- what is bad

-- references that are needed, and one of them names no item
abbrev pub dangles : List ℕ → RefBox → Bool
dangles ids r = is_need r.kind && list_any (λ to. not (has_id to ids)) r.to

-- an association of the entry is past the last of so many properties
abbrev pub passes : ℕ → Assoc → Bool
passes props a = list_any (λ (p : Pick). nat_lt props p.index) a.picks

abbrev past_at : ℕ → List Assoc → ℕ → Bool
past_at props assocs id = stands (λ (a : Assoc). a.item) (passes props) assocs id

picked : (props id : ℕ) (assocs : List Assoc) → list_any (λ (p : Pick). nat_lt props p.index) (picks_of id assocs) ≡ past_at props assocs id
picked props id [] = refl
picked props id (a ∷ assocs) =
    let test : Pick → Bool = λ p. nat_lt props p.index in
    elim (cases_Bool (eqb a.item id)) [
      | inl t ↦ rw t (list_any-append test a.picks (picks_of id assocs) ∙ ap (λ (b : Bool). list_any test a.picks || b) (picked props id assocs))
      | inr f ↦ rw f (picked props id assocs)
    ]

pub past_is : (ids : List ℕ) (v : Iprp)
    → find (past_at (length v.props) v.assocs) ids ≡ find (λ id. list_any (is_past v.props) (picks_of id v.assocs)) ids
past_is ids v =
    let past : ℕ → Bool = λ id. list_any (is_past v.props) (picks_of id v.assocs) in
    find_same (past_at (length v.props) v.assocs) past ids (λ id h. sym (picked (length v.props) id v.assocs))
