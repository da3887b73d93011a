-- References that are written come back.
use Rattle.std.proofs.Common.{◌≡◌, ◌≢◌, ℕ, ◌<◌, ◌≤◌, Bool, true, false, ◌&&◌, ◌||◌, cond, eqb, List, [], ◌∷◌, ◌++◌, length, refl, sym, ap, ◌∙◌, arith, ◌⊎◌, inl, inr, subst}
use Rattle.std.specs.Prelude.{filter, ◌==◌}
use Rattle.std.specs.List.{flat_map, AllByRecursion, list_any}
use Rattle.std.specs.Ordering.{nat_cmp, ordering_reverse}
use Rattle.std.specs.declared.cmp.Ordering.{Ordering}
use Rattle.std.specs.declared.cmp.Ordering.TheVariants.{Less, Equal, Greater}
use Rattle.std.specs.Cmp.Lexicographic.{slice_cmp}
use Rattle.std.proofs.lemmas.Cmp.{nat_list_cmp_total}
use Rattle.std.proofs.lemmas.Map.Lookups.{exact_bytes}
use Rattle.std.proofs.lemmas.List.{append_assoc, append-nil}
use Rattle.std.proofs.lemmas.Bool.{cases_Bool, and_parts, and_from, eqb-true, eq-eqb, ne_eqb}
use Rattle.std.proofs.lemmas.Slice.Eq.{bytes_eq-Decides}
use Rattle.hf_base.specs.declared.four.FourCc.{FourCc}
use Rattle.hf_box.specs.Head.{box}
use Rattle.hf_box.specs.Walk.{is_kind}
use Rattle.hf_store.specs.Lists.{IsIn, RisesFrom, Rises}
use Rattle.hf_store.specs.Store.{RefList, Item, ids_of}
use Rattle.hf_box.specs.Literals.{four}
use Rattle.hf_links.specs.Iref.{reference_body, reference_box}
use Rattle.hf_store.specs.Layout.{item_boxes, all_boxes}
use Rattle.hf_store.specs.Valid.{IsBelow, IsGoodRef, IsGoodItem}
use Rattle.hf_store.specs.References.{RefBox, joined, kinds_of, IsKept, is_id, BoxesAreWritten, ReferencesComeBack, ReferencesOnce}
use Rattle.hf_store.proofs.Tables.{is_kind-is}

-- ---- the order of types

pub is_kind-self : (a : FourCc) → is_kind a a ≡ true
is_kind-self a = (bytes_eq-Decides a.0 a.0).1 refl

pub below_irreflexive : (a : FourCc) → IsBelow a a → ⊥
below_irreflexive a e =
    let flipped : slice_cmp nat_cmp a.0 a.0 ≡ ordering_reverse (slice_cmp nat_cmp a.0 a.0) = nat_list_cmp_total.antisymm a.0 a.0 in
    let greater : ordering_reverse (slice_cmp nat_cmp a.0 a.0) ≡ Greater = ap ordering_reverse e in
    let both : Less ≡ Greater = sym e ∙ flipped ∙ greater in
    cc

pub below_transitive : (a b c : FourCc) → IsBelow a b → IsBelow b c → IsBelow a c
below_transitive a b c x y = nat_list_cmp_total.trans a.0 b.0 c.0 x y

ordering_cases : (o : Ordering) → (o ≡ Less) ⊎ ((o ≡ Equal) ⊎ (o ≡ Greater))
ordering_cases Less = inl refl
ordering_cases Equal = inr (inl refl)
ordering_cases Greater = inr (inr refl)

pub below_total : (a b : FourCc) → (a ≡ b) ⊎ (IsBelow a b ⊎ IsBelow b a)
below_total a b =
    elim (ordering_cases (slice_cmp nat_cmp a.0 b.0)) [
      | inl less ↦ inr (inl less)
      | inr (inl equal) ↦ let made : List ℕ → FourCc = λ k. record { 0 = k } in inl (ap made (exact_bytes a.0 b.0 equal))
      | inr (inr greater) ↦ inr (inr (nat_list_cmp_total.antisymm b.0 a.0 ∙ ap ordering_reverse greater))
    ]

pub rises : (low : FourCc) (kinds : List FourCc) → RisesFrom IsBelow low kinds → Rises IsBelow kinds
rises low [] h = tt
rises low (x ∷ xs) h = h.1

false_of : (b : Bool) → (b ≡ true → ⊥) → b ≡ false
false_of true h = absurd (h refl)
false_of false h = refl

or_right : (a b : Bool) → b ≡ true → (a || b) ≡ true
or_right true b e = refl
or_right false b e = e

second_false : (a b : Bool) → b ≡ false → (a && b) ≡ false
second_false true b e = e
second_false false b e = refl

-- what is below the first of them, or before it, is none of them
above_lacks : (low kind : FourCc) (kinds : List FourCc) → RisesFrom IsBelow low kinds → IsBelow kind low ⊎ (kind ≡ low) → IsIn kind kinds → ⊥
above_lacks low kind [] rise le h = h
above_lacks low kind (x ∷ xs) rise le h =
    let lower : IsBelow kind x = elim le [ inl k ↦ below_transitive kind low x k rise.0 | inr e ↦ subst (λ (y : FourCc). IsBelow y x) (sym e) rise.0 ] in
    elim h [
      | inl e ↦ below_irreflexive kind (subst (λ (y : FourCc). IsBelow kind y) e lower)
      | inr k ↦ above_lacks x kind xs rise.1 (inl lower) k
    ]

-- ---- the boxes of an item

joined-append : (keep : ℕ → Bool) (kind : FourCc) (from : ℕ) (xs ys : List RefBox) → joined keep kind from (xs ++ ys) ≡ joined keep kind from xs ++ joined keep kind from ys
joined-append keep kind from [] ys = refl
joined-append keep kind from (b ∷ bs) ys =
    let rest = joined-append keep kind from bs ys in
    elim (eqb b.from from && is_kind kind b.kind) as (λ c. cond c (filter keep b.to ++ joined keep kind from (bs ++ ys)) (joined keep kind from (bs ++ ys)) ≡ cond c (filter keep b.to ++ joined keep kind from bs) (joined keep kind from bs) ++ joined keep kind from ys) [
      | true ↦ ap (λ (xs : List ℕ). filter keep b.to ++ xs) rest ∙ sym (append_assoc (filter keep b.to) (joined keep kind from bs) (joined keep kind from ys))
      | false ↦ rest
    ]

-- boxes of another item add nothing
joined_other : (keep : ℕ → Bool) (kind : FourCc) (from other : ℕ) (rs : List RefList) → (other ≡ from → ⊥) → joined keep kind from (item_boxes other rs) ≡ []
joined_other keep kind from other [] ne = refl
joined_other keep kind from other (r ∷ rs) ne = rw (ne_eqb other from ne) (joined_other keep kind from other rs ne)

-- nor do boxes of other types
joined_without : (keep : ℕ → Bool) (kind : FourCc) (from : ℕ) (rs : List RefList) → (IsIn kind (kinds_of rs) → ⊥) → joined keep kind from (item_boxes from rs) ≡ []
joined_without keep kind from [] none = refl
joined_without keep kind from (r ∷ rs) none =
    let differs : is_kind kind r.kind ≡ false = false_of (is_kind kind r.kind) (λ e. none (inl (sym (is_kind-is kind r.kind e)))) in
    rw (eq-eqb from from refl, differs) (joined_without keep kind from rs (λ h. none (inr h)))

-- the lists of the later types do not see a box of an earlier one
abbrev AreJoined : (ℕ → Bool) → ℕ → List RefBox → List RefList → Type 0
AreJoined keep from bs rs = AllByRecursion (λ (r : RefList). r.to ≡ joined keep r.kind from bs) rs

later : (keep : ℕ → Bool) (from : ℕ) (bs : List RefBox) (b : RefBox) (low : FourCc) (rs : List RefList) → IsBelow b.kind low ⊎ (b.kind ≡ low) → RisesFrom IsBelow low (kinds_of rs) → AreJoined keep from bs rs → AreJoined keep from (b ∷ bs) rs
later keep from bs b low [] le rise are = tt
later keep from bs b low (r ∷ rs) le rise are =
    let lower : IsBelow b.kind r.kind = elim le [ inl k ↦ below_transitive b.kind low r.kind k rise.0 | inr e ↦ subst (λ (x : FourCc). IsBelow x r.kind) (sym e) rise.0 ] in
    let differs : is_kind r.kind b.kind ≡ false = false_of (is_kind r.kind b.kind) (λ e. below_irreflexive b.kind (subst (λ (x : FourCc). IsBelow b.kind x) (is_kind-is r.kind b.kind e) lower)) in
    let skipped : (eqb b.from from && is_kind r.kind b.kind) ≡ false = second_false (eqb b.from from) (is_kind r.kind b.kind) differs in
    (rw skipped are.0, later keep from bs b r.kind rs (inl lower) rise.1 are.1)

abbrev PassAll : (ℕ → Bool) → List RefList → Type 0
PassAll keep rs = AllByRecursion (λ (r : RefList). filter keep r.to ≡ r.to) rs

own_lists : (keep : ℕ → Bool) (from : ℕ) (rs : List RefList) → Rises IsBelow (kinds_of rs) → PassAll keep rs → AreJoined keep from (item_boxes from rs) rs
own_lists keep from [] rise pass = tt
own_lists keep from (r ∷ rs) rise pass =
    let here : (eqb from from && is_kind r.kind r.kind) ≡ true = and_from (eqb from from) (is_kind r.kind r.kind) (eq-eqb from from refl) (is_kind-self r.kind) in
    let none : joined keep r.kind from (item_boxes from rs) ≡ [] = joined_without keep r.kind from rs (above_lacks r.kind r.kind (kinds_of rs) rise (inr refl)) in (
      rw (here, none) (sym (append-nil (filter keep r.to) ∙ pass.0)),
      later keep from (item_boxes from rs) (record { kind = r.kind; from = from; to = r.to }) r.kind rs (inr refl) rise (own_lists keep from rs (rises r.kind (kinds_of rs) rise) pass.1),
    )

-- ---- among all items

others_none : (keep : ℕ → Bool) (kind : FourCc) (id low : ℕ) (is : List Item) → id ≤ low → RisesFrom ◌<◌ low (ids_of is) → joined keep kind id (all_boxes is) ≡ []
others_none keep kind id low [] le up = refl
others_none keep kind id low (j ∷ js) le up =
    let first : joined keep kind id (item_boxes j.id j.refs) ≡ [] = joined_other keep kind id j.id j.refs (λ e. omega (arith, e, up.0)) in
    let rest : joined keep kind id (all_boxes js) ≡ [] = others_none keep kind id j.id js (omega (arith, up.0)) up.1 in
    joined-append keep kind id (item_boxes j.id j.refs) (all_boxes js) ∙ rw (first, rest) refl

is_above : (low : ℕ) (i : Item) (is : List Item) → RisesFrom ◌<◌ low (ids_of is) → IsIn i is → low < i.id
is_above low i [] up h = absurd h
is_above low i (j ∷ js) up (inl e) = subst (λ (k : Item). low < k.id) e up.0
is_above low i (j ∷ js) up (inr h) = omega (arith, up.0, is_above j.id i js up.1 h)

only_own : (keep : ℕ → Bool) (kind : FourCc) (low : ℕ) (i : Item) (is : List Item) → RisesFrom ◌<◌ low (ids_of is) → IsIn i is → joined keep kind i.id (all_boxes is) ≡ joined keep kind i.id (item_boxes i.id i.refs)
only_own keep kind low i [] up h = absurd h
only_own keep kind low i (j ∷ js) up (inl e) =
    let rest : joined keep kind j.id (all_boxes js) ≡ [] = others_none keep kind j.id j.id js (omega arith) up.1 in
    let at_j : joined keep kind j.id (all_boxes (j ∷ js)) ≡ joined keep kind j.id (item_boxes j.id j.refs) =
    joined-append keep kind j.id (item_boxes j.id j.refs) (all_boxes js) ∙ rw rest (append-nil (joined keep kind j.id (item_boxes j.id j.refs)))
    in
    subst (λ (k : Item). joined keep kind k.id (all_boxes (j ∷ js)) ≡ joined keep kind k.id (item_boxes k.id k.refs)) e at_j
only_own keep kind low i (j ∷ js) up (inr h) =
    let first : joined keep kind i.id (item_boxes j.id j.refs) ≡ [] = joined_other keep kind i.id j.id j.refs (λ e. omega (arith, e, is_above j.id i js up.1 h)) in
    joined-append keep kind i.id (item_boxes j.id j.refs) (all_boxes js) ∙ rw first (only_own keep kind j.id i js up.1 h)

all_append : (P : RefBox → Type 0) (xs ys : List RefBox) → AllByRecursion P xs → AllByRecursion P ys → AllByRecursion P (xs ++ ys)
all_append P [] ys a b = b
all_append P (x ∷ xs) ys a b = (a.0, all_append P xs ys a.1 b)

abbrev Finds : Item → RefBox → Type 0
Finds i b = b.from ≡ i.id → IsIn b.kind (kinds_of i.refs)

far : (i : Item) (id : ℕ) (rs : List RefList) → (id ≡ i.id → ⊥) → AllByRecursion (Finds i) (item_boxes id rs)
far i id [] ne = tt
far i id (r ∷ rs) ne = (λ e. absurd (ne e), far i id rs ne)

far_all : (i : Item) (low : ℕ) (is : List Item) → i.id ≤ low → RisesFrom ◌<◌ low (ids_of is) → AllByRecursion (Finds i) (all_boxes is)
far_all i low [] le up = tt
far_all i low (j ∷ js) le up =
    all_append (Finds i) (item_boxes j.id j.refs) (all_boxes js) (far i j.id j.refs (λ e. omega (arith, e, up.0))) (far_all i j.id js (omega (arith, up.0)) up.1)

near : (i : Item) (from : ℕ) (rs : List RefList) → ((kind : FourCc) → IsIn kind (kinds_of rs) → IsIn kind (kinds_of i.refs)) → AllByRecursion (Finds i) (item_boxes from rs)
near i from [] all = tt
near i from (r ∷ rs) all = (λ _. all r.kind (inl refl), near i from rs (λ k h. all k (inr h)))

found_all : (low : ℕ) (i : Item) (is : List Item) → RisesFrom ◌<◌ low (ids_of is) → IsIn i is → AllByRecursion (Finds i) (all_boxes is)
found_all low i [] up h = absurd h
found_all low i (j ∷ js) up (inl e) =
    subst (λ (k : Item). AllByRecursion (Finds k) (all_boxes (j ∷ js))) e (all_append (Finds j) (item_boxes j.id j.refs) (all_boxes js) (near j j.id j.refs (λ k h. h)) (far_all j j.id js (omega arith) up.1))
found_all low i (j ∷ js) up (inr h) =
    all_append (Finds i) (item_boxes j.id j.refs) (all_boxes js) (far i j.id j.refs (λ e. omega (arith, e, is_above j.id i js up.1 h))) (found_all j.id i js up.1 h)

abbrev Covers : (ℕ → Bool) → List RefBox → ℕ → List RefList → RefBox → Type 0
Covers keep boxes from refs b = b.from ≡ from → (b.kind ≡ four "iloc") ⊎ ((joined keep b.kind from boxes ≡ []) ⊎ IsIn b.kind (kinds_of refs))

weaken : (keep : ℕ → Bool) (all bs : List RefBox) (i : Item) → AllByRecursion (Finds i) bs → AllByRecursion (Covers keep all i.id i.refs) bs
weaken keep all [] i h = tt
weaken keep all (b ∷ bs) i h = (λ e. inr (inr (h.0 e)), weaken keep all bs i h.1)

each_kept : (keep : ℕ → Bool) (i : Item) (is all : List Item) (rs : List RefList) → RisesFrom ◌<◌ 0 (ids_of is) → IsIn i is → AreJoined keep i.id (item_boxes i.id i.refs) rs → AllByRecursion (IsGoodRef all) rs
    → AllByRecursion (IsKept keep (all_boxes is) i.id) rs
each_kept keep i is all [] up h are good = tt
each_kept keep i is all (r ∷ rs) up h are good = (
  record { not_iloc = good.0.not_iloc; some = good.0.some; to = are.0 ∙ sym (only_own keep r.kind 0 i is up h) },
  each_kept keep i is all rs up h are.1 good.1,
)

-- ---- ids of items pass

found_is : (x : ℕ) (ids : List ℕ) → IsIn x ids → list_any (λ y. y == x) ids ≡ true
found_is x [] h = absurd h
found_is x (y ∷ ys) (inl e) = rw (eq-eqb y x e) refl
found_is x (y ∷ ys) (inr h) = or_right (y == x) (list_any (λ z. z == x) ys) (found_is x ys h)

passing : (ids xs : List ℕ) → AllByRecursion (λ x. IsIn x ids) xs → filter (λ x. list_any (λ y. y == x) ids) xs ≡ xs
passing ids [] h = refl
passing ids (x ∷ xs) h = rw (found_is x ids h.0) (ap (λ (l : List ℕ). x ∷ l) (passing ids xs h.1))

all_pass : (is : List Item) (rs : List RefList) → AllByRecursion (IsGoodRef is) rs → PassAll (is_id is) rs
all_pass is [] good = tt
all_pass is (r ∷ rs) good = (passing (ids_of is) r.to good.0.to, all_pass is rs good.1)

good_item : (all is : List Item) (i : Item) → AllByRecursion (IsGoodItem all) is → IsIn i is → IsGoodItem all i
good_item all [] i good h = absurd h
good_item all (j ∷ js) i good (inl e) = subst (IsGoodItem all) e good.0
good_item all (j ∷ js) i good (inr h) = good_item all js i good.1 h

pub references_come_back : ReferencesComeBack
references_come_back s i valid among =
    let good = good_item s.items s.items i valid.items among in
    let keep = is_id s.items in
    record {
      rise = good.kinds_rise;
      each = each_kept keep i s.items s.items i.refs valid.ids_rise among (own_lists keep i.id i.refs good.kinds_rise (all_pass s.items i.refs good.refs)) good.refs;
      all = weaken keep (all_boxes s.items) (all_boxes s.items) i (found_all 0 i s.items valid.ids_rise among);
    }

-- ---- one answer

-- what is joined comes from a box
covers : (keep : ℕ → Bool) (all bs : List RefBox) (kind : FourCc) (from : ℕ) (refs : List RefList) → kind ≢ four "iloc" → (joined keep kind from all ≡ [] → ⊥) → (joined keep kind from bs ≡ [] → ⊥)
    → AllByRecursion (Covers keep all from refs) bs → IsIn kind (kinds_of refs)
covers keep all [] kind from refs not_iloc some here h = absurd (here refl)
covers keep all (b ∷ bs) kind from refs not_iloc some here h =
    elim (cases_Bool (eqb b.from from && is_kind kind b.kind)) [
      | inl is_here ↦
          let parts = and_parts (eqb b.from from) (is_kind kind b.kind) is_here in
          let e : kind ≡ b.kind = is_kind-is kind b.kind parts.1 in
          elim (h.0 (eqb-true b.from from parts.0)) [
            | inl iloc ↦ absurd (not_iloc (e ∙ iloc))
            | inr (inl none) ↦ absurd (some (subst (λ (k : FourCc). joined keep k from all ≡ []) (sym e) none))
            | inr (inr has) ↦ subst (λ (k : FourCc). IsIn k (kinds_of refs)) (sym e) has
          ]
      | inr not_here ↦ covers keep all bs kind from refs not_iloc some (λ e. here (rw not_here e)) h.1
    ]

abbrev Covered : List RefList → List RefList → Type 0
Covered rs qs = AllByRecursion (λ (r : RefList). IsIn r.kind (kinds_of qs)) rs

not_empty : (xs ys : List ℕ) → 0 < length xs → xs ≡ ys → ys ≡ [] → ⊥
not_empty xs ys some e f = let n : length xs ≡ 0 = ap length (e ∙ f) in omega (arith, n, some)

all_covered : (keep : ℕ → Bool) (boxes : List RefBox) (from : ℕ) (others rs : List RefList) → AllByRecursion (IsKept keep boxes from) rs → AllByRecursion (Covers keep boxes from others) boxes → Covered rs others
all_covered keep boxes from others [] kept all = tt
all_covered keep boxes from others (r ∷ rs) kept all =
    let some : joined keep r.kind from boxes ≡ [] → ⊥ = not_empty r.to (joined keep r.kind from boxes) kept.0.some kept.0.to in
    (covers keep boxes boxes r.kind from others kept.0.not_iloc some some all, all_covered keep boxes from others rs kept.1 all)

uncovered : (low : FourCc) (q : RefList) (rs qs : List RefList) → RisesFrom IsBelow low (kinds_of rs) → IsBelow q.kind low ⊎ (q.kind ≡ low) → Covered rs (q ∷ qs) → Covered rs qs
uncovered low q [] qs rise le c = tt
uncovered low q (r ∷ rs) qs rise le c =
    let lower : IsBelow q.kind r.kind = elim le [ inl k ↦ below_transitive q.kind low r.kind k rise.0 | inr e ↦ subst (λ (x : FourCc). IsBelow x r.kind) (sym e) rise.0 ] in (
      elim c.0 [ inl e ↦ absurd (below_irreflexive q.kind (subst (λ (x : FourCc). IsBelow q.kind x) (sym e) lower)) | inr h ↦ h ],
      uncovered r.kind q rs qs rise.1 (inl lower) c.1,
    )

same_ref : (r q : RefList) → r.kind ≡ q.kind → r.to ≡ q.to → r ≡ q
same_ref r q e f =
    let made : FourCc → List ℕ → RefList = λ k t. record { kind = k; to = t } in
    let one : made r.kind r.to ≡ made q.kind q.to = rw (e, f) refl in
    one

lists_one : (keep : ℕ → Bool) (from : ℕ) (boxes : List RefBox) (rs qs : List RefList) → Rises IsBelow (kinds_of rs) → Rises IsBelow (kinds_of qs) → AllByRecursion (IsKept keep boxes from) rs → AllByRecursion (IsKept keep boxes from) qs → Covered rs qs → Covered qs rs → rs ≡ qs
lists_one keep from boxes [] [] a b x y c d = refl
lists_one keep from boxes [] (q ∷ qs) a b x y c d = absurd d.0
lists_one keep from boxes (r ∷ rs) [] a b x y c d = absurd c.0
lists_one keep from boxes (r ∷ rs) (q ∷ qs) a b x y c d =
    let before : IsBelow r.kind q.kind → ⊥ = λ lt. elim c.0 [ inl e ↦ below_irreflexive r.kind (subst (λ (k : FourCc). IsBelow r.kind k) e lt) | inr h ↦ above_lacks q.kind r.kind (kinds_of qs) b (inl lt) h ] in
    let after : IsBelow q.kind r.kind → ⊥ = λ lt. elim d.0 [ inl e ↦ below_irreflexive q.kind (subst (λ (k : FourCc). IsBelow q.kind k) e lt) | inr h ↦ above_lacks r.kind q.kind (kinds_of rs) a (inl lt) h ] in
    let kinds : r.kind ≡ q.kind = elim (below_total r.kind q.kind) [ inl e ↦ e | inr (inl h) ↦ absurd (before h) | inr (inr h) ↦ absurd (after h) ] in
    let to : r.to ≡ q.to = x.0.to ∙ ap (λ (k : FourCc). joined keep k from boxes) kinds ∙ sym y.0.to in
    let heads : r ≡ q = same_ref r q kinds to in
    let tails : rs ≡ qs =
    lists_one keep from boxes rs qs (rises r.kind (kinds_of rs) a) (rises q.kind (kinds_of qs) b) x.1 y.1 (uncovered r.kind q rs qs a (inr (sym kinds)) c.1) (uncovered q.kind r qs rs b (inr kinds) d.1)
    in
    cc

pub references_once : ReferencesOnce
references_once keep boxes from rs qs x y =
    lists_one keep from boxes rs qs x.rise y.rise x.each y.each (all_covered keep boxes from qs rs x.each y.all) (all_covered keep boxes from rs qs y.each x.all)

-- ---- the boxes

spelled-append : (wide : Bool) (xs ys : List RefBox) → flat_map (reference_box wide) (xs ++ ys) ≡ flat_map (reference_box wide) xs ++ flat_map (reference_box wide) ys
spelled-append wide [] ys = refl
spelled-append wide (x ∷ xs) ys =
    ap (λ (l : List ℕ). reference_box wide x ++ l) (spelled-append wide xs ys) ∙ sym (append_assoc (reference_box wide x) (flat_map (reference_box wide) xs) (flat_map (reference_box wide) ys))

item_spelled : (wide : Bool) (from : ℕ) (rs : List RefList) → flat_map (λ (r : RefList). box r.kind (reference_body wide from r.to)) rs ≡ flat_map (reference_box wide) (item_boxes from rs)
item_spelled wide from [] = refl
item_spelled wide from (r ∷ rs) = ap (λ (l : List ℕ). box r.kind (reference_body wide from r.to) ++ l) (item_spelled wide from rs)

pub boxes_are_written : BoxesAreWritten
boxes_are_written wide [] = refl
boxes_are_written wide (i ∷ is) =
    let lists : List Item → List ℕ = λ js. flat_map (λ (j : Item). flat_map (λ (r : RefList). box r.kind (reference_body wide j.id r.to)) j.refs) js in
    ap (λ (l : List ℕ). l ++ lists is) (item_spelled wide i.id i.refs)
    ∙ ap (λ (l : List ℕ). flat_map (reference_box wide) (item_boxes i.id i.refs) ++ l) (boxes_are_written wide is)
    ∙ sym (spelled-append wide (item_boxes i.id i.refs) (all_boxes is))
