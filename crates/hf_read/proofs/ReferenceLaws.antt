-- Boxes that are sorted by items and types.
use Rattle.std.proofs.Common.{◌≡◌, ◌<◌, ◌≤◌, arith, length, take, drop, get_or, ℕ, zero, suc, Bool, true, false, not, ◌&&◌, eqb, ltb, List, [], ◌∷◌, ◌++◌}
use Rattle.std.proofs.Common.{map, refl, sym, ap, subst, ◌∙◌, inl, inr, ◌⊎◌, Some}
use Rattle.std.specs.List.{AllByRecursion, AllWithin, filter, flat_map, slice_get}
use Rattle.std.specs.List.Sorted.{IsPartitionedBy, IsPartitionPoint, IsNonDecreasingBy, IsStableByKey, ties}
use Rattle.std.specs.Cmp.{IsTotalOrder, IsStrictWeakOrder}
use Rattle.std.specs.Ordering.{nat_cmp, ordering_then, ordering_reverse, is_lt}
use Rattle.std.specs.declared.cmp.Ordering.{Ordering}
use Rattle.std.specs.declared.cmp.Ordering.TheVariants.{Less, Equal, Greater}
use Rattle.std.specs.Cmp.Lexicographic.{slice_cmp}
use Rattle.std.proofs.lemmas.Cmp.{nat_cmp_total, nat_list_cmp_total, on_total, then_total, tied_itself}
use Rattle.std.proofs.lemmas.Map.Lookups.{exact_bytes, exact_unsigned}
use Rattle.std.proofs.lemmas.List.{append-nil, append_assoc}
use Rattle.std.proofs.lemmas.List.Sorted.{ranks_by, sorted_far, IsPartitionedBy-ltb}
use Rattle.std.proofs.lemmas.Bool.{cases_Bool, cases_lt, and_parts, eqb-true, eq-eqb, lt-ltb, ltb-true, ltb-false, false_from_ne_true}
use Rattle.hf_base.specs.declared.four.FourCc.{FourCc}
use Rattle.hf_base.specs.declared.kinds.TheConstants.{ILOC}
use Rattle.hf_base.specs.declared.loc.RefBox.{RefBox}
use Rattle.hf_box.specs.Walk.{is_kind}
use Rattle.hf_box.proofs.SameKinds.{same_kind, is_same_kind}
use Rattle.hf_order.proofs.Members.{in_all, all_from, in_filter}
use Rattle.hf_base.specs.Entries.{has_id}
use Rattle.hf_base.specs.Members.{IsIn}
use Rattle.hf_store.specs.declared.item.RefList.{RefList}
use Rattle.hf_store.specs.References.{joined, kinds_of, IsKept, KeepsRefs}
use Rattle.hf_store.proofs.References.{references_once}
use Rattle.hf_read.specs.Kept.{is_kept_link, kept_refs}
use Rattle.hf_read.specs.References.{AreInOrder, AreLater, AreOf, IsRun, BeginsWith, BeginsElsewhere, is_of, is_later, key_of, list_if_any, order, seen}
use Rattle.hf_read.proofs.Filters.{passes}
use Rattle.hf_read.proofs.KeptRefs.{refs_are_kept}
use Rattle.hf_read.proofs.RunLaws.{led_to, none_kept, passed_over, run_step}
use denote.Ref.{Bor}
use native.Mathlib.Numerals.{unary_clauses}

-- ---- the order

order_total : IsTotalOrder order
order_total = then_total (on_total (λ (k : ℕ × FourCc). k.0) nat_cmp_total) (on_total (λ (k : ℕ × FourCc). k.1.0) nat_list_cmp_total)

-- by the keys of two boxes
abbrev comes_first : Bor RefBox → Bor RefBox → Bool
comes_first a b = is_lt (order (key_of a.now) (key_of b.now))

ranked : IsStrictWeakOrder comes_first
ranked = ranks_by order_total (λ (b : Bor RefBox). key_of b.now)

far : (boxes : List (Bor RefBox)) → AreInOrder boxes → (i j : ℕ) (d : Bor RefBox) → i ≤ j → j < length boxes
    → comes_first (get_or boxes j d) (get_or boxes i d) ≡ false
far boxes up i j d le less = sorted_far comes_first ranked boxes up i j d le less

-- how two places compare
data Compared (a b : ℕ × FourCc) : Type 0 where
  Before : order a b ≡ Less → order b a ≡ Greater → Compared a b
  Same : order a b ≡ Equal → order b a ≡ Equal → Compared a b
  After : order a b ≡ Greater → order b a ≡ Less → Compared a b

answers : (o p : Ordering) → p ≡ ordering_reverse o → ((o ≡ Less) × (p ≡ Greater)) ⊎ (((o ≡ Equal) × (p ≡ Equal)) ⊎ ((o ≡ Greater) × (p ≡ Less)))
answers Less p e = inl (refl, e)
answers Equal p e = inr (inl (refl, e))
answers Greater p e = inr (inr (refl, e))

compared : (a b : ℕ × FourCc) → Compared a b
compared a b = elim (answers (order a b) (order b a) (order_total.antisymm b a)) [
  | inl h ↦ Before h.0 h.1
  | inr (inl h) ↦ Same h.0 h.1
  | inr (inr h) ↦ After h.0 h.1
]

level : (o p : Ordering) → ordering_then o p ≡ Equal → (o ≡ Equal) × (p ≡ Equal)
level Less p e = absurd cc
level Equal p e = (refl, e)
level Greater p e = absurd cc

-- places that tie are one
one_place : (from : ℕ) (kind : FourCc) (b : RefBox) → order (from, kind) (key_of b) ≡ Equal → is_of from kind b ≡ true
one_place from kind b e =
    let p = level (nat_cmp from b.from) (slice_cmp nat_cmp kind.0 b.kind.0) e in
    let own = eq-eqb b.from from (sym (exact_unsigned from b.from p.0)) in
    let made : List ℕ → FourCc = λ k. record { 0 = k } in
    let same = same_kind kind b.kind (ap made (exact_bytes kind.0 b.kind.0 p.1)) in
    rw (own, same) refl

-- a box of this item and type has their place
its_place : (from : ℕ) (kind : FourCc) (b : RefBox) → is_of from kind b ≡ true → key_of b ≡ (from, kind)
its_place from kind b own =
    let p = and_parts (eqb b.from from) (is_kind kind b.kind) own in
    let made : ℕ → FourCc → ℕ × FourCc = λ n k. (n, k) in
    ap (λ (n : ℕ). made n b.kind) (eqb-true b.from from p.0) ∙ ap (λ (k : FourCc). made from k) (sym (is_same_kind kind b.kind p.1))

other_place : (from : ℕ) (kind : FourCc) (b : RefBox) → (order (from, kind) (key_of b) ≡ Equal → ⊥) → is_of from kind b ≡ false
other_place from kind b apart = false_from_ne_true (is_of from kind b) (λ own.
    apart (ap (λ (k : ℕ × FourCc). order (from, kind) k) (its_place from kind b own) ∙ tied_itself order_total (from, kind)))

tied : (from : ℕ) (kind : FourCc) (b : RefBox)
    → (not (is_lt (order (from, kind) (key_of b))) && not (is_lt (order (key_of b) (from, kind)))) ≡ is_of from kind b
tied from kind b = elim (compared (from, kind) (key_of b)) [
  | Before e f ↦ let no = other_place from kind b (λ t. (let both : Less ≡ Equal = sym e ∙ t in cc)) in rw (e, no) refl
  | Same e f ↦ let yes = one_place from kind b e in rw (e, f, yes) refl
  | After e f ↦ let no = other_place from kind b (λ t. (let both : Greater ≡ Equal = sym e ∙ t in cc)) in rw (e, f, no) refl
]

-- ---- boxes that were sorted

bare : ℕ → FourCc → Bor RefBox
bare from kind = record { ref_ptr = (0, 0); now = record { kind = kind; from = from; to = [] } }

seen_of : (from : ℕ) (kind : FourCc) (boxes : List (Bor RefBox))
    → filter (is_of from kind) (seen boxes) ≡ seen (filter (ties comes_first (bare from kind)) boxes)
unfolding bare
seen_of from kind [] = refl
seen_of from kind (b ∷ bs) =
    let test = tied from kind b.now in
    elim (cases_Bool (is_of from kind b.now)) [
      | inl t ↦
          let there : ties comes_first (bare from kind) b ≡ true = test ∙ t in
          let left : filter (is_of from kind) (seen (b ∷ bs)) ≡ b.now ∷ filter (is_of from kind) (seen bs) = rw t refl in
          let right : filter (ties comes_first (bare from kind)) (b ∷ bs) ≡ b ∷ filter (ties comes_first (bare from kind)) bs = rw there refl in
          left ∙ ap (λ (l : List RefBox). b.now ∷ l) (seen_of from kind bs) ∙ ap seen (sym right)
      | inr f ↦
          let there : ties comes_first (bare from kind) b ≡ false = test ∙ f in
          let left : filter (is_of from kind) (seen (b ∷ bs)) ≡ filter (is_of from kind) (seen bs) = rw f refl in
          let right : filter (ties comes_first (bare from kind)) (b ∷ bs) ≡ filter (ties comes_first (bare from kind)) bs = rw there refl in
          left ∙ seen_of from kind bs ∙ ap seen (sym right)
    ]

-- a stable sort keeps those of one item and type in their order
pub stays : (from : ℕ) (kind : FourCc) (old new : List (Bor RefBox)) → IsStableByKey (λ (b : Bor RefBox). key_of b.now) order old new
    → filter (is_of from kind) (seen new) ≡ filter (is_of from kind) (seen old)
stays from kind old new stable = seen_of from kind new ∙ ap seen (stable (bare from kind)) ∙ sym (seen_of from kind old)

-- ---- what an item keeps of them

joined_is : (keep : ℕ → Bool) (kind : FourCc) (from : ℕ) (bs : List RefBox)
    → joined keep kind from bs ≡ flat_map (λ (b : RefBox). filter keep b.to) (filter (is_of from kind) bs)
joined_is keep kind from [] = refl
joined_is keep kind from (b ∷ bs) = elim (cases_Bool (is_of from kind b)) [
  | inl t ↦ rw t (ap (λ (l : List ℕ). filter keep b.to ++ l) (joined_is keep kind from bs))
  | inr f ↦ rw f (joined_is keep kind from bs)
]

-- boxes of which those of each item and type are the same give an item the same
pub same_kept : (ids : List ℕ) (from : ℕ) (bs links : List RefBox)
    → ((from : ℕ) (kind : FourCc) → filter (is_of from kind) bs ≡ filter (is_of from kind) links) → kept_refs ids bs from ≡ kept_refs ids links from
same_kept ids from bs links same =
    let keep : ℕ → Bool = λ to. has_id to ids in
    let joins : (kind : FourCc) → joined keep kind from bs ≡ joined keep kind from links = λ kind.
    joined_is keep kind from bs ∙ ap (λ (l : List RefBox). flat_map (λ (b : RefBox). filter keep b.to) l) (same from kind)
    ∙ sym (joined_is keep kind from links) in
    let k = refs_are_kept ids bs from in
    let moved : (b : RefBox) → IsIn b links → IsIn b bs = λ b h.
    let own : is_of b.from b.kind b ≡ true = (let f = eq-eqb b.from b.from refl in let s = same_kind b.kind b.kind refl in rw (f, s) refl) in
    in_filter (is_of b.from b.kind) bs b
    (subst (λ (l : List RefBox). IsIn b l) (sym (same b.from b.kind)) (passes (is_of b.from b.kind) links b h own)) in
    let refs = kept_refs ids bs from in
    let there : KeepsRefs keep links from refs = record {
      rise = k.rise;
      each = all_from (IsKept keep links from) refs
          (λ r h. (let x = in_all (IsKept keep bs from) refs k.each r h in record { not_iloc = x.not_iloc; some = x.some; to = x.to ∙ joins r.kind }));
      all = all_from (λ (b : RefBox). b.from ≡ from → (b.kind ≡ ILOC) ⊎ ((joined keep b.kind from links ≡ []) ⊎ IsIn b.kind (kinds_of refs))) links
          (λ b h own.
          elim (in_all (λ (b : RefBox). b.from ≡ from → (b.kind ≡ ILOC) ⊎ ((joined keep b.kind from bs ≡ []) ⊎ IsIn b.kind (kinds_of refs))) bs k.all b
          (moved b h) own) [
            | inl e ↦ inl e
            | inr (inl none) ↦ inr (inl (sym (joins b.kind) ∙ none))
            | inr (inr in_refs) ↦ inr (inr in_refs)
          ]);
    } in
    references_once keep links from refs (kept_refs ids links from) there (refs_are_kept ids links from)

-- ---- front parts and the rest

-- those below a place pass a test, and the others do not
abbrev SplitsAt : (Bor RefBox → Bool) → List (Bor RefBox) → ℕ → Type 0
SplitsAt test boxes i = IsPartitionPoint (λ (b : Bor RefBox). test b ≡ true) (λ (b : Bor RefBox). test b ≡ false) boxes i

pub in_order_from : (n : ℕ) (boxes : List (Bor RefBox)) → AreInOrder boxes → AreInOrder (drop n boxes)
in_order_from zero boxes up = up
in_order_from (suc n) [] up = up
in_order_from (suc n) (b ∷ bs) up =
    in_order_from n bs (λ k d low high. simp unary_clauses (simp unary_clauses at (up (suc k) d (omega arith) (omega (arith, high)))))

front_all : {A : Type 0} (P : A → Type 0) (xs : List A) (i : ℕ) → i ≤ length xs → AllWithin P xs 0 i → AllByRecursion P (take i xs)
front_all P xs zero le all = tt
front_all P [] (suc i) le all = absurd (omega (arith, le))
front_all P (x ∷ xs) (suc i) le all =
    (all 0 x (omega arith) (omega arith), front_all P xs i (omega (arith, le)) (λ k d low high. all (suc k) d (omega arith) (omega (arith, high))))

back_all : {A : Type 0} (P : A → Type 0) (xs : List A) (i : ℕ) → AllWithin P xs i (length xs) → AllByRecursion P (drop i xs)
back_all P [] zero all = tt
back_all P [] (suc i) all = tt
back_all P (x ∷ xs) zero all = (all 0 x (omega arith) (omega arith), back_all P xs zero (λ k d low high. all (suc k) d (omega arith) (omega (arith, high))))
back_all P (x ∷ xs) (suc i) all = back_all P xs i (λ k d low high. all (suc k) d (omega (arith, low)) (omega (arith, high)))

all_seen : (P : RefBox → Type 0) (boxes : List (Bor RefBox)) → AllByRecursion (λ (b : Bor RefBox). P b.now) boxes → AllByRecursion P (seen boxes)
all_seen P [] all = tt
all_seen P (b ∷ bs) all = (all.0, all_seen P bs all.1)

split_seen : (i : ℕ) (boxes : List (Bor RefBox)) → seen boxes ≡ seen (take i boxes) ++ seen (drop i boxes)
split_seen zero boxes = refl
split_seen (suc i) [] = refl
split_seen (suc i) (b ∷ bs) = ap (λ (l : List RefBox). b.now ∷ l) (split_seen i bs)

-- ---- a run of boxes

-- the first one has this place
first_place : (from : ℕ) (kind : FourCc) (boxes : List (Bor RefBox)) (d : Bor RefBox) → BeginsWith from kind (seen boxes)
    → key_of (get_or boxes 0 d).now ≡ (from, kind)
first_place from kind [] d h = absurd h
first_place from kind (b ∷ bs) d own = its_place from kind b.now own

not_before : (from : ℕ) (kind : FourCc) (boxes : List (Bor RefBox)) → AreInOrder boxes → BeginsWith from kind (seen boxes) → (k : ℕ) (d : Bor RefBox)
    → k < length boxes → is_lt (order (key_of (get_or boxes k d).now) (from, kind)) ≡ false
not_before from kind boxes up own k d less =
    ap (λ (p : ℕ × FourCc). is_lt (order (key_of (get_or boxes k d).now) p)) (sym (first_place from kind boxes d own))
    ∙ far boxes up 0 k d (omega arith) less

-- those of the first one's item and type stand in front
pub run_is_front : (from : ℕ) (kind : FourCc) (boxes : List (Bor RefBox)) → AreInOrder boxes → BeginsWith from kind (seen boxes)
    → IsPartitionedBy (λ (b : Bor RefBox). is_of from kind b.now) boxes
run_is_front from kind boxes up own i j d le less last =
    let x = get_or boxes i d in
    let low = not_before from kind boxes up own i d (omega (arith, le, less)) in
    let high : is_lt (order (from, kind) (key_of x.now)) ≡ false =
    ap (λ (p : ℕ × FourCc). is_lt (order p (key_of x.now))) (sym (its_place from kind (get_or boxes j d).now last)) ∙ far boxes up i j d le less in
    sym (tied from kind x.now) ∙ (rw (high, low) refl)

run_own : (from : ℕ) (kind : FourCc) (boxes : List (Bor RefBox)) (i : ℕ) → i ≤ length boxes → SplitsAt (λ (b : Bor RefBox). is_of from kind b.now) boxes i
    → AreOf from kind (seen (take i boxes))
run_own from kind boxes i le point =
    all_seen (λ (b : RefBox). is_of from kind b ≡ true) (take i boxes) (front_all (λ (b : Bor RefBox). is_of from kind b.now ≡ true) boxes i le point.0)

after_run : (from : ℕ) (kind : FourCc) (b : RefBox) → is_of from kind b ≡ false → is_lt (order (key_of b) (from, kind)) ≡ false
    → is_later from kind b ≡ true
after_run from kind b other low = elim (compared (from, kind) (key_of b)) [
  | Before e f ↦ ap is_lt e
  | Same e f ↦ (let yes = one_place from kind b e in let both : true ≡ false = sym yes ∙ other in absurd cc)
  | After e f ↦ (let both : true ≡ false = sym (ap is_lt f) ∙ low in absurd cc)
]

run_later : (from : ℕ) (kind : FourCc) (boxes : List (Bor RefBox)) (i : ℕ) → AreInOrder boxes → BeginsWith from kind (seen boxes)
    → SplitsAt (λ (b : Bor RefBox). is_of from kind b.now) boxes i
    → AreLater from kind (seen (drop i boxes))
run_later from kind boxes i up own point =
    all_seen (λ (b : RefBox). is_later from kind b ≡ true) (drop i boxes) (back_all (λ (b : Bor RefBox). is_later from kind b.now ≡ true) boxes i
    (λ k d low high. after_run from kind (get_or boxes k d).now (point.1 k d low high) (not_before from kind boxes up own k d high)))

run_some : (from : ℕ) (kind : FourCc) (boxes : List (Bor RefBox)) (i : ℕ) → BeginsWith from kind (seen boxes)
    → SplitsAt (λ (b : Bor RefBox). is_of from kind b.now) boxes i → 0 < i
run_some from kind [] i own point = absurd own
run_some from kind (b ∷ bs) zero own point =
    absurd (let f : is_of from kind b.now ≡ false = point.1 0 b (omega arith) (omega arith) in let both : true ≡ false = sym own ∙ f in cc)
run_some from kind (b ∷ bs) (suc i) own point = omega arith

pub run_ends : (from : ℕ) (kind : FourCc) (boxes : List (Bor RefBox)) (i : ℕ) → AreInOrder boxes → BeginsWith from kind (seen boxes) → i ≤ length boxes
    → SplitsAt (λ (b : Bor RefBox). is_of from kind b.now) boxes i → IsRun from kind boxes i
run_ends from kind boxes i up own within point = record {
  within = within;
  some = run_some from kind boxes i own point;
  own = run_own from kind boxes i within point;
  later = run_later from kind boxes i up own point;
}

-- ---- the first box

pub begins : (from : ℕ) (boxes : List (Bor RefBox)) (first : Bor RefBox) → Some first ≡ slice_get boxes 0 → first.now.from ≡ from
    → BeginsWith from first.now.kind (seen boxes)
begins from [] first is own = absurd cc
begins from (b ∷ bs) first is own =
    let same = same_kind first.now.kind first.now.kind refl in
    let t = eq-eqb first.now.from from own in
    let here : is_of from first.now.kind first.now ≡ true = rw (t, same) refl in
    let met : first ≡ b = unwrapped first b is in
    subst (λ (x : Bor RefBox). is_of from first.now.kind x.now ≡ true) met here
  where
    unwrapped : (a b : Bor RefBox) → Some a ≡ Some b → a ≡ b
    unwrapped a b e = cc

below_number : (x y : ℕ) → x < y → nat_cmp x y ≡ Less
below_number x y lt = let t = lt-ltb x y lt in rw t refl

at_most : (a b : ℕ × FourCc) → is_lt (order b a) ≡ false → a.0 ≤ b.0
at_most a b h = elim (cases_lt b.0 a.0) [
  | inl lt ↦ (let first = below_number b.0 a.0 lt in let both : true ≡ false =
      sym (ap (λ (o : Ordering). is_lt (ordering_then o (slice_cmp nat_cmp b.1.0 a.1.0))) first) ∙ h in absurd cc)
  | inr ge ↦ ge
]

later_items : (from : ℕ) (boxes : List (Bor RefBox)) → AreInOrder boxes → AllByRecursion (λ (b : RefBox). from ≤ b.from) (seen boxes)
    → BeginsElsewhere from (seen boxes) → AllByRecursion (λ (b : Bor RefBox). eqb b.now.from from ≡ false) boxes
later_items from [] up reached other = tt
later_items from (b ∷ bs) up reached other =
    let apart : b.now.from ≡ from → ⊥ = λ e. (let t = eq-eqb b.now.from from e in let both : true ≡ false = sym t ∙ other in cc) in
    let less : from < b.now.from = omega (arith, reached.0, apart) in (
      other,
      back_all (λ (x : Bor RefBox). eqb x.now.from from ≡ false) (b ∷ bs) 1 (λ k d low high.
          let x = get_or (b ∷ bs) k d in
          let le = at_most (key_of b.now) (key_of x.now) (far (b ∷ bs) up 0 k d (omega arith) high) in
          false_from_ne_true (eqb x.now.from from) (λ t. let e = eqb-true x.now.from from t in omega (arith, le, less, e))),
    )

-- an item gets nothing of boxes of later items
pub nothing_left : (ids : List ℕ) (from : ℕ) (boxes : List (Bor RefBox)) → AreInOrder boxes → AllByRecursion (λ (b : RefBox). from ≤ b.from) (seen boxes)
    → BeginsElsewhere from (seen boxes) → kept_refs ids (seen boxes) from ≡ []
nothing_left ids from boxes up reached other =
    none_kept ids from (seen boxes) (all_seen (λ (b : RefBox). eqb b.from from ≡ false) boxes (later_items from boxes up reached other))

-- ---- the boxes of earlier items

items_rise : (boxes : List (Bor RefBox)) → AreInOrder boxes → IsNonDecreasingBy (λ (b : Bor RefBox). b.now.from) boxes
items_rise boxes up i j d le less = at_most (key_of (get_or boxes i d).now) (key_of (get_or boxes j d).now) (far boxes up i j d le less)

pub earlier_are_front : (from : ℕ) (boxes : List (Bor RefBox)) → AreInOrder boxes → IsPartitionedBy (λ (b : Bor RefBox). ltb b.now.from from) boxes
earlier_are_front from boxes up = IsPartitionedBy-ltb (λ (b : Bor RefBox). b.now.from) boxes from (items_rise boxes up)

pub item_reached : (from : ℕ) (boxes : List (Bor RefBox)) (i : ℕ) → SplitsAt (λ (b : Bor RefBox). ltb b.now.from from) boxes i
    → AllByRecursion (λ (b : RefBox). from ≤ b.from) (seen (drop i boxes))
item_reached from boxes i point =
    all_seen (λ (b : RefBox). from ≤ b.from) (drop i boxes)
    (back_all (λ (b : Bor RefBox). from ≤ b.now.from) boxes i (λ k d low high. ltb-false (get_or boxes k d).now.from from (point.1 k d low high)))

pub earlier_are_none : (from : ℕ) (boxes : List (Bor RefBox)) (i : ℕ) → i ≤ length boxes → SplitsAt (λ (b : Bor RefBox). ltb b.now.from from) boxes i
    → (ids : List ℕ) → kept_refs ids (seen (drop i boxes)) from ≡ kept_refs ids (seen boxes) from
earlier_are_none from boxes i le point ids =
    let unkept : (b : RefBox) → ltb b.from from ≡ true → is_kept_link from b ≡ false = λ b t.
    let less = ltb-true b.from from t in
    let other : eqb b.from from ≡ false = false_from_ne_true (eqb b.from from) (λ own. let e = eqb-true b.from from own in omega (arith, less, e)) in
    rw other refl in
    let front : AllByRecursion (λ (b : RefBox). is_kept_link from b ≡ false) (seen (take i boxes)) =
    all_seen (λ (b : RefBox). is_kept_link from b ≡ false) (take i boxes)
    (front_all (λ (b : Bor RefBox). is_kept_link from b.now ≡ false) boxes i le (λ k d low high. unkept (get_or boxes k d).now (point.0 k d low high))) in
    sym (ap (λ (l : List RefBox). kept_refs ids l from) (split_seen i boxes) ∙ passed_over ids from (seen (take i boxes)) (seen (drop i boxes)) front)

-- ---- one run more

pub reached_from : (from n : ℕ) (boxes : List (Bor RefBox)) → AllByRecursion (λ (b : RefBox). from ≤ b.from) (seen boxes)
    → AllByRecursion (λ (b : RefBox). from ≤ b.from) (seen (drop n boxes))
reached_from from zero boxes all = all
reached_from from (suc n) [] all = all
reached_from from (suc n) (b ∷ bs) all = reached_from from n bs all.1

pub run_more : (ids : List ℕ) (from : ℕ) (kind : FourCc) (rest : List (Bor RefBox)) (len : ℕ) (refs more whole : List RefList) (to : List ℕ)
    → refs ++ kept_refs ids (seen rest) from ≡ whole
    → IsRun from kind rest len → to ≡ led_to ids (seen (take len rest)) → more ≡ refs ++ list_if_any kind to
    → more ++ kept_refs ids (seen (drop len rest)) from ≡ whole
run_more ids from kind rest len refs more whole to so_far run is pushed =
    let left : List RefList = kept_refs ids (seen (drop len rest)) from in
    let step : kept_refs ids (seen rest) from ≡ list_if_any kind to ++ left =
    ap (λ (l : List RefBox). kept_refs ids l from) (split_seen len rest)
    ∙ run_step ids from kind (seen (take len rest)) (seen (drop len rest)) run.own run.later ∙ ap (λ (l : List ℕ). list_if_any kind l ++ left) (sym is) in
    ap (λ (l : List RefList). l ++ left) pushed ∙ append_assoc refs (list_if_any kind to) left ∙ ap (λ (l : List RefList). refs ++ l) (sym step) ∙ so_far

pub no_more : (ids : List ℕ) (from : ℕ) (rest : List (Bor RefBox)) (refs whole : List RefList) → refs ++ kept_refs ids (seen rest) from ≡ whole
    → AreInOrder rest → AllByRecursion (λ (b : RefBox). from ≤ b.from) (seen rest) → BeginsElsewhere from (seen rest) → refs ≡ whole
no_more ids from rest refs whole so_far up reached other =
    sym (append-nil refs) ∙ ap (λ (l : List RefList). refs ++ l) (sym (nothing_left ids from rest up reached other)) ∙ so_far

-- sorted boxes give each item what the boxes of the file give it
pub all_kept : (ids : List ℕ) (boxes : List (Bor RefBox)) (links : List RefBox)
    → ((from : ℕ) (kind : FourCc) → filter (is_of from kind) (seen boxes) ≡ filter (is_of from kind) links) → (some : List ℕ)
    → map (kept_refs ids (seen boxes)) some ≡ map (kept_refs ids links) some
all_kept ids boxes links same [] = refl
all_kept ids boxes links same (id ∷ some) =
    let here = same_kept ids id (seen boxes) links same in
    ap (λ (r : List RefList). r ∷ map (kept_refs ids (seen boxes)) some) here
    ∙ ap (λ (l : List (List RefList)). kept_refs ids links id ∷ l) (all_kept ids boxes links same some)
