-- What an item keeps of boxes in order, a run of boxes of one type at a time.
use Rattle.std.proofs.Common.{◌≡◌, ◌≢◌, ℕ, Bool, true, false, not, ◌&&◌, eqb, List, [], ◌∷◌, ◌++◌, map, refl, sym, ap, subst, ◌∙◌, inl, inr}
use Rattle.std.specs.List.{AllByRecursion, filter, fold, flat_map}
use Rattle.std.specs.Ordering.{nat_cmp, ordering_then, is_lt}
use Rattle.std.specs.declared.cmp.Ordering.{Ordering}
use Rattle.std.specs.declared.cmp.Ordering.TheVariants.{Equal}
use Rattle.std.specs.Cmp.Lexicographic.{slice_cmp}
use Rattle.std.proofs.lemmas.Cmp.{nat_cmp_total, tied_itself}
use Rattle.std.proofs.lemmas.Bool.{cases_Bool, and_parts, eqb-true, false_from_ne_true}
use Rattle.std.proofs.lemmas.List.{append-nil, append_assoc}
use Rattle.std.proofs.lemmas.List.Elements.{filter-append}
use Rattle.hf_base.specs.Entries.{has_id}
use Rattle.hf_base.specs.Members.{IsIn}
use Rattle.hf_base.specs.declared.four.FourCc.{FourCc}
use Rattle.hf_base.specs.declared.kinds.TheConstants.{ILOC}
use Rattle.hf_base.specs.declared.loc.RefBox.{RefBox}
use Rattle.hf_box.specs.Walk.{is_kind}
use Rattle.hf_box.proofs.SameKinds.{same_kind, is_same_kind, other_kind}
use Rattle.hf_order.proofs.Members.{in_all}
use Rattle.hf_store.specs.Lists.{not_empty}
use Rattle.hf_store.specs.declared.item.RefList.{RefList}
use Rattle.hf_store.specs.References.{joined}
use Rattle.hf_store.specs.Valid.{IsBelow}
use Rattle.hf_store.proofs.References.{below_irreflexive, below_transitive}
use Rattle.hf_read.specs.Kept.{is_below, with_kind, is_kept_link, kept_kinds, kept_list, kept_refs}
use Rattle.hf_read.specs.References.{AreLater, AreOf, is_of, is_later, list_if_any}
use Rattle.hf_read.proofs.Filters.{not_false, not_true}
use Rattle.hf_read.proofs.KeptRefs.{kind_box, not_iloc, is_less}

-- ---- tests

clash : {A : Type 0} (b : Bool) → b ≡ true → b ≡ false → A
clash b t f = absurd (let both : true ≡ false = sym t ∙ f in cc)

and_false : (a b : Bool) → ((a ≡ true) → (b ≡ true) → ⊥) → a && b ≡ false
and_false true true h = absurd (h refl refl)
and_false true false h = refl
and_false false b h = refl

-- a box after a run of its item's is of a later type
later_kind : (from : ℕ) (kind : FourCc) (b : RefBox) → is_later from kind b ≡ true → b.from ≡ from → IsBelow kind b.kind
later_kind from kind b later own =
    let level : nat_cmp from b.from ≡ Equal = subst (λ (n : ℕ). nat_cmp from n ≡ Equal) (sym own) (tied_itself nat_cmp_total from) in
    let rest : is_lt (slice_cmp nat_cmp kind.0 b.kind.0) ≡ true =
    sym (ap (λ (o : Ordering). is_lt (ordering_then o (slice_cmp nat_cmp kind.0 b.kind.0))) level) ∙ later in
    is_less (slice_cmp nat_cmp kind.0 b.kind.0) rest

own_of : (from : ℕ) (b : RefBox) → is_kept_link from b ≡ true → b.from ≡ from
own_of from b kept = eqb-true b.from from (and_parts (eqb b.from from) (not (is_kind b.kind ILOC)) kept).0

-- ---- lists that are joined

lists_same : (ids : List ℕ) (bs cs : List RefBox) (from : ℕ) (ks : List FourCc)
    → ((k : FourCc) → IsIn k ks → joined (λ to. has_id to ids) k from bs ≡ joined (λ to. has_id to ids) k from cs)
    → map (kept_list ids bs from) ks ≡ map (kept_list ids cs from) ks
lists_same ids bs cs from [] same = refl
lists_same ids bs cs from (k ∷ ks) same =
    let made : List ℕ → RefList = λ to. record { kind = k; to = to } in
    let here : kept_list ids bs from k ≡ kept_list ids cs from k = ap made (same k (inl refl)) in
    let more = lists_same ids bs cs from ks (λ x h. same x (inr h)) in
    ap (λ (r : RefList). r ∷ map (kept_list ids bs from) ks) here ∙ ap (λ (l : List RefList). kept_list ids cs from k ∷ l) more

unjoined : (keep : ℕ → Bool) (kind : FourCc) (from : ℕ) (bs : List RefBox) → AllByRecursion (λ (b : RefBox). is_of from kind b ≡ false) bs
    → (more : List RefBox) → joined keep kind from (bs ++ more) ≡ joined keep kind from more
unjoined keep kind from [] all more = refl
unjoined keep kind from (b ∷ bs) all more = rw (all.0) (unjoined keep kind from bs all.1 more)

all_joined : (keep : ℕ → Bool) (kind : FourCc) (from : ℕ) (bs : List RefBox) → AreOf from kind bs → (more : List RefBox)
    → joined keep kind from (bs ++ more) ≡ flat_map (λ (b : RefBox). filter keep b.to) bs ++ joined keep kind from more
all_joined keep kind from [] all more = refl
all_joined keep kind from (b ∷ bs) all more =
    let whole : joined keep kind from (b ∷ bs ++ more) ≡ filter keep b.to ++ joined keep kind from (bs ++ more) = rw (all.0) refl in
    whole ∙ ap (λ (l : List ℕ). filter keep b.to ++ l) (all_joined keep kind from bs all.1 more)
    ∙ sym (append_assoc (filter keep b.to) (flat_map (λ (b : RefBox). filter keep b.to) bs) (joined keep kind from more))

each : {A : Type 0} (P Q : A → Type 0) → ((x : A) → P x → Q x) → (xs : List A) → AllByRecursion P xs → AllByRecursion Q xs
each P Q step [] all = tt
each P Q step (x ∷ xs) all = (step x all.0, each P Q step xs all.1)

-- ---- boxes that are passed over

kinds_over : (from : ℕ) (front back : List RefBox) → AllByRecursion (λ (b : RefBox). is_kept_link from b ≡ false) front
    → kept_kinds from (front ++ back) ≡ kept_kinds from back
kinds_over from [] back all = refl
kinds_over from (b ∷ bs) back all = rw (all.0) (kinds_over from bs back all.1)

not_of : (from : ℕ) (kind : FourCc) → kind ≢ ILOC → (b : RefBox) → is_kept_link from b ≡ false → is_of from kind b ≡ false
not_of from kind other b passed = and_false (eqb b.from from) (is_kind kind b.kind) (λ own t.
    let kind' : kind ≡ b.kind = is_same_kind kind b.kind t in
    let iloc : is_kind b.kind ILOC ≡ true = not_false (is_kind b.kind ILOC) (sym (ap (λ (x : Bool). x && not (is_kind b.kind ILOC)) own) ∙ passed) in
    other (kind' ∙ is_same_kind b.kind ILOC iloc))

-- boxes in front that an item does not keep make no difference
pub passed_over : (ids : List ℕ) (from : ℕ) (front back : List RefBox) → AllByRecursion (λ (b : RefBox). is_kept_link from b ≡ false) front
    → kept_refs ids (front ++ back) from ≡ kept_refs ids back from
unfolding kept_refs
passed_over ids from front back all =
    let lists : map (kept_list ids (front ++ back) from) (kept_kinds from back) ≡ map (kept_list ids back from) (kept_kinds from back) =
    lists_same ids (front ++ back) back from (kept_kinds from back) (λ k h.
    let b = kind_box from back k h in
    let other : k ≢ ILOC = λ e. not_iloc from b.0 b.3 (b.2 ∙ e) in
    unjoined (λ to. has_id to ids) k from front
    (each (λ (b : RefBox). is_kept_link from b ≡ false) (λ (b : RefBox). is_of from k b ≡ false) (not_of from k other) front all) back)
    in
    ap (λ (ks : List FourCc). filter (λ (r : RefList). not_empty r.to) (map (kept_list ids (front ++ back) from) ks)) (kinds_over from front back all)
    ∙ ap (λ (l : List RefList). filter (λ (r : RefList). not_empty r.to) l) lists

-- ---- a run of boxes

kept_of : (from : ℕ) (kind : FourCc) → kind ≢ ILOC → (b : RefBox) → is_of from kind b ≡ true → is_kept_link from b ≡ true
kept_of from kind other b own =
    let p = and_parts (eqb b.from from) (is_kind kind b.kind) own in
    let differs : is_kind b.kind ILOC ≡ false = other_kind b.kind ILOC (λ e. other (is_same_kind kind b.kind p.1 ∙ e)) in
    rw (p.0, differs) refl

kind_of : (from : ℕ) (kind : FourCc) (b : RefBox) → is_of from kind b ≡ true → kind ≡ b.kind
kind_of from kind b own = is_same_kind kind b.kind (and_parts (eqb b.from from) (is_kind kind b.kind) own).1

-- types that are all later go behind
kinds_behind : (kind : FourCc) (ks more : List FourCc) → AllByRecursion (λ (k : FourCc). IsBelow kind k) ks
    → fold with_kind (kind ∷ more) ks ≡ kind ∷ fold with_kind more ks
kinds_behind kind [] more all = refl
kinds_behind kind (k ∷ ks) more all =
    let differs : is_kind kind k ≡ false = other_kind kind k (λ e. below_irreflexive kind (subst (λ (x : FourCc). IsBelow kind x) (sym e) all.0)) in
    let after : is_below k kind ≡ false =
    false_from_ne_true (is_below k kind) (λ t. below_irreflexive kind (below_transitive kind k kind all.0 (is_less (slice_cmp nat_cmp k.0 kind.0) t))) in
    let step : with_kind (kind ∷ more) k ≡ kind ∷ with_kind more k = rw (differs, after) refl in
    ap (λ (l : List FourCc). fold with_kind l ks) step ∙ kinds_behind kind ks (with_kind more k) all.1

kinds_later : (from : ℕ) (kind : FourCc) (bs : List RefBox) → AreLater from kind bs
    → AllByRecursion (λ (k : FourCc). IsBelow kind k) (map (λ (r : RefBox). r.kind) (filter (is_kept_link from) bs))
kinds_later from kind [] all = tt
kinds_later from kind (b ∷ bs) all = elim (cases_Bool (is_kept_link from b)) [
  | inl t ↦
      let whole : filter (is_kept_link from) (b ∷ bs) ≡ b ∷ filter (is_kept_link from) bs = rw t refl in
      subst (λ (l : List RefBox). AllByRecursion (λ (k : FourCc). IsBelow kind k) (map (λ (r : RefBox). r.kind) l)) (sym whole)
      (later_kind from kind b all.0 (own_of from b t), kinds_later from kind bs all.1)
  | inr f ↦
      let rest : filter (is_kept_link from) (b ∷ bs) ≡ filter (is_kept_link from) bs = rw f refl in
      subst (λ (l : List RefBox). AllByRecursion (λ (k : FourCc). IsBelow kind k) (map (λ (r : RefBox). r.kind) l)) (sym rest)
      (kinds_later from kind bs all.1)
]

abbrev kinds_in : ℕ → List RefBox → List FourCc
kinds_in from bs = map (λ (r : RefBox). r.kind) (filter (is_kept_link from) bs)

kinds_more : (from : ℕ) (kind : FourCc) → kind ≢ ILOC → (run later : List RefBox) → AreOf from kind run
    → fold with_kind (kind ∷ []) (kinds_in from (run ++ later)) ≡ fold with_kind (kind ∷ []) (kinds_in from later)
kinds_more from kind other [] later own = refl
kinds_more from kind other (b ∷ bs) later own =
    let kept = kept_of from kind other b own.0 in
    let same : is_kind kind b.kind ≡ true = (and_parts (eqb b.from from) (is_kind kind b.kind) own.0).1 in
    let whole : kinds_in from (b ∷ bs ++ later) ≡ b.kind ∷ kinds_in from (bs ++ later) = rw kept refl in
    let step : with_kind (kind ∷ []) b.kind ≡ kind ∷ [] = rw same refl in
    ap (λ (ks : List FourCc). fold with_kind (kind ∷ []) ks) whole ∙ ap (λ (l : List FourCc). fold with_kind l (kinds_in from (bs ++ later))) step
    ∙ kinds_more from kind other bs later own.1

kinds_run : (from : ℕ) (kind : FourCc) → kind ≢ ILOC → (b : RefBox) (run later : List RefBox) → AreOf from kind (b ∷ run) → AreLater from kind later
    → kept_kinds from (b ∷ run ++ later) ≡ kind ∷ kept_kinds from later
kinds_run from kind other b run later own after =
    let kept = kept_of from kind other b own.0 in
    let whole : kinds_in from (b ∷ run ++ later) ≡ b.kind ∷ kinds_in from (run ++ later) = rw kept refl in
    ap (λ (ks : List FourCc). fold with_kind [] ks) whole
    ∙ ap (λ (k : FourCc). fold with_kind (k ∷ []) (kinds_in from (run ++ later))) (sym (kind_of from kind b own.0))
    ∙ kinds_more from kind other run later own.1
    ∙ kinds_behind kind (kinds_in from later) [] (kinds_later from kind later after)

not_later : (from : ℕ) (kind : FourCc) (b : RefBox) → is_later from kind b ≡ true → is_of from kind b ≡ false
not_later from kind b later = and_false (eqb b.from from) (is_kind kind b.kind) (λ own t.
    below_irreflexive kind
    (subst (λ (k : FourCc). IsBelow kind k) (sym (is_same_kind kind b.kind t)) (later_kind from kind b later (eqb-true b.from from own))))

-- the list of a run of boxes has what they lead to
run_list : (ids : List ℕ) (from : ℕ) (kind : FourCc) (run later : List RefBox) → AreOf from kind run → AreLater from kind later
    → joined (λ to. has_id to ids) kind from (run ++ later) ≡ flat_map (λ (b : RefBox). filter (λ to. has_id to ids) b.to) run
run_list ids from kind run later own after =
    let keep : ℕ → Bool = λ to. has_id to ids in
    let none : joined keep kind from (later ++ []) ≡ [] =
    unjoined keep kind from later
    (each (λ (b : RefBox). is_later from kind b ≡ true) (λ (b : RefBox). is_of from kind b ≡ false) (not_later from kind) later after) [] in
    let none' : joined keep kind from later ≡ [] = ap (λ (l : List RefBox). joined keep kind from l) (sym (append-nil later)) ∙ none in
    all_joined keep kind from run own later
    ∙ ap (λ (l : List ℕ). flat_map (λ (b : RefBox). filter keep b.to) run ++ l) none'
    ∙ append-nil (flat_map (λ (b : RefBox). filter keep b.to) run)

later_lists : (ids : List ℕ) (from : ℕ) (kind : FourCc) (run later : List RefBox) → AreOf from kind run → AreLater from kind later
    → map (kept_list ids (run ++ later) from) (kept_kinds from later) ≡ map (kept_list ids later from) (kept_kinds from later)
later_lists ids from kind run later own after = lists_same ids (run ++ later) later from (kept_kinds from later) (λ k h.
    let b = kind_box from later k h in
    let below : IsBelow kind k =
    subst (λ (x : FourCc). IsBelow kind x) b.2
    (later_kind from kind b.0 (in_all (λ (b : RefBox). is_later from kind b ≡ true) later after b.0 b.1) (own_of from b.0 b.3)) in
    let others : (x : RefBox) → is_of from kind x ≡ true → is_of from k x ≡ false = λ x mine. and_false (eqb x.from from) (is_kind k x.kind) (λ own' t.
    below_irreflexive kind (subst (λ (y : FourCc). IsBelow kind y) (is_same_kind k x.kind t ∙ sym (kind_of from kind x mine)) below)) in
    unjoined (λ to. has_id to ids) k from run
    (each (λ (b : RefBox). is_of from kind b ≡ true) (λ (b : RefBox). is_of from k b ≡ false) others run own) later)

kept_is : (ids : List ℕ) (links : List RefBox) (from : ℕ)
    → kept_refs ids links from ≡ filter (λ (r : RefList). not_empty r.to) (map (kept_list ids links from) (kept_kinds from links))
unfolding kept_refs
kept_is ids links from = refl

-- what an item keeps of a run and of the boxes after it
run_kept : (ids : List ℕ) (from : ℕ) (kind : FourCc) → kind ≢ ILOC → (b : RefBox) (run later : List RefBox) → AreOf from kind (b ∷ run)
    → AreLater from kind later
    → kept_refs ids (b ∷ run ++ later) from ≡ filter (λ (r : RefList). not_empty r.to)
    (kept_list ids (b ∷ run ++ later) from kind ∷ map (kept_list ids later from) (kept_kinds from later))
unfolding kept_refs
run_kept ids from kind other b run later own after =
    ap (λ (ks : List FourCc). filter (λ (r : RefList). not_empty r.to) (map (kept_list ids (b ∷ run ++ later) from) ks))
    (kinds_run from kind other b run later own after)
    ∙ ap (λ (l : List RefList). filter (λ (r : RefList). not_empty r.to) (kept_list ids (b ∷ run ++ later) from kind ∷ l))
    (later_lists ids from kind (b ∷ run) later own after)

-- what a run of boxes leads to
abbrev pub led_to : List ℕ → List RefBox → List ℕ
led_to ids run = flat_map (λ (b : RefBox). filter (λ to. has_id to ids) b.to) run

-- of a run of boxes and those after it an item keeps the list of the run
own_run : (ids : List ℕ) (from : ℕ) (kind : FourCc) (run later : List RefBox) → kind ≢ ILOC → AreOf from kind run → AreLater from kind later
    → kept_refs ids (run ++ later) from ≡ filter (λ (r : RefList). not_empty r.to)
    (record { kind = kind; to = led_to ids run } ∷ []) ++ kept_refs ids later from
own_run ids from kind [] later other own after = refl
own_run ids from kind (b ∷ run) later other own after =
    let listed : List ℕ → RefList = λ t. record { kind = kind; to = t } in
    let some : RefList → Bool = λ r. not_empty r.to in
    let list : kept_list ids (b ∷ run ++ later) from kind ≡ listed (led_to ids (b ∷ run)) = ap listed (run_list ids from kind (b ∷ run) later own after) in
    let more : List RefList = map (kept_list ids later from) (kept_kinds from later) in
    let rest : kept_refs ids later from ≡ filter some more = kept_is ids later from in
    run_kept ids from kind other b run later own after ∙ ap (λ (r : RefList). filter some (r ∷ more)) list
    ∙ filter-append some (listed (led_to ids (b ∷ run)) ∷ []) more
    ∙ ap (λ (l : List RefList). filter some (listed (led_to ids (b ∷ run)) ∷ []) ++ l) (sym rest)

iloc_run : (ids : List ℕ) (from : ℕ) (kind : FourCc) (run later : List RefBox) → kind ≡ ILOC → AreOf from kind run
    → kept_refs ids (run ++ later) from ≡ kept_refs ids later from
iloc_run ids from kind run later iloc own =
    passed_over ids from run later (each (λ (b : RefBox). is_of from kind b ≡ true) (λ (b : RefBox). is_kept_link from b ≡ false) (λ b mine.
    and_false (eqb b.from from) (not (is_kind b.kind ILOC)) (λ same other.
    clash (is_kind b.kind ILOC) (same_kind b.kind ILOC (sym (kind_of from kind b mine) ∙ iloc)) (not_true (is_kind b.kind ILOC) other))) run own)

pub run_step : (ids : List ℕ) (from : ℕ) (kind : FourCc) (run later : List RefBox) → AreOf from kind run → AreLater from kind later
    → kept_refs ids (run ++ later) from ≡ list_if_any kind (led_to ids run) ++ kept_refs ids later from
run_step ids from kind run later own after = elim (cases_Bool (is_kind kind ILOC)) [
  | inl t ↦ rw t (iloc_run ids from kind run later (is_same_kind kind ILOC t) own)
  | inr f ↦ rw f (own_run ids from kind run later (λ e. clash (is_kind kind ILOC) (same_kind kind ILOC e) f) own after)
]

-- boxes of later items give an item nothing
pub none_kept : (ids : List ℕ) (from : ℕ) (bs : List RefBox) → AllByRecursion (λ (b : RefBox). eqb b.from from ≡ false) bs → kept_refs ids bs from ≡ []
unfolding kept_refs
none_kept ids from bs all =
    let over : kept_refs ids (bs ++ []) from ≡ [] =
    passed_over ids from bs []
    (each (λ (b : RefBox). eqb b.from from ≡ false) (λ (b : RefBox). is_kept_link from b ≡ false)
    (λ b other. and_false (eqb b.from from) (not (is_kind b.kind ILOC)) (λ same t. clash (eqb b.from from) same other)) bs all) in
    ap (λ (l : List RefBox). kept_refs ids l from) (sym (append-nil bs)) ∙ over
