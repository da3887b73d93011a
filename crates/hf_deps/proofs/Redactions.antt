-- What is left after a redaction is valid, is left alone by another one, and says nothing of what went.
use Rattle.std.proofs.Common.{◌≡◌, ℕ, ◌<◌, Bool, true, false, not, ◌||◌, List, [], ◌∷◌, length, map, filter, refl, ap, subst, ◌∙◌, arith, inl, inr}
use Rattle.std.specs.Prelude.{◌==◌}
use Rattle.std.specs.List.{AllByRecursion}
use Rattle.std.proofs.lemmas.Bool.{cases_Bool, eqb-true}
use Rattle.hf_order.proofs.Members.{all_from, in_all}
use Rattle.hf_store.specs.Changes.{added, cut, cut_refs, is_other, kept_only, removed, unnamed}
use Rattle.hf_store.specs.Derived.{inputs}
use Rattle.hf_store.specs.Lists.{IsIn, not_empty}
use Rattle.hf_store.specs.Store.{Item, ItemStore}
use Rattle.hf_store.specs.declared.item.RefList.{RefList}
use Rattle.hf_store.specs.Valid.{IsGoodItem, IsGoodRef, Valid}
use Rattle.hf_store.proofs.Cuts.{KeepsInputs}
use Rattle.hf_store.proofs.CutValid.{valid_cut}
use Rattle.hf_store.proofs.Names.{valid_unnamed}
use Rattle.hf_table.specs.Held.{is_among}
use Rattle.hf_box.specs.Literals.{four}
use Rattle.hf_box.specs.Walk.{is_kind}
use Rattle.hf_deps.specs.Kept.{Keeps, Kept, kept_ids}
use Rattle.hf_deps.specs.Redacted.{AdditionIsForgotten, all_bared, bared, is_description, redacted, RedactedOnce, RedactionKeepsValidity, RemovalIsForgotten, undescribed}
use Rattle.hf_deps.proofs.Among.{among_in, in_among, not_among}
use Rattle.hf_deps.proofs.Cutting.{added_kept, added_linked, bared_kept, bared_linked, cut_kept, cut_linked, KeepsTheSame, same_ids}
use Rattle.hf_deps.proofs.CutTwice.{all_bared_twice, cut_added, cut_bared, cut_twice}
use Rattle.hf_deps.proofs.Chains.{IsLinked, kept_ids_first, kept_next, kept_there, kept_told, told_kept, valid_linked}
use Rattle.hf_deps.proofs.Parts.{IsPart, valid_parts}

-- ---- the inputs of what is kept

abbrev dimg : RefList → Bool
dimg r = is_kind r.kind (four "dimg")

all_stay : (stays : ℕ → Bool) (ids : List ℕ) → ((x : ℕ) → IsIn x ids → stays x ≡ true) → filter stays ids ≡ ids
all_stay stays [] each = refl
all_stay stays (x ∷ xs) each = let here = each x (inl refl) in rw here (ap (λ (l : List ℕ). x ∷ l) (all_stay stays xs (λ y h. each y (inr h))))

some_there : (xs : List ℕ) → 0 < length xs → not_empty xs ≡ true
some_there [] some = absurd (omega arith)
some_there (x ∷ xs) some = refl

inputs_stay : (stays : ℕ → Bool) (all : List Item) (rs : List RefList) → AllByRecursion (IsGoodRef all) rs
    → ((r : RefList) (x : ℕ) → IsIn r rs → dimg r ≡ true → IsIn x r.to → stays x ≡ true) → inputs (cut_refs stays rs) ≡ inputs rs
inputs_stay stays all [] good each = refl
inputs_stay stays all (r ∷ rs) good each =
    let rest = inputs_stay stays all rs good.1 (λ q x h. each q x (inr h)) in
    elim (cases_Bool (dimg r)) [
      | inl input ↦
          let same : filter stays r.to ≡ r.to = all_stay stays r.to (λ x h. each r x (inl refl) input h) in
          let some : not_empty (filter stays r.to) ≡ true = ap not_empty same ∙ some_there r.to good.0.some in
          rw (some, input) same
      | inr other ↦ elim (cases_Bool (not_empty (filter stays r.to))) [ inl some ↦ rw (some, other) rest | inr gone ↦ rw (gone, other) rest ]
    ]

first_or : (a b c : Bool) → a ≡ true → (a || b || c) ≡ true
first_or true b c e = refl
first_or false b c e = absurd cc

kept_inputs : (s : ItemStore) (bare : Bool) → Valid s → KeepsInputs (is_among (kept_ids bare s)) s.items
kept_inputs s bare valid =
    let stays = is_among (kept_ids bare s) in
    let linked = valid_linked s bare valid in
    all_from (λ (i : Item). stays i.id ≡ true → inputs (cut_refs stays i.refs) ≡ inputs i.refs) s.items (λ i there here.
    let good = in_all (IsGoodItem s.items) s.items valid.items i there in
    let kept = told_kept s bare i.id (among_in i.id (kept_ids bare s) here) in
    inputs_stay stays s.items i.refs good.refs (λ r x has input leads.
    let needed : Keeps s bare i.id x = inl (i, r, there, refl, has, first_or (dimg r) _ _ input, leads) in
    in_among x (kept_ids bare s) (kept_told s bare linked x (kept_next s bare i.id x kept needed))))

-- ---- validity

undescribed_part : (i : Item) → IsPart i (undescribed i)
undescribed_part i = record { same = refl; stays = (λ h. not (is_description h), refl) }

bared-twice : (is : List Item) → map undescribed (map unnamed is) ≡ map bared is
bared-twice [] = refl
bared-twice (i ∷ is) = ap (λ (js : List Item). bared i ∷ js) (bared-twice is)

valid_bared : (s : ItemStore) → Valid s → Valid (all_bared s)
valid_bared s valid =
    let named = valid_unnamed s valid in
    let left = valid_parts undescribed undescribed_part (record s { items = map unnamed s.items }) named in
    subst (λ (is : List Item). Valid (record s { items = is })) (bared-twice s.items) left

pub valid_kept : (s : ItemStore) (bare : Bool) → Valid s → Valid (kept_only (kept_ids bare s) s)
valid_kept s bare valid =
    let ids = kept_ids bare s in
    valid_cut (is_among ids) s valid (in_among s.primary ids (kept_ids_first s bare (valid_linked s bare valid))) (kept_inputs s bare valid)

pub redaction_keeps_validity : RedactionKeepsValidity
unfolding redacted
redaction_keeps_validity s bare valid = valid_bared (kept_only (kept_ids bare s) s) (valid_kept s bare valid)

-- ---- once is enough

stays_kept : (s : ItemStore) (bare : Bool) → IsLinked s bare → (id : ℕ) → Kept s bare id → is_among (kept_ids bare s) id ≡ true
stays_kept s bare linked id kept = in_among id (kept_ids bare s) (kept_told s bare linked id kept)

through : (s t u : ItemStore) (bare : Bool) → KeepsTheSame s t bare → KeepsTheSame t u bare → KeepsTheSame s u bare
through s t u bare one two = record { there = λ id kept. two.there id (one.there id kept); back = λ id kept. one.back id (two.back id kept) }

redacted_same : (s : ItemStore) (bare : Bool) → IsLinked s bare → kept_ids bare (redacted bare s) ≡ kept_ids bare s
unfolding redacted
redacted_same s bare linked =
    let stays = is_among (kept_ids bare s) in
    let all = stays_kept s bare linked in
    let left = cut stays s in
    same_ids (all_bared left) s bare (bared_linked left bare (cut_linked stays s bare all linked)) linked
    (through (all_bared left) left s bare (bared_kept left bare) (cut_kept stays s bare all))

pub redacted_once : RedactedOnce
unfolding redacted
redacted_once s bare valid =
    let ids = kept_ids bare s in
    let p = is_among ids in
    let left = cut p s in
    let same : kept_ids bare (all_bared left) ≡ ids = redacted_same s bare (valid_linked s bare valid) in
    ap (λ (kept : List ℕ). all_bared (cut (is_among kept) (all_bared left))) same
    ∙ ap all_bared (cut_bared p left ∙ ap all_bared (cut_twice p p (λ x here. here) s))
    ∙ all_bared_twice left

-- ---- what went

differs : (x id : ℕ) → (x ≡ id → ⊥) → is_other id x ≡ true
differs x id other = elim (cases_Bool (x == id)) [ inl same ↦ absurd (other (eqb-true x id same)) | inr not_same ↦ ap not not_same ]

pub removal_is_forgotten : RemovalIsForgotten
unfolding redacted
removal_is_forgotten s bare id valid out =
    let linked = valid_linked s bare valid in
    let all : (x : ℕ) → Kept s bare x → is_other id x ≡ true = λ x kept. differs x id (λ same. out (subst (Kept s bare) same kept)) in
    let left = removed id s in
    let same : kept_ids bare left ≡ kept_ids bare s = same_ids left s bare (cut_linked (is_other id) s bare all linked) linked
    (cut_kept (is_other id) s bare all) in
    let stay : (x : ℕ) → is_among (kept_ids bare s) x ≡ true → is_other id x ≡ true =
    λ x here. all x (told_kept s bare x (among_in x (kept_ids bare s) here))
    in
    ap (λ (kept : List ℕ). all_bared (kept_only kept left)) same
    ∙ ap all_bared (cut_twice (is_among (kept_ids bare s)) (is_other id) stay s)

pub addition_is_forgotten : AdditionIsForgotten
unfolding redacted
addition_is_forgotten s bare i valid nothing above =
    let linked = valid_linked s bare valid in
    let more = added i s in
    let same : kept_ids bare more ≡ kept_ids bare s = same_ids more s bare (added_linked i s bare nothing above linked) linked (added_kept i s bare nothing) in
    let out : is_among (kept_ids bare s) i.id ≡ false =
    not_among i.id (kept_ids bare s) (λ among. let lower = above i.id (kept_there s bare linked i.id (told_kept s bare i.id among)) in omega (arith, lower))
    in
    ap (λ (kept : List ℕ). all_bared (kept_only kept more)) same
    ∙ ap all_bared (cut_added (is_among (kept_ids bare s)) i s out)
