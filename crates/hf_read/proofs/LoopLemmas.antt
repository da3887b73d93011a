-- The first fault of boxes, as a loop over them finds it.
use Rattle.std.proofs.Common.{◌≡◌, ℕ, ◌+◌, ◌≤◌, ◌<◌, Bool, true, false, ◌||◌, List, [], ◌∷◌, ◌++◌, length, take, drop, get_or, Result, Err, Some, None, refl, sym, ap, ◌∙◌, arith, inl, inr}
use Rattle.std.proofs.lemmas.Bool.{cases_Bool}
use Rattle.std.proofs.lemmas.List.{drop_more, map_more, drop_all, take-append-drop, map-append}
use Rattle.std.proofs.lemmas.List.Folds.{list_any-append}
use Rattle.hf_base.specs.Reading.{◌>>=◌, Fails}
use Rattle.hf_base.specs.declared.four.FourCc.{FourCc}
use Rattle.hf_base.specs.declared.fault.ReadRefusal.{ReadRefusal}
use Rattle.std.specs.Str.{bytes_eq}
use Rattle.hf_base.specs.declared.fault.OpenFault.{OpenFault}
use Rattle.hf_base.specs.declared.fault.OpenFault.TheVariants as errors
use Rattle.hf_box.specs.declared.view.BoxView.{BoxView}
use Rattle.hf_box.specs.Boxes.{BoxAt, box_of, boxes_of}
use Rattle.hf_box.specs.Walk.{is_kind}
use Rattle.hf_box.proofs.SameKinds.{is_same_kind}
use Rattle.hf_read.specs.Level.{Knows}
use Rattle.hf_read.specs.TopLevel.{has_kind, first_of, is_among, first_fault, has_brand}
use Rattle.hf_read.proofs.FirstFaults.{Fault, fine, has-push, kind_flip}

cons_fault : (fault : Fault) (before : List BoxAt) (b : BoxAt) (bs : List BoxAt) → first_fault fault before (b ∷ bs) ≡ (fault before b >>= λ none. first_fault fault (before ++ b ∷ []) bs)
unfolding first_fault
cons_fault fault before b bs = refl

nil_fault : (fault : Fault) (before : List BoxAt) → first_fault fault before [] ≡ fine
unfolding first_fault
nil_fault fault before = refl

module _ (fault : Fault) (boxes : List BoxView) (i : ℕ) (b : BoxView) (total : Result (Unit {0}) ReadRefusal) (less : i < length boxes) (so_far : first_fault fault (boxes_of (take i boxes)) (boxes_of (drop i boxes)) ≡ total) where
  here : (fault (boxes_of (take i boxes)) (box_of (get_or boxes i b)) >>= λ none. first_fault fault (boxes_of (take (i + 1) boxes)) (boxes_of (drop (i + 1) boxes))) ≡ total
  here =
      let rest : boxes_of (drop i boxes) ≡ box_of (get_or boxes i b) ∷ boxes_of (drop (i + 1) boxes) = ap boxes_of (drop_more boxes i b less) in
      let more : boxes_of (take (i + 1) boxes) ≡ boxes_of (take i boxes) ++ box_of (get_or boxes i b) ∷ [] = map_more box_of boxes i b less in
      let step = cons_fault fault (boxes_of (take i boxes)) (box_of (get_or boxes i b)) (boxes_of (drop (i + 1) boxes)) in
      ap (λ (l : List BoxAt). fault (boxes_of (take i boxes)) (box_of (get_or boxes i b)) >>= λ none. first_fault fault l (boxes_of (drop (i + 1) boxes))) more
      ∙ sym step ∙ ap (first_fault fault (boxes_of (take i boxes))) (sym rest) ∙ so_far

  pub fault_on : fault (boxes_of (take i boxes)) (box_of (get_or boxes i b)) ≡ fine → first_fault fault (boxes_of (take (i + 1) boxes)) (boxes_of (drop (i + 1) boxes)) ≡ total
  fault_on none = sym (ap (λ (r : Result (Unit {0}) ReadRefusal). r >>= λ none. first_fault fault (boxes_of (take (i + 1) boxes)) (boxes_of (drop (i + 1) boxes))) none) ∙ here

  pub fault_here : (e : ReadRefusal) → fault (boxes_of (take i boxes)) (box_of (get_or boxes i b)) ≡ Err e → total ≡ Err e
  fault_here e h = sym here ∙ ap (λ (r : Result (Unit {0}) ReadRefusal). r >>= λ none. first_fault fault (boxes_of (take (i + 1) boxes)) (boxes_of (drop (i + 1) boxes))) h

  pub fails_here : (e : OpenFault) → Fails e (fault (boxes_of (take i boxes)) (box_of (get_or boxes i b))) → Fails e total
  fails_here errors.NoMemory h = tt
  fails_here (errors.Unfit e) h = fault_here e h

pub fault_end : (fault : Fault) (boxes : List BoxView) (i : ℕ) (total : Result (Unit {0}) ReadRefusal) → length boxes ≤ i
    → first_fault fault (boxes_of (take i boxes)) (boxes_of (drop i boxes)) ≡ total → total ≡ fine
fault_end fault boxes i total all so_far =
    let none : boxes_of (drop i boxes) ≡ [] = ap boxes_of (drop_all i boxes all) in
    sym so_far ∙ ap (first_fault fault (boxes_of (take i boxes))) none ∙ nil_fault fault (boxes_of (take i boxes))

-- ---- the types that were met

among-push : (seen : List FourCc) (k kind : FourCc) → is_among (seen ++ kind ∷ []) k ≡ is_among seen k || is_kind k kind
among-push seen k kind = list_any-append (λ (x : FourCc). is_kind k x) seen (kind ∷ []) ∙ (elim (cases_Bool (is_kind k kind)) [ inl t ↦ rw t refl | inr f ↦ rw f refl ])

pub knows_more : (once seen : List FourCc) (before : List BoxAt) (b : BoxAt) → Knows once seen before → Knows once (seen ++ b.kind ∷ []) (before ++ b ∷ [])
knows_more once seen before b h k listed =
    among-push seen k b.kind ∙ ap (λ (t : Bool). t || is_kind k b.kind) (h k listed) ∙ ap (λ (t : Bool). has_kind k before || t) (kind_flip k b.kind) ∙ sym (has-push k before b)

pub knows_still : (once seen : List FourCc) (before : List BoxAt) (b : BoxAt) → is_among once b.kind ≡ false → Knows once seen before → Knows once seen (before ++ b ∷ [])
knows_still once seen before b other h k listed =
    let apart : is_kind b.kind k ≡ false = elim (cases_Bool (is_kind b.kind k)) [
      | inl t ↦ absurd (let e : true ≡ false = sym listed ∙ ap (is_among once) (sym (is_same_kind b.kind k t)) ∙ other in cc)
      | inr f ↦ f
    ] in
    h k listed ∙ sym (has-push k before b ∙ rw apart (elim (cases_Bool (has_kind k before)) [ inl x ↦ rw x refl | inr x ↦ rw x refl ]))

-- ---- the first box of a type

find_push : (k : FourCc) (xs : List BoxAt) (x : BoxAt) (ys : List BoxAt) → first_of k xs ≡ None → is_kind x.kind k ≡ true → first_of k (xs ++ x ∷ ys) ≡ Some x
find_push k [] x ys h t = rw t refl
find_push k (y ∷ xs) x ys h t = elim (cases_Bool (is_kind y.kind k)) [
  | inl s ↦ absurd (let e : Some y ≡ None = sym (rw s refl) ∙ h in cc)
  | inr s ↦ rw s (find_push k xs x ys (sym (rw s refl) ∙ h) t)
]

find_none : (k : FourCc) (xs : List BoxAt) (x : BoxAt) → first_of k xs ≡ None → is_kind x.kind k ≡ false → first_of k (xs ++ x ∷ []) ≡ None
find_none k [] x h f = rw f refl
find_none k (y ∷ xs) x h f = elim (cases_Bool (is_kind y.kind k)) [
  | inl s ↦ absurd (let e : Some y ≡ None = sym (rw s refl) ∙ h in cc)
  | inr s ↦ rw s (find_none k xs x (sym (rw s refl) ∙ h) f)
]

module _ (k : FourCc) (boxes : List BoxView) (i : ℕ) (b : BoxView) (less : i < length boxes) (none : first_of k (boxes_of (take i boxes)) ≡ None) where
  pub first_here : is_kind (get_or boxes i b).kind k ≡ true → first_of k (boxes_of boxes) ≡ Some (box_of (get_or boxes i b))
  first_here t =
      let rest : boxes_of (drop i boxes) ≡ box_of (get_or boxes i b) ∷ boxes_of (drop (i + 1) boxes) = ap boxes_of (drop_more boxes i b less) in
      let whole : boxes_of boxes ≡ boxes_of (take i boxes) ++ box_of (get_or boxes i b) ∷ boxes_of (drop (i + 1) boxes) =
      ap boxes_of (sym (take-append-drop i boxes)) ∙ map-append box_of (take i boxes) (drop i boxes) ∙ ap (λ (l : List BoxAt). boxes_of (take i boxes) ++ l) rest in
      ap (first_of k) whole ∙ find_push k (boxes_of (take i boxes)) (box_of (get_or boxes i b)) (boxes_of (drop (i + 1) boxes)) none t

  pub first_later : is_kind (get_or boxes i b).kind k ≡ false → first_of k (boxes_of (take (i + 1) boxes)) ≡ None
  first_later f = ap (first_of k) (map_more box_of boxes i b less) ∙ find_none k (boxes_of (take i boxes)) (box_of (get_or boxes i b)) none f

-- ---- brands of four bytes each

pub brand_step : (k xs : List ℕ) → 4 ≤ length xs → has_brand k xs ≡ (bytes_eq (take 4 xs) k || has_brand k (drop 4 xs))
unfolding has_brand
brand_step k [] h = absurd (omega arith)
brand_step k (a ∷ []) h = absurd (omega arith)
brand_step k (a ∷ b ∷ []) h = absurd (omega arith)
brand_step k (a ∷ b ∷ c ∷ []) h = absurd (omega arith)
brand_step k (a ∷ b ∷ c ∷ d ∷ rest) h = refl

pub brand_none : (k xs : List ℕ) → length xs < 4 → has_brand k xs ≡ false
unfolding has_brand
brand_none k [] h = refl
brand_none k (a ∷ []) h = refl
brand_none k (a ∷ b ∷ []) h = refl
brand_none k (a ∷ b ∷ c ∷ []) h = refl
brand_none k (a ∷ b ∷ c ∷ d ∷ rest) h = absurd (omega arith)

pub brand_here : (k xs : List ℕ) (total : Bool) → 4 ≤ length xs → has_brand k xs ≡ total → bytes_eq (take 4 xs) k ≡ true → true ≡ total
brand_here k xs total h so_far t = sym (brand_step k xs h ∙ rw t refl) ∙ so_far

pub brand_on : (k xs : List ℕ) (total : Bool) → 4 ≤ length xs → has_brand k xs ≡ total → bytes_eq (take 4 xs) k ≡ false → has_brand k (drop 4 xs) ≡ total
brand_on k xs total h so_far f = sym (brand_step k xs h ∙ rw f refl) ∙ so_far
