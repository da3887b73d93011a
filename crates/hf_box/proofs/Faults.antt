-- The fault that is met first is the one at the first place that has one.
use Rattle.std.proofs.Common.{◌≡◌, ℕ, zero, suc, ◌+◌, ◌≤◌, ◌<◌, Bool, true, false, cond, List, [], ◌∷◌, ◌++◌, length, drop, Result, Ok, Err, refl, sym, ap, subst, ◌∙◌, append_assoc, arith, inl, inr, ◌⊎◌}
use Rattle.std.proofs.lemmas.List.{length-append}
use Rattle.hf_base.specs.declared.fault.ReadRefusal.{ReadRefusal}
use Rattle.hf_base.specs.declared.fault.ReadRefusal.TheVariants.{Short, BadSize, OpenSize, TooManyBoxes}
use Rattle.hf_base.specs.Number.{IsBytes, number}
use Rattle.hf_base.specs.Reading.{◌>>=◌}
use Rattle.hf_base.specs.ReadingLaws.{bind_err}
use Rattle.hf_box.specs.Boxes.{end_of, BoxAt, IsSpelling, IsBoxes, IsShort, IsBadSize, IsOpenInside, BeginsNoBox, IsFaultWithin}
use Rattle.hf_box.specs.Framing.{cut, box_at, frames_within}
use Rattle.hf_box.proofs.Box.{Way, few, half, opened, longer, plain, way, cut_err, cut_refused, few_at, half_at, long_at, compact_at, open_at}
use Rattle.hf_box.proofs.Spelled.{Takes, box_takes}
use Rattle.hf_box.proofs.Lists.{frames_nil, frames_cons, frames_full, IsBytes-rest, first_reads}

abbrev bad : {A : Type 0} → ReadRefusal → Result A ReadRefusal
bad e = Err e

err_is : {A : Type 0} (c e : ReadRefusal) → bad {A = A} c ≡ bad {A = A} e → c ≡ e
err_is c e h = cc

-- ---- one place

named : (top : Bool) (at : ℕ) (bytes : List ℕ) (c e : ReadRefusal) → c ≡ e → BeginsNoBox top at bytes c → BeginsNoBox top at bytes e
named top at bytes c e is h = subst (λ (r : ReadRefusal). BeginsNoBox top at bytes r) is h

opened_err : (top : Bool) (at : ℕ) (bytes : List ℕ) (e : ReadRefusal) → 8 ≤ length bytes → number 4 bytes ≡ 0 → cond top (cut 8 (length bytes) at bytes) (Err (OpenSize at)) ≡ Err e → BeginsNoBox top at bytes e
opened_err true at bytes e len none h = let c = cut_err 8 (length bytes) at bytes e h in absurd (elim c.1 [ inl a ↦ omega arith | inr b ↦ omega arith ])
opened_err false at bytes e len none h = named false at bytes (OpenSize at) e (err_is (OpenSize at) e h) (refl, (len, none, refl))

longer_err : (top : Bool) (at : ℕ) (bytes : List ℕ) (e : ReadRefusal) → 16 ≤ length bytes → number 4 bytes ≡ 1 → cut 16 (number 8 (drop 8 bytes)) at bytes ≡ Err e → BeginsNoBox top at bytes e
longer_err top at bytes e len one h =
    let c = cut_err 16 (number 8 (drop 8 bytes)) at bytes e h in
    named top at bytes (BadSize at) e (sym c.0) (refl, (omega arith, inr (one, len, c.1)))

plain_err : (top : Bool) (at : ℕ) (bytes : List ℕ) (e : ReadRefusal) → 8 ≤ length bytes → 2 ≤ number 4 bytes → cut 8 (number 4 bytes) at bytes ≡ Err e → BeginsNoBox top at bytes e
plain_err top at bytes e len two h =
    let c = cut_err 8 (number 4 bytes) at bytes e h in
    named top at bytes (BadSize at) e (sym c.0) (refl, (len, inl (two, c.1)))

way_err : (top : Bool) (at : ℕ) (bytes : List ℕ) (e : ReadRefusal) → 0 < length bytes → box_at top at bytes ≡ Err e → Way top at bytes → BeginsNoBox top at bytes e
way_err top at bytes e some h (few short is) = named top at bytes (Short at) e (err_is (Short at) e (sym is ∙ h)) (refl, inl (some, short))
way_err top at bytes e some h (half len one short is) = named top at bytes (Short at) e (err_is (Short at) e (sym is ∙ h)) (refl, inr (len, one, short))
way_err top at bytes e some h (opened len none is) = opened_err top at bytes e len none (sym is ∙ h)
way_err top at bytes e some h (longer len one is) = longer_err top at bytes e len one (sym is ∙ h)
way_err top at bytes e some h (plain len two is) = plain_err top at bytes e len two (sym is ∙ h)

pub box_err : (top : Bool) (at : ℕ) (bytes : List ℕ) (e : ReadRefusal) → 0 < length bytes → box_at top at bytes ≡ Err e → BeginsNoBox top at bytes e
box_err top at bytes e some h = way_err top at bytes e some h (way top at bytes)

short_refused : (top : Bool) (at : ℕ) (bytes : List ℕ) → IsShort bytes → (box_at top at bytes ≡ Err (Short at)) × (0 < length bytes)
short_refused top at bytes (inl p) = (few_at top at bytes p.1, p.0)
short_refused top at bytes (inr p) = (half_at top at bytes p.0 p.1 p.2, omega (arith, p.0))

size_refused : (top : Bool) (at : ℕ) (bytes : List ℕ) → IsBadSize bytes → (box_at top at bytes ≡ Err (BadSize at)) × (0 < length bytes)
size_refused top at bytes (len, inl p) = (compact_at top at bytes len p.0 ∙ cut_refused 8 (number 4 bytes) at bytes p.1, omega arith)
size_refused top at bytes (len, inr p) = (long_at top at bytes p.1 p.0 ∙ cut_refused 16 (number 8 (drop 8 bytes)) at bytes p.2, omega arith)

open_refused : (top : Bool) (at : ℕ) (bytes : List ℕ) → IsOpenInside top bytes → (box_at top at bytes ≡ Err (OpenSize at)) × (0 < length bytes)
open_refused top at bytes (len, none, inside) = (open_at top at bytes len none ∙ ap (λ (o : Bool). cond o (cut 8 (length bytes) at bytes) (Err (OpenSize at))) inside, omega arith)

pub box_refused : (top : Bool) (place : ℕ) (bytes : List ℕ) (e : ReadRefusal) → BeginsNoBox top place bytes e → (box_at top place bytes ≡ Err e) × (0 < length bytes)
box_refused top place bytes (Short at) h = let p = short_refused top place bytes h.1 in (p.0 ∙ ap (λ (k : ℕ). Err (Short k)) (sym h.0), p.1)
box_refused top place bytes (BadSize at) h = let p = size_refused top place bytes h.1 in (p.0 ∙ ap (λ (k : ℕ). Err (BadSize k)) (sym h.0), p.1)
box_refused top place bytes (OpenSize at) h = let p = open_refused top place bytes h.1 in (p.0 ∙ ap (λ (k : ℕ). Err (OpenSize k)) (sym h.0), p.1)
box_refused top place bytes _ h = absurd h

-- ---- the first place

pub frames_fault : (limit : ℕ) (top : Bool) (at : ℕ) (bytes : List ℕ) (e : ReadRefusal) → IsBytes bytes → frames_within limit top at bytes ≡ Err e → IsFaultWithin limit bytes at top e
frames_fault limit top at [] e fits h = let none = frames_nil limit top at [] refl in absurd cc
frames_fault zero top at (x ∷ xs) e fits h =
    let here : at + 0 ≡ at = omega arith in
    let named_so : TooManyBoxes at ≡ e = err_is (TooManyBoxes at) e (sym (frames_full top at (x ∷ xs) (omega arith)) ∙ h) in
    ([], [], x ∷ xs, refl, refl, inr (refl, omega arith, sym named_so ∙ ap TooManyBoxes (sym here)))
frames_fault (suc n) top at (x ∷ xs) e fits h =
    let bytes : List ℕ = x ∷ xs in
    elim (bind_err (box_at top at bytes) (λ first. frames_within n top (end_of first.0) first.1 >>= λ others. Ok (first.0 ∷ others)) e (sym (frames_cons n top at bytes (omega arith)) ∙ h)) [
      | inl bad_here ↦ at_once n top at bytes e (box_err top at bytes e (omega arith) bad_here)
      | inr later ↦ elim (bind_err (frames_within n top (end_of later.0.0) later.0.1) (λ others. Ok (later.0.0 ∷ others)) e later.2) [
        | inl bad_later ↦
            let t = box_takes top at bytes later.0 fits later.1 in
            behind n top at bytes later.0 e t bad_later (frames_fault n top (end_of later.0.0) later.0.1 e (IsBytes-rest bytes t.text later.0.1 t.whole fits) bad_later)
        | inr never ↦ absurd (let f = never.2 in cc)
      ]
    ]
  where
    at_once : (n : ℕ) (top : Bool) (at : ℕ) (bytes : List ℕ) (e : ReadRefusal) → BeginsNoBox top at bytes e → IsFaultWithin (suc n) bytes at top e
    at_once n top at bytes e h =
        let here : at ≡ at + 0 = omega arith in
        ([], [], bytes, refl, refl, inl (omega arith, subst (λ (p : ℕ). BeginsNoBox top p bytes e) here h))

    behind : (n : ℕ) (top : Bool) (at : ℕ) (bytes : List ℕ) (x : BoxAt × List ℕ) (e : ReadRefusal) → Takes top at bytes x → frames_within n top (end_of x.0) x.1 ≡ Err e
        → IsFaultWithin n x.1 (end_of x.0) top e → IsFaultWithin (suc n) bytes at top e
    behind n top at bytes x e t h (boxes, front, rest, whole, are, which) =
        let spelled : IsSpelling false x.0 t.text = elim t.spelled [
          | inl p ↦ p
          | inr p ↦ let none = frames_nil n top (end_of x.0) x.1 p.0 in absurd cc
        ] in
        let len = length-append t.text front in
        let place : end_of x.0 + length front ≡ at + length (t.text ++ front) = omega (arith, t.ends) in
        let all : bytes ≡ (t.text ++ front) ++ rest = t.whole ∙ ap (λ (r : List ℕ). t.text ++ r) whole ∙ sym (append_assoc t.text front rest) in
        let these : IsBoxes (t.text ++ front) at false (x.0 ∷ boxes) = (t.text, front, refl, t.place, t.four, spelled, subst (λ (p : ℕ). IsBoxes front p false boxes) t.ends are) in (
          x.0 ∷ boxes,
          t.text ++ front,
          rest,
          all,
          these,
          elim which [
            | inl p ↦ inl (omega (arith, p.0), subst (λ (q : ℕ). BeginsNoBox top q rest e) place p.1)
            | inr p ↦ inr (ap suc p.0, p.1, p.2 ∙ ap TooManyBoxes place)
          ],
        )

pub fault_read : (boxes : List BoxAt) (limit : ℕ) (top : Bool) (at : ℕ) (bytes front rest : List ℕ) (e : ReadRefusal) → bytes ≡ front ++ rest → IsBoxes front at false boxes
    → ((length boxes < limit) × BeginsNoBox top (at + length front) rest e) ⊎ ((length boxes ≡ limit) × (0 < length rest) × (e ≡ TooManyBoxes (at + length front)))
    → frames_within limit top at bytes ≡ Err e
fault_read [] zero top at bytes front rest e whole are (inl p) = absurd (omega (arith, p.0))
fault_read [] (suc n) top at bytes front rest e whole are (inl p) =
    let same : rest ≡ bytes = ap (λ (f : List ℕ). f ++ rest) (sym are) ∙ sym whole in
    let place : at + length front ≡ at = ap (λ (f : List ℕ). at + length f) are ∙ omega arith in
    let h : BeginsNoBox top at bytes e = subst (λ (q : ℕ). BeginsNoBox top q bytes e) place (subst (λ (r : List ℕ). BeginsNoBox top (at + length front) r e) same p.1) in
    let b = box_refused top at bytes e h in
    frames_cons n top at bytes b.1 ∙ rw b.0 refl
fault_read [] limit top at bytes front rest e whole are (inr p) =
    let same : rest ≡ bytes = ap (λ (f : List ℕ). f ++ rest) (sym are) ∙ sym whole in
    let place : at + length front ≡ at = ap (λ (f : List ℕ). at + length f) are ∙ omega arith in
    let some : 0 < length bytes = omega (arith, p.1, ap length same) in
    ap (λ (k : ℕ). frames_within k top at bytes) (sym p.0) ∙ frames_full top at bytes some ∙ ap (λ (k : ℕ). Err (TooManyBoxes k)) (sym place) ∙ ap (λ (r : ReadRefusal). Err r) (sym p.2)
fault_read (b ∷ bs) zero top at bytes front rest e whole are (inl p) = absurd (omega (arith, p.0))
fault_read (b ∷ bs) zero top at bytes front rest e whole are (inr p) = absurd (omega (arith, p.0))
fault_read (b ∷ bs) (suc n) top at bytes front rest e whole (text, after, parts, place, four, spelled, more) which =
    let all : bytes ≡ text ++ (after ++ rest) = whole ∙ ap (λ (f : List ℕ). f ++ rest) parts ∙ append_assoc text after rest in
    let never : false ≡ true → (top ≡ true) × (after ++ rest ≡ []) = λ h. absurd cc in
    let f = first_reads top at bytes b text (after ++ rest) false all place four spelled never in
    let sum : at + length front ≡ (at + length text) + length after = omega (arith, ap length parts, length-append text after) in
    let which' : ((length bs < n) × BeginsNoBox top ((at + length text) + length after) rest e) ⊎ ((length bs ≡ n) × (0 < length rest) × (e ≡ TooManyBoxes ((at + length text) + length after))) = elim which [
      | inl p ↦ inl (omega (arith, p.0), subst (λ (q : ℕ). BeginsNoBox top q rest e) sum p.1)
      | inr p ↦ inr (omega (arith, p.0), p.1, p.2 ∙ ap TooManyBoxes sum)
    ] in
    let later : frames_within n top (end_of b) (after ++ rest) ≡ Err e = ap (λ (p : ℕ). frames_within n top p (after ++ rest)) f.2 ∙ fault_read bs n top (at + length text) (after ++ rest) after rest e refl more which' in
    frames_cons n top at bytes f.1 ∙ rw (f.0, later) refl
