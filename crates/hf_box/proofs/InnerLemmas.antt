-- Boxes inside another one, as they are counted and taken.
use Rattle.std.proofs.Common.{◌≡◌, ℕ, zero, suc, ◌+◌, ◌-◌, ◌^◌, ◌≤◌, ◌<◌, Bool, false, List, [], ◌∷◌, length, Result, Ok, Err, refl, sym, ap, subst, ◌∙◌, arith, inl, inr}
use Rattle.std.proofs.lemmas.Bool.{cases_Bool}
use Rattle.hf_base.specs.declared.four.FourCc.{FourCc}
use Rattle.hf_base.specs.declared.fault.ReadRefusal.{ReadRefusal}
use Rattle.hf_base.specs.declared.limits.TheConstants.{BOXES}
use Rattle.hf_base.specs.Reading.{◌>>=◌}
use Rattle.hf_base.specs.declared.limits.TheConstants.{BOXES}
use Rattle.hf_base.specs.ReadingLaws.{bind_ok, ok_is}
use Rattle.hf_box.specs.Boxes.{BoxAt, end_of}
use Rattle.hf_box.specs.Framing.{box_at, frames, frames_within}
use Rattle.hf_box.specs.Inner.{boxes_or_none, boxes_left, AreInner}
use Rattle.hf_box.specs.Tables.{of_kind}
use Rattle.hf_box.specs.Walk.{is_kind}
use Rattle.hf_box.proofs.Lists.{frames_nil, frames_cons, frames_full}

abbrev Others : ℕ → Bool → BoxAt × List ℕ → Result (List BoxAt) ReadRefusal
Others n top first = frames_within n top (end_of first.0) first.1 >>= λ others. Ok (first.0 ∷ others)

-- a box, and the boxes behind it
one_more : (n : ℕ) (top : Bool) (at : ℕ) (bytes : List ℕ) (first : BoxAt × List ℕ) (others : List BoxAt) → 0 < length bytes → box_at top at bytes ≡ Ok first
    → frames_within n top (end_of first.0) first.1 ≡ Ok others → frames_within (suc n) top at bytes ≡ Ok (first.0 ∷ others)
one_more n top at bytes first others some h more = frames_cons n top at bytes some ∙ rw (h, more) refl

-- the limit that is as large as the list is enough
frames_least : (limit : ℕ) (top : Bool) (at : ℕ) (bytes : List ℕ) (boxes : List BoxAt) → frames_within limit top at bytes ≡ Ok boxes → frames_within (length boxes) top at bytes ≡ Ok boxes
frames_least limit top at [] boxes e =
    let none = ok_is [] boxes (sym (frames_nil limit top at [] refl) ∙ e) in
    subst (λ (bs : List BoxAt). frames_within (length bs) top at [] ≡ Ok bs) none (frames_nil 0 top at [] refl)
frames_least zero top at (x ∷ xs) boxes e = let full = frames_full top at (x ∷ xs) (omega arith) in absurd cc
frames_least (suc n) top at (x ∷ xs) boxes e =
    let bytes : List ℕ = x ∷ xs in
    let a = bind_ok (box_at top at bytes) (Others n top) boxes (sym (frames_cons n top at bytes (omega arith)) ∙ e) in
    let b = bind_ok (frames_within n top (end_of a.0.0) a.0.1) (λ others. Ok (a.0.0 ∷ others)) boxes a.2 in
    let more = frames_least n top (end_of a.0.0) a.0.1 b.0 b.1 in
    subst (λ (bs : List BoxAt). frames_within (length bs) top at bytes ≡ Ok bs) {x = a.0.0 ∷ b.0} (ok_is (a.0.0 ∷ b.0) boxes b.2) (one_more (length b.0) top at bytes a.0 b.0 (omega arith) a.1 more)

abbrev fine : List BoxAt → Result (List BoxAt) ReadRefusal
fine boxes = Ok boxes

left_is : (many at : ℕ) (bytes : List ℕ) (boxes : List BoxAt) → frames_within many false at bytes ≡ Ok boxes → boxes_left many at bytes ≡ boxes
left_is many at bytes boxes e = ap boxes_or_none e

-- what was counted
pub counted_all : (at : ℕ) (bytes : List ℕ) (boxes : List BoxAt) (many : ℕ) → frames false at bytes ≡ Ok boxes → length boxes ≡ many → many ≤ BOXES → at + length bytes < 2 ^ 64
    → (frames false at bytes ≡ Ok (boxes_left many at bytes)) × AreInner many at bytes
counted_all at bytes boxes many e len few place =
    let least : frames_within many false at bytes ≡ Ok boxes = subst (λ (m : ℕ). frames_within m false at bytes ≡ Ok boxes) len (frames_least BOXES false at bytes boxes e) in
    let is = left_is many at bytes boxes least in
    let same = ap fine (sym is) in
    (e ∙ same, record { framed = least ∙ same; counted = ap length is ∙ len; few = few; place = place })

-- no box begins here, so none is left
pub none_left : (many at : ℕ) (bytes : List ℕ) (e : ReadRefusal) → AreInner many at bytes → box_at false at bytes ≡ Err e → boxes_left many at bytes ≡ []
none_left many at [] e inner h = left_is many at [] [] (frames_nil many false at [] refl)
none_left zero at (x ∷ xs) e inner h = let full = frames_full false at (x ∷ xs) (omega arith) in let framed = inner.framed in absurd cc
none_left (suc n) at (x ∷ xs) e inner h =
    let refused : frames_within (suc n) false at (x ∷ xs) ≡ Err e = frames_cons n false at (x ∷ xs) (omega arith) ∙ rw h refl in
    let framed = inner.framed in
    absurd cc

-- the box at the front was taken, and so many are left, from a place on
pub record IsTaken (many left at next : ℕ) (bytes : List ℕ) (b : BoxAt) (after : List ℕ) : Type 0 where
  pub some : 1 ≤ many
  pub is : boxes_left many at bytes ≡ b ∷ boxes_left left next after
  pub inner : AreInner left next after

one_fewer : (n at : ℕ) (bytes : List ℕ) (b : BoxAt) (after : List ℕ) → AreInner (suc n) at bytes → 0 < length bytes → end_of b + length after ≡ at + length bytes → box_at false at bytes ≡ Ok (b, after)
    → IsTaken (suc n) n at (end_of b) bytes b after
one_fewer n at bytes b after inner some whole h =
    let boxes = boxes_left (suc n) at bytes in
    let front : frames_within (suc n) false at bytes ≡ (frames_within n false (end_of b) after >>= λ others. Ok (b ∷ others)) = frames_cons n false at bytes some ∙ rw h refl in
    let x = bind_ok (frames_within n false (end_of b) after) (λ others. Ok (b ∷ others)) boxes (sym front ∙ inner.framed) in
    let is = left_is n (end_of b) after x.0 x.1 in
    let all : b ∷ x.0 ≡ boxes = ok_is (b ∷ x.0) boxes x.2 in
    let len : suc (length x.0) ≡ suc n = ap length all ∙ inner.counted in
    record {
      some = omega arith;
      is = sym all ∙ ap (λ (bs : List BoxAt). b ∷ bs) (sym is);
      inner = record { framed = x.1 ∙ ap fine (sym is); counted = ap length is ∙ omega (arith, len); few = omega (arith, inner.few); place = omega (arith, whole, inner.place) };
    }

pub one_taken : (many at next : ℕ) (bytes : List ℕ) (b : BoxAt) (after : List ℕ) → AreInner many at bytes → 0 < length bytes → end_of b + length after ≡ at + length bytes → next ≡ end_of b
    → box_at false at bytes ≡ Ok (b, after) → IsTaken many (many - 1) at next bytes b after
one_taken zero at next bytes b after inner some whole e h = let full = frames_full false at bytes some in let framed = inner.framed in absurd cc
one_taken (suc n) at next bytes b after inner some whole e h =
    let left : n ≡ suc n - 1 = omega arith in
    subst (λ (m : ℕ). IsTaken (suc n) m at next bytes b after) left (subst (λ (p : ℕ). IsTaken (suc n) n at p bytes b after) (sym e) (one_fewer n at bytes b after inner some whole h))

pub of_kind-length : (kind : FourCc) (boxes : List BoxAt) → length (of_kind kind boxes) ≤ length boxes
of_kind-length kind [] = omega arith
of_kind-length kind (b ∷ bs) = let more = of_kind-length kind bs in elim (cases_Bool (is_kind b.kind kind)) [ inl t ↦ rw t (omega (arith, more)) | inr f ↦ rw f (omega (arith, more)) ]
