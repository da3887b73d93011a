-- The laws of boxes, from reading them.
use Rattle.std.proofs.Common.{◌≡◌, ℕ, ◌≤◌, ◌+◌, Bool, ◌&&◌, List, ◌++◌, length, get_or, Result, Ok, Err, refl, sym, ap, ◌∙◌, arith, inl, inr, ◌⊎◌}
use Rattle.std.specs.Prelude.{◌↔◌}
use Rattle.std.proofs.lemmas.Bool.{cases_lt}
use Rattle.std.proofs.lemmas.List.{length-map, length-append, get_or_append_left, get_or_past}
use Rattle.std.proofs.lemmas.List.Elements.{All-from_recursion}
use Rattle.std.specs.List.{AllByRecursion}
use Rattle.std.proofs.Common.{All, [], ◌∷◌}
use Rattle.std.specs.Prelude.{IfOk}
use Rattle.hf_box.proofs.Spelled.{length_spelling}
use Rattle.std.specs.Global.{Vec}
use Rattle.hf_base.specs.declared.fault.ReadRefusal.{ReadRefusal}
use Rattle.hf_base.specs.declared.fault.OpenFault.{OpenFault}
use Rattle.hf_base.specs.declared.fault.OpenFault.TheVariants as errors
use Rattle.hf_base.specs.Number.{IsBytes, num}
use Rattle.hf_base.specs.Reading.{Gives, MatchOpen}
use Rattle.hf_base.specs.ReadingLaws.{ok_is}
use Rattle.hf_box.specs.declared.view.BoxView.{BoxView}
use Rattle.hf_base.specs.declared.limits.TheConstants.{BOXES}
use Rattle.hf_box.specs.Boxes.{end_of, BoxAt, box_of, boxes_of, is_nil, IsSpelling, IsBoxes, IsFaultWithin, FrameFault}
use Rattle.hf_box.specs.Framing.{frames, frames_within}
use Rattle.hf_box.proofs.Lists.{frames_spell, boxes_read, IsBytes-rest}
use Rattle.hf_box.proofs.Faults.{frames_fault, fault_read}

pub same_boxes : (bytes : List ℕ) (origin : ℕ) (top : Bool) (some others : List BoxAt) → IsBoxes bytes origin top some → IsBoxes bytes origin top others → some ≡ others
same_boxes bytes origin top some others h k =
    let limit = length some + length others in
    ok_is some others (sym (boxes_read limit top origin bytes some h (omega arith)) ∙ boxes_read limit top origin bytes others k (omega arith))

pub fault_reads : (limit : ℕ) (bytes : List ℕ) (origin : ℕ) (top : Bool) (e : ReadRefusal) → IsFaultWithin limit bytes origin top e → frames_within limit top origin bytes ≡ Err e
fault_reads limit bytes origin top e (boxes, front, rest, whole, are, which) = fault_read boxes limit top origin bytes front rest e whole are which

refused : ReadRefusal → Result (List BoxAt) ReadRefusal
refused e = Err e

pub same_fault : (limit : ℕ) (bytes : List ℕ) (origin : ℕ) (top : Bool) (e f : ReadRefusal) → IsFaultWithin limit bytes origin top e → IsFaultWithin limit bytes origin top f → e ≡ f
same_fault limit bytes origin top e f h k =
    let a = fault_reads limit bytes origin top e h in
    let b = fault_reads limit bytes origin top f k in
    cc

pub not_both : (limit : ℕ) (bytes : List ℕ) (origin : ℕ) (top : Bool) (boxes : List BoxAt) (e : ReadRefusal) → IsBoxes bytes origin top boxes → length boxes ≤ limit → IsFaultWithin limit bytes origin top e → ⊥
not_both limit bytes origin top boxes e h room k =
    let a = boxes_read limit top origin bytes boxes h room in
    let b = fault_reads limit bytes origin top e k in
    cc

abbrev HasBoxes : List ℕ → ℕ → Bool → Type 0
HasBoxes bytes origin top = (boxes : List BoxAt) × IsBoxes bytes origin top boxes × (length boxes ≤ BOXES)

abbrev HasFault : List ℕ → ℕ → Bool → Type 0
HasFault bytes origin top = (e : ReadRefusal) × FrameFault bytes origin top e

pub boxes_or_fault : (bytes : List ℕ) (origin : ℕ) (top : Bool) → IsBytes bytes → HasBoxes bytes origin top ⊎ HasFault bytes origin top
boxes_or_fault bytes origin top fits = by_answer (frames top origin bytes) refl
  where
    by_answer : (r : Result (List BoxAt) ReadRefusal) → frames top origin bytes ≡ r → HasBoxes bytes origin top ⊎ HasFault bytes origin top
    by_answer (Ok boxes) is = let p = frames_spell BOXES top origin bytes boxes fits is in inl (boxes, p.0, p.1)
    by_answer (Err e) is = inr (e, frames_fault BOXES top origin bytes e fits is)

pub no_fault : (bytes : List ℕ) (origin : ℕ) (top : Bool) → IsBytes bytes → ((e : ReadRefusal) → FrameFault bytes origin top e → ⊥) → HasBoxes bytes origin top
no_fault bytes origin top fits none = elim (boxes_or_fault bytes origin top fits) [
  | inl h ↦ h
  | inr f ↦ absurd (none f.0 f.1)
]

pub is_found : (top : Bool) (origin : ℕ) (bytes : List ℕ) (r : Result (Vec BoxView) OpenFault) → IsBytes bytes → Gives (λ v. boxes_of v.items) r (frames top origin bytes)
    → MatchOpen r (λ v. IsBoxes bytes origin top (boxes_of v.items) × (length v.items ≤ BOXES)) (λ fault. FrameFault bytes origin top fault)
is_found top origin bytes (Ok v) fits given =
    let p = frames_spell BOXES top origin bytes (boxes_of v.items) fits given in
    (p.0, omega (arith, p.1, length-map {A = BoxView} {B = BoxAt}))
is_found top origin bytes (Err errors.NoMemory) fits given = tt
is_found top origin bytes (Err (errors.Unfit e)) fits given = frames_fault BOXES top origin bytes e fits given

-- each box ends within the bytes
boxes_within : (bytes : List ℕ) (origin limit : ℕ) (top : Bool) (boxes : List BoxView) → origin + length bytes ≤ limit → IsBoxes bytes origin top (boxes_of boxes) → AllByRecursion (λ b. end_of (box_of b) ≤ limit) boxes
boxes_within bytes origin limit top [] room h = tt
boxes_within bytes origin limit top (b ∷ bs) room (text, rest, whole, place, four, spelled, more) =
    let l = length_spelling (top && is_nil (boxes_of bs)) (box_of b) text spelled four in
    let sum : length bytes ≡ length text + length rest = ap length whole ∙ length-append text rest in
    (omega (arith, l.0, place), boxes_within rest (origin + length text) limit top bs (omega arith) more)

pub all_within : (top : Bool) (origin : ℕ) (bytes : List ℕ) (r : Result (Vec BoxView) OpenFault) → IsBytes bytes → Gives (λ v. boxes_of v.items) r (frames top origin bytes)
    → IfOk r (λ v. All (λ b. end_of (box_of b) ≤ origin + length bytes) v.items)
all_within top origin bytes (Ok v) fits given =
    let p = frames_spell BOXES top origin bytes (boxes_of v.items) fits given in
    All-from_recursion (λ b. end_of (box_of b) ≤ origin + length bytes) v.items (boxes_within bytes origin (origin + length bytes) top v.items (omega arith) p.0)
all_within top origin bytes (Err e) fits given = tt

-- ---- the relation and the plain program are one

pub boxes_iff_frames : (bytes : List ℕ) (origin : ℕ) (top : Bool) (boxes : List BoxAt) → IsBytes bytes
    → (IsBoxes bytes origin top boxes × (length boxes ≤ BOXES)) ↔ (frames top origin bytes ≡ Ok boxes)
boxes_iff_frames bytes origin top boxes fits = ((λ h. boxes_read BOXES top origin bytes boxes h.0 h.1), (λ e. frames_spell BOXES top origin bytes boxes fits e))

pub fault_iff_frames : (bytes : List ℕ) (origin : ℕ) (top : Bool) (fault : ReadRefusal) → IsBytes bytes
    → FrameFault bytes origin top fault ↔ (frames top origin bytes ≡ Err fault)
fault_iff_frames bytes origin top fault fits = ((λ h. fault_reads BOXES bytes origin top fault h), (λ e. frames_fault BOXES top origin bytes fault fits e))

IsBytes-front : (bytes text rest : List ℕ) → bytes ≡ text ++ rest → IsBytes bytes → IsBytes text
IsBytes-front bytes text rest e fits i = elim (cases_lt i (length text)) [
  | inl lt ↦
      let there : get_or bytes i 0 ≡ get_or text i 0 = ap (λ (l : List ℕ). get_or l i 0) e ∙ get_or_append_left text rest 0 i lt in
      omega (arith, fits i)
  | inr le ↦ let past = get_or_past text i 0 le in omega arith
]

body_of_text : (last : Bool) (b : BoxAt) (text : List ℕ) → IsSpelling last b text → IsBytes text → IsBytes b.body
body_of_text last b text (inl p) fits = IsBytes-rest text (num (8 + length b.body) 4 ++ b.kind.0) b.body p.2 fits
body_of_text last b text (inr (inl p)) fits = IsBytes-rest text ((num 1 4 ++ b.kind.0) ++ num (16 + length b.body) 8) b.body p.2 fits
body_of_text last b text (inr (inr p)) fits = IsBytes-rest text (num 0 4 ++ b.kind.0) b.body p.2 fits

-- the body of a box of bytes is bytes
pub body_is_bytes : (bytes : List ℕ) (origin : ℕ) (top : Bool) (before : List BoxAt) (b : BoxAt) (after : List BoxAt) → IsBytes bytes → IsBoxes bytes origin top (before ++ b ∷ after) → IsBytes b.body
body_is_bytes bytes origin top [] b after fits (text, rest, whole, place, four, spelled, more) =
    body_of_text (top && is_nil after) b text spelled (IsBytes-front bytes text rest whole fits)
body_is_bytes bytes origin top (first ∷ before) b after fits (text, rest, whole, place, four, spelled, more) =
    body_is_bytes rest (origin + length text) top before b after (IsBytes-rest bytes text rest whole fits) more
