-- Lists of boxes: what is read is them, and they are read.
use Rattle.std.proofs.Common.{◌≡◌, ℕ, zero, suc, ◌+◌, ◌≤◌, ◌<◌, Bool, true, false, ◌&&◌, List, [], ◌∷◌, ◌++◌, length, get_or, Result, Ok, Err, refl, sym, ap, subst, ◌∙◌, arith, inl, inr}
use Rattle.std.proofs.lemmas.Bool.{and_parts}
use Rattle.std.proofs.lemmas.List.{length-append, get_or-append-add}
use Rattle.hf_base.specs.declared.fault.ReadRefusal.{ReadRefusal}
use Rattle.hf_base.specs.declared.fault.ReadRefusal.TheVariants.{TooManyBoxes}
use Rattle.hf_base.specs.Number.{IsBytes}
use Rattle.hf_base.specs.Reading.{◌>>=◌}
use Rattle.hf_base.specs.ReadingLaws.{bind_ok, ok_is}
use Rattle.hf_box.specs.Boxes.{end_of, BoxAt, is_nil, IsSpelling, IsBoxes}
use Rattle.hf_box.specs.Framing.{box_at, frames_within}
use Rattle.hf_box.proofs.Spelled.{Takes, box_takes, spelled_reads, length_spelling, anywhere}

abbrev fine : {A : Type 0} → A → Result A ReadRefusal
fine x = Ok x

pub frames_nil : (limit : ℕ) (top : Bool) (at : ℕ) (bytes : List ℕ) → bytes ≡ [] → frames_within limit top at bytes ≡ Ok []
unfolding frames_within
frames_nil limit top at bytes e = rw e refl

pub frames_cons : (n : ℕ) (top : Bool) (at : ℕ) (bytes : List ℕ) → 0 < length bytes
    → frames_within (suc n) top at bytes ≡ (box_at top at bytes >>= λ first. frames_within n top (end_of first.0) first.1 >>= λ others. Ok (first.0 ∷ others))
unfolding frames_within
frames_cons n top at [] some = absurd (omega arith)
frames_cons n top at (x ∷ xs) some = refl

pub frames_full : (top : Bool) (at : ℕ) (bytes : List ℕ) → 0 < length bytes → frames_within 0 top at bytes ≡ Err (TooManyBoxes at)
unfolding frames_within
frames_full top at [] some = absurd (omega arith)
frames_full top at (x ∷ xs) some = refl

pub IsBytes-rest : (bytes text rest : List ℕ) → bytes ≡ text ++ rest → IsBytes bytes → IsBytes rest
IsBytes-rest bytes text rest e fits i =
    let there : get_or bytes (length text + i) 0 ≡ get_or rest i 0 = ap (λ (l : List ℕ). get_or l (length text + i) 0) e ∙ get_or-append-add text rest i 0 in
    omega (arith, fits (length text + i))

nil_is : (xs : List BoxAt) → fine [] ≡ fine xs → is_nil xs ≡ true
nil_is [] e = refl
nil_is (x ∷ xs) e = absurd cc

-- a box and the boxes behind it
box_first : (top : Bool) (at : ℕ) (bytes : List ℕ) (x : BoxAt × List ℕ) (others : List BoxAt) → Takes top at bytes x → (x.1 ≡ [] → is_nil others ≡ true)
    → IsBoxes x.1 (end_of x.0) top others → IsBoxes bytes at top (x.0 ∷ others)
box_first top at bytes x others t last more =
    let spelled : IsSpelling (top && is_nil others) x.0 t.text = elim t.spelled [
      | inl p ↦ anywhere (top && is_nil others) x.0 t.text p
      | inr p ↦ at_end top (is_nil others) x.0 t.text (last p.0) p.1
    ] in
    let ends : end_of x.0 ≡ at + length t.text = t.ends in
    (t.text, x.1, t.whole, t.place, t.four, spelled, subst (λ (p : ℕ). IsBoxes x.1 p top others) ends more)
  where
    at_end : (top last : Bool) (b : BoxAt) (text : List ℕ) → last ≡ true → IsSpelling top b text → IsSpelling (top && last) b text
    at_end true last b text e h = subst (λ (o : Bool). IsSpelling o b text) (sym e) h
    at_end false last b text e h = h

last_if_none : (n : ℕ) (top : Bool) (at : ℕ) (rest : List ℕ) (others : List BoxAt) → frames_within n top at rest ≡ Ok others → rest ≡ [] → is_nil others ≡ true
last_if_none n top at rest others e none = nil_is others (sym (frames_nil n top at rest none) ∙ e)

more_boxes : (n : ℕ) (top : Bool) (at : ℕ) (bytes : List ℕ) (x : BoxAt × List ℕ) (others boxes : List BoxAt) → fine (x.0 ∷ others) ≡ fine boxes → Takes top at bytes x → (x.1 ≡ [] → is_nil others ≡ true)
    → IsBoxes x.1 (end_of x.0) top others → length others ≤ n → IsBoxes bytes at top boxes × (length boxes ≤ suc n)
more_boxes n top at bytes x others boxes e t last more room =
    subst (λ (bs : List BoxAt). IsBoxes bytes at top bs × (length bs ≤ suc n)) (ok_is (x.0 ∷ others) boxes e) (box_first top at bytes x others t last more, omega arith)

pub frames_spell : (limit : ℕ) (top : Bool) (at : ℕ) (bytes : List ℕ) (boxes : List BoxAt) → IsBytes bytes → frames_within limit top at bytes ≡ Ok boxes → IsBoxes bytes at top boxes × (length boxes ≤ limit)
frames_spell limit top at [] boxes fits e =
    let none : [] ≡ boxes = ok_is [] boxes (sym (frames_nil limit top at [] refl) ∙ e) in
    subst (λ (bs : List BoxAt). IsBoxes [] at top bs × (length bs ≤ limit)) none (refl, omega arith)
frames_spell zero top at (x ∷ xs) boxes fits e = let full = frames_full top at (x ∷ xs) (omega arith) in absurd cc
frames_spell (suc n) top at (x ∷ xs) boxes fits e =
    let bytes : List ℕ = x ∷ xs in
    let a = bind_ok (box_at top at bytes) (λ first. frames_within n top (end_of first.0) first.1 >>= λ others. Ok (first.0 ∷ others)) boxes (sym (frames_cons n top at bytes (omega arith)) ∙ e) in
    let b = bind_ok (frames_within n top (end_of a.0.0) a.0.1) (λ others. Ok (a.0.0 ∷ others)) boxes a.2 in
    let t = box_takes top at bytes a.0 fits a.1 in
    let more = frames_spell n top (end_of a.0.0) a.0.1 b.0 (IsBytes-rest bytes t.text a.0.1 t.whole fits) b.1 in
    more_boxes n top at bytes a.0 b.0 boxes b.2 t (last_if_none n top (end_of a.0.0) a.0.1 b.0 b.1) more.0 more.1

-- behind a box that reaches the end nothing comes
ends_all : (top : Bool) (others : List BoxAt) (rest : List ℕ) (place : ℕ) → (top && is_nil others) ≡ true → IsBoxes rest place top others → (top ≡ true) × (rest ≡ [])
ends_all top [] rest place e h = ((and_parts top true e).0, h)
ends_all top (b ∷ bs) rest place e h = let p = and_parts top false e in absurd cc

pub first_reads : (top : Bool) (at : ℕ) (bytes : List ℕ) (b : BoxAt) (text rest : List ℕ) (last : Bool) → bytes ≡ text ++ rest → b.at ≡ at → length b.kind.0 ≡ 4 → IsSpelling last b text
    → (last ≡ true → (top ≡ true) × (rest ≡ [])) → (box_at top at bytes ≡ Ok (b, rest)) × (0 < length bytes) × (end_of b ≡ at + length text)
first_reads top at bytes b text rest last whole place four spelled end =
    let l = length_spelling last b text spelled four in (
      ap (box_at top at) whole ∙ ap (λ (p : ℕ). box_at top p (text ++ rest)) (sym place) ∙ spelled_reads top last b text rest spelled four end,
      omega (arith, l.1, ap length whole, length-append text rest),
      omega (arith, l.0, place),
    )

pub boxes_read : (limit : ℕ) (top : Bool) (at : ℕ) (bytes : List ℕ) (boxes : List BoxAt) → IsBoxes bytes at top boxes → length boxes ≤ limit → frames_within limit top at bytes ≡ Ok boxes
boxes_read limit top at bytes [] h room = frames_nil limit top at bytes h
boxes_read zero top at bytes (b ∷ bs) h room = absurd (omega arith)
boxes_read (suc n) top at bytes (b ∷ bs) (text, rest, whole, place, four, spelled, more) room =
    let f = first_reads top at bytes b text rest (top && is_nil bs) whole place four spelled (λ e. ends_all top bs rest (at + length text) e more) in
    let others : frames_within n top (end_of b) rest ≡ Ok bs = ap (λ (p : ℕ). frames_within n top p rest) f.2 ∙ boxes_read n top (at + length text) rest bs more (omega arith) in
    frames_cons n top at bytes f.1 ∙ rw (f.0, others) refl
