-- Tables whose entries are boxes: what is read of them is what stands in them.
use Rattle.std.proofs.Common.{◌≡◌, ℕ, false, List, [], ◌∷◌, ◌++◌, Result, Ok, sym, ap, subst, ◌∙◌, append_assoc}
use Rattle.std.proofs.lemmas.List.{append-nil}
use Rattle.std.specs.List.{AllByRecursion, AllZip}
use Rattle.hf_base.specs.Number.{IsBytes}
use Rattle.hf_base.specs.ReadingLaws.{bind_ok, ok_is}
use Rattle.hf_base.specs.declared.fault.ReadRefusal.{ReadRefusal}
use Rattle.hf_base.specs.EntryLaws.{EachGoes}
use Rattle.hf_box.specs.Boxes.{BoxAt, IsBoxes}
use Rattle.hf_box.specs.Tables.{boxes_from}
use Rattle.hf_box.proofs.BoxLaws.{body_is_bytes}

abbrev pub BoxReader : Type 0 → Type 0
BoxReader A = List A → BoxAt → Result (List A) ReadRefusal

-- entries that stand in boxes are read
pub boxes_again : {A : Type 0} (read : BoxReader A) (Is : BoxAt → A → Type 0) (Goes : List A → A → Type 0)
    → ((earlier : List A) (b : BoxAt) (x : A) → Is b x → Goes earlier x → read earlier b ≡ Ok (earlier ++ x ∷ []))
    → (earlier xs : List A) (bs : List BoxAt) → AllZip Is bs xs → EachGoes Goes earlier xs → boxes_from read earlier bs ≡ Ok (earlier ++ xs)
unfolding boxes_from
boxes_again {A = A} read Is Goes one earlier [] [] each goes = ap (λ (l : List A). Ok l) (sym (append-nil earlier))
boxes_again read Is Goes one earlier [] (b ∷ bs) each goes = absurd each
boxes_again read Is Goes one earlier (x ∷ xs) [] each goes = absurd each
boxes_again {A = A} read Is Goes one earlier (x ∷ xs) (b ∷ bs) each goes =
    let first = one earlier b x each.0 goes.0 in
    rw first (boxes_again read Is Goes one (earlier ++ x ∷ []) xs bs each.1 goes.1 ∙ ap (λ (l : List A). Ok l) (append_assoc earlier (x ∷ []) xs))

-- what is read of boxes stands in them
pub boxes_take : {A : Type 0} (read : BoxReader A) (Is : BoxAt → A → Type 0) (Goes : List A → A → Type 0)
    → ((earlier : List A) (b : BoxAt) (more : List A) → IsBytes b.body → read earlier b ≡ Ok more → (x : A) × (more ≡ earlier ++ x ∷ []) × Is b x × Goes earlier x)
    → (earlier all : List A) (bs : List BoxAt) → AllByRecursion (λ (b : BoxAt). IsBytes b.body) bs → boxes_from read earlier bs ≡ Ok all
    → (xs : List A) × (all ≡ earlier ++ xs) × AllZip Is bs xs × EachGoes Goes earlier xs
unfolding boxes_from
boxes_take read Is Goes one earlier all [] fits e = ([], sym (ok_is earlier all e) ∙ sym (append-nil earlier), tt, tt)
boxes_take {A = A} read Is Goes one earlier all (b ∷ bs) fits e =
    let a = bind_ok (read earlier b) (λ more. boxes_from read more bs) all e in
    let s = one earlier b a.0 fits.0 a.1 in
    let next : boxes_from read (earlier ++ s.0 ∷ []) bs ≡ Ok all = ap (λ (l : List A). boxes_from read l bs) (sym s.1) ∙ a.2 in
    let t = boxes_take read Is Goes one (earlier ++ s.0 ∷ []) all bs fits.1 next in
    (s.0 ∷ t.0, t.1 ∙ append_assoc earlier (s.0 ∷ []) t.0, (s.2, t.2), (s.3, t.3))

-- the bodies of boxes have bytes
pub bodies : (bytes : List ℕ) (origin : ℕ) (before boxes : List BoxAt) → IsBytes bytes → IsBoxes bytes origin false (before ++ boxes) → AllByRecursion (λ (b : BoxAt). IsBytes b.body) boxes
bodies bytes origin before [] fits h = tt
bodies bytes origin before (b ∷ bs) fits h =
    let next = subst (λ (l : List BoxAt). IsBoxes bytes origin false l) (sym (append_assoc before (b ∷ []) bs)) h in
    (body_is_bytes bytes origin false before b bs fits h, bodies bytes origin (before ++ b ∷ []) bs fits next)
