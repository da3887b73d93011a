-- What a table gives is what stands in it, entry by entry; and what stands in it is read.
use Rattle.std.proofs.Common.{◌≡◌, ℕ, zero, suc, Bool, true, false, List, [], ◌∷◌, ◌++◌, length, eqb, cond, Result, Ok, Err, refl, sym, ap, subst, ◌∙◌, append_assoc, arith, inl, inr}
use Rattle.std.proofs.lemmas.List.{append-nil}
use Rattle.std.proofs.lemmas.Bool.{eqb-true, eq-eqb}
use Rattle.hf_base.specs.declared.fault.ReadRefusal.{ReadRefusal}
use Rattle.hf_base.specs.Number.{IsBytes, num}
use Rattle.hf_base.specs.Reading.{◌>>=◌, front, times}
use Rattle.hf_base.specs.ReadingLaws.{bind_ok, ok_is, chosen, Takes, Takes-then, front_takes, front_again}
use Rattle.hf_base.specs.TimesLaws.{Reader}
use Rattle.hf_base.specs.Entries.{AreTexts, IsNum, refuse_if, IsIdWidth, id_width_at, entries_from}

-- an entry goes behind these earlier ones: its id is new, and it is not one too many
abbrev pub EachGoes : {A : Type 0} → (List A → A → Type 0) → List A → List A → Type 0
EachGoes Goes earlier [] = Unit {0}
EachGoes Goes earlier (x ∷ xs) = Goes earlier x × EachGoes Goes (earlier ++ x ∷ []) xs

-- the text of a value was taken from the front
abbrev pub TakesText : {A : Type 0} → (List ℕ → A → Type 0) → List ℕ → A × List ℕ → Type 0
TakesText IsText bytes x = (text : List ℕ) × Takes bytes text x.1 × IsText text x.0

abbrev pub EntryReader : Type 0 → Type 0
EntryReader A = List A → List ℕ → Result (A × List ℕ) ReadRefusal

-- entries that stand there are read
pub entries_again : {A : Type 0} (read : EntryReader A) (IsText : List ℕ → A → Type 0) (Goes : List A → A → Type 0)
    → ((earlier : List A) (text rest : List ℕ) (x : A) → IsText text x → Goes earlier x → read earlier (text ++ rest) ≡ Ok (x, rest))
    → (earlier xs : List A) (entries rest : List ℕ) → AreTexts IsText entries xs → EachGoes Goes earlier xs
    → entries_from read earlier (length xs) (entries ++ rest) ≡ Ok (earlier ++ xs, rest)
unfolding entries_from
entries_again {A = A} read IsText Goes one earlier [] entries rest texts goes =
    rw texts (ap (λ (l : List A). Ok (l, rest)) (sym (append-nil earlier)))
entries_again {A = A} read IsText Goes one earlier (x ∷ xs) entries rest (text, others, parts, is, more) goes =
    let moved : entries ++ rest ≡ text ++ (others ++ rest) = ap (λ (l : List ℕ). l ++ rest) parts ∙ append_assoc text others rest in
    let first = one earlier text (others ++ rest) x is goes.0 in
    let tail = entries_again read IsText Goes one (earlier ++ x ∷ []) xs others rest more goes.1 in
    ap (entries_from read earlier (suc (length xs))) moved ∙ rw first (tail ∙ ap (λ (l : List A). Ok (l, rest)) (append_assoc earlier (x ∷ []) xs))

-- what a table was read as: so many entries more, and these texts
pub record AreTaken {A : Type 0} (IsText : List ℕ → A → Type 0) (Goes : List A → A → Type 0) (earlier : List A) (n : ℕ) (bytes : List ℕ) (all : List A × List ℕ) : Type 0 where
  pub xs : List A
  pub is : all.0 ≡ earlier ++ xs
  pub count : length xs ≡ n
  pub entries : List ℕ
  pub takes : Takes bytes entries all.1
  pub texts : AreTexts IsText entries xs
  pub goes : EachGoes Goes earlier xs

-- what is read stands there
pub entries_take : {A : Type 0} (read : EntryReader A) (IsText : List ℕ → A → Type 0) (Goes : List A → A → Type 0)
    → ((earlier : List A) (bytes : List ℕ) (x : A × List ℕ) → IsBytes bytes → read earlier bytes ≡ Ok x → TakesText IsText bytes x × Goes earlier x.0)
    → (earlier : List A) (n : ℕ) (bytes : List ℕ) (all : List A × List ℕ) → IsBytes bytes → entries_from read earlier n bytes ≡ Ok all
    → AreTaken IsText Goes earlier n bytes all
unfolding entries_from
entries_take {A = A} read IsText Goes one earlier zero bytes all fits e =
    let made : AreTaken IsText Goes earlier 0 bytes (earlier, bytes) = record {
      xs = [];
      is = sym (append-nil earlier);
      count = refl;
      entries = [];
      takes = record { parts = refl; fits = fits };
      texts = refl;
      goes = tt;
    } in
    subst (λ (y : List A × List ℕ). AreTaken IsText Goes earlier 0 bytes y) (ok_is (earlier, bytes) all e) made
entries_take {A = A} read IsText Goes one earlier (suc n) bytes all fits e =
    let a = bind_ok (read earlier bytes) (λ entry. entries_from read (earlier ++ entry.0 ∷ []) n entry.1) all e in
    let s = one earlier bytes a.0 fits a.1 in
    let t = entries_take read IsText Goes one (earlier ++ a.0.0 ∷ []) n a.0.1 all s.0.1.fits a.2 in
    record {
      xs = a.0.0 ∷ t.xs;
      is = t.is ∙ append_assoc earlier (a.0.0 ∷ []) t.xs;
      count = ap suc t.count;
      entries = s.0.0 ++ t.entries;
      takes = Takes-then bytes s.0.0 a.0.1 t.entries all.1 s.0.1 t.takes;
      texts = (s.0.0, t.entries, refl, s.0.2, t.texts);
      goes = (s.1, t.goes);
    }

-- one more was read, as a loop does
pub entry_more : {A : Type 0} (read : EntryReader A) (earlier : List A) (n : ℕ) (bytes : List ℕ) (a : A) (after : List ℕ)
    → read earlier bytes ≡ Ok (a, after) → entries_from read earlier (suc n) bytes ≡ entries_from read (earlier ++ a ∷ []) n after
unfolding entries_from
entry_more read earlier n bytes a after h = rw h refl

pub entry_stops : {A : Type 0} (read : EntryReader A) (earlier : List A) (n : ℕ) (bytes : List ℕ) (e : ReadRefusal)
    → read earlier bytes ≡ Err e → entries_from read earlier (suc n) bytes ≡ Err e
unfolding entries_from
entry_stops read earlier n bytes e h = rw h refl

-- ---- entries of one kind, widths and tests

pub texts_again : {A : Type 0} (read : Reader A) (IsText : List ℕ → A → Type 0)
    → ((text rest : List ℕ) (a : A) → IsText text a → read (text ++ rest) ≡ Ok (a, rest))
    → (xs : List A) (text rest : List ℕ) → AreTexts IsText text xs → times read (length xs) (text ++ rest) ≡ Ok (xs, rest)
unfolding times
texts_again read IsText one [] text rest e = rw e refl
texts_again read IsText one (x ∷ xs) text rest (first, behind, parts, is, more) =
    let regrouped : text ++ rest ≡ first ++ (behind ++ rest) = ap (λ (l : List ℕ). l ++ rest) parts ∙ append_assoc first behind rest in
    let one_read = one first (behind ++ rest) x is in
    let more_read = texts_again read IsText one xs behind rest more in
    ap (times read (suc (length xs))) regrouped ∙ rw (one_read, more_read) refl

pub num_again : (width : ℕ) (short : ReadRefusal) (text rest : List ℕ) (n : ℕ) → IsNum width text n → front width short (text ++ rest) ≡ Ok (n, rest)
num_again width short text rest n (fits, is) = rw is (front_again width n short rest fits)

pub width_again : (first : ℕ) (bad : ReadRefusal) (version width : ℕ) → IsIdWidth first version width → id_width_at first bad version ≡ Ok width
width_again first bad version width (inl (v, w)) = rw (v, eq-eqb first first refl, w) refl
width_again first bad version width (inr (v, w)) =
    let other : eqb (suc first) first ≡ false = grind arith in
    rw (v, other, eq-eqb (suc first) (suc first) refl, w) refl

pub width_take : (first : ℕ) (bad : ReadRefusal) (version width : ℕ) → id_width_at first bad version ≡ Ok width → IsIdWidth first version width
width_take first bad version width e =
    elim (chosen (eqb version first) (Ok 2) (cond (eqb version (suc first)) (Ok 4) (Err bad)) (Ok width) e) [
      | inl h ↦ inl (eqb-true version first h.0, sym (ok_is 2 width h.1))
      | inr h ↦
          elim (chosen (eqb version (suc first)) (Ok 4) (Err bad) (Ok width) h.1) [
            | inl k ↦ inr (eqb-true version (suc first) k.0, sym (ok_is 4 width k.1))
            | inr k ↦ absurd (let no = k.1 in cc)
          ]
    ]

abbrev pub TakesTexts : {A : Type 0} → (List ℕ → A → Type 0) → ℕ → List ℕ → List A × List ℕ → Type 0
TakesTexts IsText n bytes x = (text : List ℕ) × Takes bytes text x.1 × AreTexts IsText text x.0 × (length x.0 ≡ n)

pub texts_take : {A : Type 0} (read : Reader A) (IsText : List ℕ → A → Type 0)
    → ((bytes : List ℕ) (x : A × List ℕ) → IsBytes bytes → read bytes ≡ Ok x → TakesText IsText bytes x)
    → (n : ℕ) (bytes : List ℕ) (x : List A × List ℕ) → IsBytes bytes → times read n bytes ≡ Ok x → TakesTexts IsText n bytes x
unfolding times
texts_take {A = A} read IsText one zero bytes x fits e =
    subst (λ (y : List A × List ℕ). TakesTexts IsText zero bytes y) (ok_is ([], bytes) x e) ([], record { parts = refl; fits = fits }, refl, refl)
texts_take {A = A} read IsText one (suc n) bytes x fits e =
    let a = bind_ok (read bytes) (λ first. times read n first.1 >>= λ others. Ok (first.0 ∷ others.0, others.1)) x e in
    let b = bind_ok (times read n a.0.1) (λ others. Ok (a.0.0 ∷ others.0, others.1)) x a.2 in
    let s = one bytes a.0 fits a.1 in
    let t = texts_take read IsText one n a.0.1 b.0 s.1.fits b.1 in
    let both = Takes-then bytes s.0 a.0.1 t.0 b.0.1 s.1 t.1 in
    let made : List A × List ℕ = (a.0.0 ∷ b.0.0, b.0.1) in
    subst (λ (y : List A × List ℕ). TakesTexts IsText (suc n) bytes y) (ok_is made x b.2) (s.0 ++ t.0, both, (s.0, t.0, refl, s.2, t.2), ap suc t.3)

pub num_take : (width : ℕ) (short : ReadRefusal) (bytes : List ℕ) (x : ℕ × List ℕ) → IsBytes bytes → front width short bytes ≡ Ok x → TakesText (IsNum width) bytes x
num_take width short bytes x fits e =
    let s = front_takes width short bytes x fits e in
    (num x.0 width, s.0, (s.1, refl))

pub refused_not : (b : Bool) (e : ReadRefusal) (x : Unit {0}) → refuse_if b e ≡ Ok x → b ≡ false
refused_not true e x h = absurd cc
refused_not false e x h = refl
