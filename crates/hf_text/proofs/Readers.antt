-- Readers of words: what they read is written so, and they stop at one place.
use Rattle.std.proofs.Common.{◌≡◌, ◌≤◌, ◌<◌, ◌+◌, ℕ, suc, Bool, true, false, List, [], ◌∷◌, ◌++◌, length, drop, refl, sym, ap, subst, ◌∙◌, arith, inl, inr, append_assoc, length-append}
use Rattle.std.specs.Prelude.{Option, Some, None, Result, Ok, Err, nat_lt, if◌then◌else◌}
use Rattle.std.specs.Option.{ok_or}
use Rattle.std.specs.List.{AllByRecursion}
use Rattle.std.specs.Str.{bytes_eq}
use Rattle.std.proofs.lemmas.Bool.{cases_lt, ltb-false, lt-ltb}
use Rattle.std.proofs.lemmas.List.{append-nil}
use Rattle.std.proofs.lemmas.Slice.Eq.{bytes_eq-Decides}
use Rattle.hf_text.specs.Words.{Form, ◌and_then◌, end_in, form_read, operand, words_read}
use Rattle.hf_text.proofs.Fronts.{Fronts, Fronts-none, Fronts-left, Fronts-wider, Fronts-flip, Fronts-fewer, Fronts-first, StopsAt}
use Rattle.hf_text.proofs.Operands.{IsOperand, operand-some, operand-none, operand-same}

-- the first k words are those of some value
pub record Starts {A : Type 0} (Fits : A → Type 0) (words_of : A → List (List ℕ)) (words : List (List ℕ)) (k : ℕ) : Type 0 where
  pub value : A
  pub fits : Fits value
  pub fronts : Fronts k words (words_of value)

-- reading stops at word k, and nothing is read of words that go on as these do up to that one
pub record Stops {A : Type 0} (Fits : A → Type 0) (words_of : A → List (List ℕ)) (read : List (List ℕ) → Result A ℕ) (low : ℕ) (words : List (List ℕ))
    (at p : ℕ) : Type 0 where
  pub k : ℕ
  pub past : low ≤ k
  pub place : p ≡ at + k
  pub starts : Starts Fits words_of words k
  pub refused : (others : List (List ℕ)) (x : A) → Fronts (suc k) words others → read others ≡ Ok x → ⊥

-- of words that begin so, it reads values that they are, or stops behind these
pub record IsReader {A : Type 0} (Fits : A → Type 0) (words_of : A → List (List ℕ)) (Is : List (List ℕ) → A → Type 0) (front : List (List ℕ))
    (read : ℕ → List (List ℕ) → Result A ℕ) : Type 0 where
  pub some : Starts Fits words_of front (length front)
  pub reads : (at : ℕ) (words rest : List (List ℕ)) (x : A) → words ≡ front ++ rest → read at words ≡ Ok x → Is words x
  pub stops : (at p : ℕ) (words rest : List (List ℕ)) → words ≡ front ++ rest → read at words ≡ Err p → Stops Fits words_of (read at) (length front) words at p

module _ {A : Type 0} {Fits : A → Type 0} {words_of : A → List (List ℕ)} where
  -- words that begin so begin as some value
  pub starts_wider : (front words rest : List (List ℕ)) → words ≡ front ++ rest → Starts Fits words_of front (length front)
      → Starts Fits words_of words (length front)
  starts_wider front words rest is s = record {
    value = s.value;
    fits = s.fits;
    fronts = subst (λ (l : List (List ℕ)). Fronts (length front) l (words_of s.value)) (sym is) (Fronts-flip (Fronts-wider rest (Fronts-flip s.fronts)));
  }

  starts_fewer : (front more : List (List ℕ)) → Starts Fits words_of (front ++ more) (length (front ++ more)) → Starts Fits words_of front (length front)
  starts_fewer front more s = record {
    value = s.value;
    fits = s.fits;
    fronts = Fronts-flip (Fronts-left front more (omega arith) (Fronts-flip (Fronts-fewer (length front) (omega (arith, length-append front more)) s.fronts)));
  }

  pub starts_own : (front : List (List ℕ)) (x : A) → Fits x → words_of x ≡ front → Starts Fits words_of front (length front)
  starts_own front x fits is = record {
    value = x;
    fits = fits;
    fronts = subst (λ (l : List (List ℕ)). Fronts (length front) front l) (sym is) (record { same = refl; within = omega arith; short = omega arith });
  }

  pub starts_none : (words : List (List ℕ)) (x : A) → Fits x → Starts Fits words_of words 0
  starts_none words x fits = record { value = x; fits = fits; fronts = Fronts-none _ _ }

  -- no value begins with more words than reading goes past
  pub stop_at : (read : List (List ℕ) → Result A ℕ) (words : List (List ℕ)) (at p : ℕ) → ((x : A) → Fits x → read (words_of x) ≡ Ok x)
      → Stops Fits words_of read 0 words at p → StopsAt (Starts Fits words_of words) at p
  stop_at read words at p back s = record {
    k = s.k;
    place = s.place;
    begins = s.starts;
    most = λ j b. elim (cases_lt s.k j) [
      | inr small ↦ small
      | inl past ↦ absurd (s.refused (words_of b.value) b.value (Fronts-fewer (suc s.k) (omega arith) b.fronts) (back b.value b.fits))
    ];
  }

-- ---- one word more

word_read : {B : Type 0} (o : Option B) (place : ℕ) (y : B) → ok_or o place ≡ Ok y → o ≡ Some y
word_read None place y e = absurd (cc)
word_read (Some x) place y e = cc

word_refused : {B : Type 0} (o : Option B) (place p : ℕ) → ok_or o place ≡ Err p → p ≡ place
word_refused None place p e = cc
word_refused (Some x) place p e = absurd (cc)

module _ {B : Type 0} {o : List ℕ → Option B} {FitsB : B → Type 0} {word : B → List ℕ} (op : IsOperand o FitsB word) (front : List (List ℕ)) where
  word_here : (at : ℕ) (words rest : List (List ℕ)) (y : B) → words ≡ front ++ rest → operand o at words (length front) ≡ Ok y
      → FitsB y × (words ≡ (front ++ word y ∷ []) ++ drop 1 rest)
  word_here at words [] y is e =
      let none = operand-none o at (length front) words (omega (arith, ap length is, length-append front [])) in
      absurd (cc)
  word_here at words (w ∷ ws) y is e =
      let first = sym (operand-some o at front w ws) ∙ sym (ap (λ l. operand o at l (length front)) is) ∙ e in
      let own = op.reads w y (word_read (o w) (at + length front) y first) in
      (own.0, is ∙ ap (λ (v : List ℕ). front ++ v ∷ ws) own.1 ∙ sym (append_assoc front (word y ∷ []) ws))

  word_stops : (at p : ℕ) (words rest : List (List ℕ)) → words ≡ front ++ rest → operand o at words (length front) ≡ Err p → p ≡ at + length front
  word_stops at p words [] is e =
      let none = operand-none o at (length front) words (omega (arith, ap length is, length-append front [])) in
      cc
  word_stops at p words (w ∷ ws) is e = word_refused (o w) (at + length front) p
      (sym (operand-some o at front w ws) ∙ sym (ap (λ l. operand o at l (length front)) is) ∙ e)

module _ {A B : Type 0} {Fits : A → Type 0} {words_of : A → List (List ℕ)} {Is : List (List ℕ) → A → Type 0}
    {o : List ℕ → Option B} {FitsB : B → Type 0} {word : B → List ℕ} (op : IsOperand o FitsB word)
    (front : List (List ℕ)) {next : B → ℕ → List (List ℕ) → Result A ℕ}
    (nexts : (y : B) → FitsB y → IsReader Fits words_of Is (front ++ word y ∷ []) (next y)) where
  chain : ℕ → List (List ℕ) → Result A ℕ
  chain at words = operand o at words (length front) and_then λ y. next y at words

  chain_read : (at : ℕ) (words rest : List (List ℕ)) (x : A) → words ≡ front ++ rest → (r : Result B ℕ) → operand o at words (length front) ≡ r
      → (r and_then λ y. next y at words) ≡ Ok x → Is words x
  chain_read at words rest x is (Err q) here e = absurd (cc)
  chain_read at words rest x is (Ok y) here e =
      let own = word_here op front at words rest y is here in
      (nexts y own.0).reads at words (drop 1 rest) x own.1 e

  chain_same : (at k : ℕ) (words others : List (List ℕ)) (r : Result B ℕ) → operand o at words (length front) ≡ r → length front ≤ k
      → Fronts (suc k) words others → chain at others ≡ (r and_then λ y. next y at others)
  unfolding chain
  chain_same at k words others r here past f = ap (λ (r : Result B ℕ). r and_then λ y. next y at others)
      (operand-same o at (length front) (suc k) words others f.same (omega arith) ∙ here)

  chain_stop : (at p : ℕ) (words rest : List (List ℕ)) → Starts Fits words_of front (length front) → words ≡ front ++ rest → (r : Result B ℕ)
      → operand o at words (length front) ≡ r
      → (r and_then λ y. next y at words) ≡ Err p → Stops Fits words_of (chain at) (length front) words at p
  chain_stop at p words rest some is (Err q) here e = record {
    k = length front;
    past = omega arith;
    place = let same : q ≡ p = cc in omega (arith, same, word_stops op front at q words rest is here);
    starts = starts_wider front words rest is some;
    refused = λ others x f read. let none = chain_same at (length front) words others (Err q) here (omega arith) f in absurd (cc);
  }
  chain_stop at p words rest some is (Ok y) here e =
      let own = word_here op front at words rest y is here in
      let s = (nexts y own.0).stops at p words (drop 1 rest) own.1 e in
      let low : length front ≤ s.k = omega (arith, s.past, length-append front (word y ∷ [])) in
      record {
        k = s.k;
        past = low;
        place = s.place;
        starts = s.starts;
        refused = λ others x f read. s.refused others x f (sym (chain_same at s.k words others (Ok y) here low f) ∙ read);
      }

  one_chain : IsReader Fits words_of Is front chain
  unfolding chain
  one_chain =
      let some = starts_fewer front (word op.some ∷ []) (nexts op.some op.suits).some in
      record {
        some = some;
        reads = λ at words rest x is e. chain_read at words rest x is (operand o at words (length front)) refl e;
        stops = λ at p words rest is e. chain_stop at p words rest some is (operand o at words (length front)) refl e;
      }

  pub one_more : (i : ℕ) → length front ≡ i → IsReader Fits words_of Is front (λ at words. operand o at words i and_then λ y. next y at words)
  unfolding chain
  one_more i here = subst (λ (i : ℕ). IsReader Fits words_of Is front (λ at words. operand o at words i and_then λ y. next y at words)) here one_chain

-- ---- no word more

module _ {A : Type 0} (Fits : A → Type 0) (words_of : A → List (List ℕ)) (Is : List (List ℕ) → A → Type 0) (x : A) (front : List (List ℕ)) (fits : Fits x)
    (own : words_of x ≡ front) where
  same_value : (words : List (List ℕ)) (y : A) → Is words x → ◌≡◌ {A = Result A ℕ} (Ok x) (Ok y) → Is words y
  same_value words y is e = let same : x ≡ y = cc in subst (Is words) same is

  pub gives : ((words rest : List (List ℕ)) → words ≡ front ++ rest → Is words x) → IsReader Fits words_of Is front (λ at words. Ok x)
  gives is = record {
    some = starts_own front x fits own;
    reads = λ at words rest y here e. same_value words y (is words rest here) e;
    stops = λ at p words rest here e. absurd (cc);
  }

  module _ (is : Is front x) where
    all_here : (words rest : List (List ℕ)) → words ≡ front ++ rest → length words ≤ length front → Is words x
    all_here words [] here short = subst (λ (l : List (List ℕ)). Is l x) (sym (here ∙ append-nil front)) is
    all_here words (w ∷ ws) here short = absurd (omega (arith, ap length here, length-append front (w ∷ ws)))

    end_read : (at : ℕ) (words rest : List (List ℕ)) (y : A) (b : Bool) → words ≡ front ++ rest → nat_lt (length front) (length words) ≡ b
        → ((if b then Err (at + length front) else Ok tt) and_then λ (end : Unit {0}). Ok x) ≡ Ok y → Is words y
    end_read at words rest y true here long e = absurd (cc)
    end_read at words rest y false here long e = same_value words y (all_here words rest here (ltb-false _ _ long)) e

    end_longer : (at : ℕ) (words : List (List ℕ)) → length front < length words → end_in at words (length front) ≡ Err (at + length front)
    unfolding end_in
    end_longer at words long = ap (λ (b : Bool). if b then Err (at + length front) else Ok tt) (lt-ltb _ _ long)

    end_refused : (at : ℕ) (words : List (List ℕ)) (y : A) → length front < length words
        → (end_in at words (length front) and_then λ (end : Unit {0}). Ok x) ≡ Ok y → ⊥
    end_refused at words y long e = let none = end_longer at words long in absurd (cc)

    end_stop : (at p : ℕ) (words rest : List (List ℕ)) (b : Bool) → words ≡ front ++ rest → nat_lt (length front) (length words) ≡ b
        → ((if b then Err (at + length front) else Ok tt) and_then λ (end : Unit {0}). Ok x) ≡ Err p
        → Stops Fits words_of (λ (l : List (List ℕ)). end_in at l (length front) and_then λ (end : Unit {0}). Ok x) (length front) words at p
    end_stop at p words rest false here long e = absurd (cc)
    end_stop at p words rest true here long e = record {
      k = length front;
      past = omega arith;
      place = let same : at + length front ≡ p = cc in omega (arith, same);
      starts = starts_wider front words rest here (starts_own front x fits own);
      refused = λ others y f read. end_refused at others y (omega (arith, f.short)) read;
    }

    pub ends : (i : ℕ) → length front ≡ i → IsReader Fits words_of Is front (λ at words. end_in at words i and_then λ (end : Unit {0}). Ok x)
    unfolding end_in
    ends i same =
        subst (λ (i : ℕ). IsReader Fits words_of Is front (λ at words. end_in at words i and_then λ (end : Unit {0}). Ok x)) same (record {
          some = starts_own front x fits own;
          reads = λ at words rest y here e. end_read at words rest y (nat_lt (length front) (length words)) here refl e;
          stops = λ at p words rest here e. end_stop at p words rest (nat_lt (length front) (length words)) here refl e;
        })

    -- or more words are read
    module _ (more : ℕ → List (List ℕ) → Result A ℕ) (reader : IsReader Fits words_of Is front more) where
      choice : ℕ → List (List ℕ) → Result A ℕ
      choice at words = if nat_lt (length front) (length words) then more at words else Ok x

      choice_read : (at : ℕ) (words rest : List (List ℕ)) (y : A) (b : Bool) → words ≡ front ++ rest → nat_lt (length front) (length words) ≡ b
          → (if b then more at words else Ok x) ≡ Ok y → Is words y
      choice_read at words rest y true here long e = reader.reads at words rest y here e
      choice_read at words rest y false here long e = same_value words y (all_here words rest here (ltb-false _ _ long)) e

      choice_more : (at : ℕ) (words : List (List ℕ)) (y : A) → length front < length words → choice at words ≡ Ok y → more at words ≡ Ok y
      unfolding choice
      choice_more at words y long e = let is : nat_lt (length front) (length words) ≡ true = lt-ltb _ _ long in sym
          (ap (λ (b : Bool). if b then more at words else Ok x) is) ∙ e

      choice_stop : (at p : ℕ) (words rest : List (List ℕ)) (b : Bool) → words ≡ front ++ rest → nat_lt (length front) (length words) ≡ b
          → (if b then more at words else Ok x) ≡ Err p
          → Stops Fits words_of (choice at) (length front) words at p
      choice_stop at p words rest false here long e = absurd (cc)
      choice_stop at p words rest true here long e =
          let s = reader.stops at p words rest here e in
          record {
            k = s.k;
            past = s.past;
            place = s.place;
            starts = s.starts;
            refused = λ others y f read. s.refused others y f (choice_more at others y (omega (arith, s.past, f.short)) read);
          }

      pub ends_or : (i : ℕ) → length front ≡ i → IsReader Fits words_of Is front (λ at words. if nat_lt i (length words) then more at words else Ok x)
      unfolding choice
      ends_or i same =
          subst (λ (i : ℕ). IsReader Fits words_of Is front (λ at words. if nat_lt i (length words) then more at words else Ok x)) same (record {
            some = reader.some;
            reads = λ at words rest y here e. choice_read at words rest y (nat_lt (length front) (length words)) here refl e;
            stops = λ at p words rest here e. choice_stop at p words rest (nat_lt (length front) (length words)) here refl e;
          })

-- ---- any of the forms

module _ {A : Type 0} (Fits : A → Type 0) (words_of : A → List (List ℕ)) (Is : List (List ℕ) → A → Type 0) where
  abbrev pub IsForm : Form A → Type 0
  IsForm form = IsReader Fits words_of Is (form.name ∷ []) form.read

  first_reads : (form : Form A) (others : List (Form A)) (at : ℕ) (name : List ℕ) (words : List (List ℕ)) (x : A) → IsForm form
      → (form_read others at name (name ∷ words) ≡ Ok x → Is (name ∷ words) x)
      → (b : Bool) → bytes_eq name form.name ≡ b → (if b then form.read at (name ∷ words) else form_read others at name (name ∷ words)) ≡ Ok x
      → Is (name ∷ words) x
  first_reads form others at name words x own more false is e = more e
  first_reads form others at name words x own more true is e = own.reads at (name ∷ words) words x
      (ap (λ (n : List ℕ). n ∷ words) ((bytes_eq-Decides name form.name).0 is)) e

  forms_read : (all : List (Form A)) (at : ℕ) (name : List ℕ) (words : List (List ℕ)) (x : A) → AllByRecursion IsForm all
      → form_read all at name (name ∷ words) ≡ Ok x → Is (name ∷ words) x
  forms_read [] at name words x are e = absurd (cc)
  forms_read (form ∷ others) at name words x are e = first_reads form others at name words x are.0 (forms_read others at name words x are.1)
      (bytes_eq name form.name) refl e

  pub words_reads : (all : List (Form A)) (at : ℕ) (words : List (List ℕ)) (x : A) → AllByRecursion IsForm all → words_read all at words ≡ Ok x → Is words x
  words_reads all at [] x are e = absurd (cc)
  words_reads all at (name ∷ words) x are e = forms_read all at name words x are e

  -- reading stops where its first form stops, or another one
  first_stops : (form : Form A) (others : List (Form A)) (at p : ℕ) (name : List ℕ) (words : List (List ℕ)) → IsForm form
      → (form_read others at name (name ∷ words) ≡ Err p → Stops Fits words_of (form_read others at name) 0 (name ∷ words) at p)
      → (b : Bool) → bytes_eq name form.name ≡ b → (if b then form.read at (name ∷ words) else form_read others at name (name ∷ words)) ≡ Err p
      → Stops Fits words_of (λ (l : List (List ℕ)). if b then form.read at l else form_read others at name l) 0 (name ∷ words) at p
  first_stops form others at p name words own more false is e = more e
  first_stops form others at p name words own more true is e =
      let s = own.stops at p (name ∷ words) words (ap (λ (n : List ℕ). n ∷ words) ((bytes_eq-Decides name form.name).0 is)) e in
      record { k = s.k; past = omega arith; place = s.place; starts = s.starts; refused = s.refused }

  module _ (example : A) (suits : Fits example) where
    forms_stop : (all : List (Form A)) (at p : ℕ) (name : List ℕ) (words : List (List ℕ)) → AllByRecursion IsForm all
        → form_read all at name (name ∷ words) ≡ Err p → Stops Fits words_of (form_read all at name) 0 (name ∷ words) at p
    forms_stop [] at p name words are e = record {
      k = 0;
      past = omega arith;
      place = let same : at ≡ p = cc in omega (arith, same);
      starts = starts_none (name ∷ words) example suits;
      refused = λ others x f read. absurd (cc);
    }
    forms_stop (form ∷ others) at p name words are e = first_stops form others at p name words are.0 (forms_stop others at p name words are.1)
        (bytes_eq name form.name) refl e

    named_refused : (all : List (Form A)) (at p : ℕ) (name : List ℕ) (words others : List (List ℕ)) (x : A)
        (s : Stops Fits words_of (form_read all at name) 0 (name ∷ words) at p) → Fronts (suc s.k) (name ∷ words) others → words_read all at others ≡ Ok x → ⊥
    named_refused all at p name words [] x s f e = absurd (cc)
    named_refused all at p name words (first ∷ others) x s f e =
        let same : first ≡ name = Fronts-first (Fronts-fewer 1 (omega arith) f) in
        s.refused (first ∷ others) x f (ap (λ (n : List ℕ). form_read all at n (first ∷ others)) (sym same) ∙ e)

    pub words_stop : (all : List (Form A)) (at p : ℕ) (words : List (List ℕ)) → AllByRecursion IsForm all → words_read all at words ≡ Err p
        → Stops Fits words_of (words_read all at) 0 words at p
    words_stop all at p [] are e = record {
      k = 0;
      past = omega arith;
      place = let same : at ≡ p = cc in omega (arith, same);
      starts = starts_none [] example suits;
      refused = λ others x f read. absurd (omega (arith, f.within));
    }
    words_stop all at p (name ∷ words) are e =
        let s = forms_stop all at p name words are e in
        record {
          k = s.k;
          past = omega arith;
          place = s.place;
          starts = s.starts;
          refused = λ others x f read. named_refused all at p name words others x s f read;
        }
