-- One box: what is read at the front is spelled there, and what is spelled there is read.
use Rattle.std.proofs.Common.{◌≡◌, ℕ, ◌+◌, ◌≤◌, ◌<◌, Bool, true, false, ◌||◌, cond, ltb, eqb, List, ◌++◌, length, take, drop, Result, Ok, Err, refl, sym, ap, ◌∙◌, arith, inl, inr, ◌⊎◌}
use Rattle.std.proofs.lemmas.Bool.{ltb-true, ltb-false, le-ltb, lt-ltb, eq-eqb, ne_eqb, or_parts, or_cases, cases_lt}
use Rattle.std.proofs.lemmas.List.{length-append, take_at, drop_at}
use Rattle.hf_base.specs.declared.four.FourCc.{FourCc}
use Rattle.hf_base.specs.declared.fault.ReadRefusal.{ReadRefusal}
use Rattle.hf_base.specs.declared.fault.ReadRefusal.TheVariants.{Short, BadSize, OpenSize}
use Rattle.hf_base.specs.Number.{number}
use Rattle.hf_base.specs.Reading.{four_at}
use Rattle.hf_base.specs.ReadingLaws.{guard_ok, guard_err}
use Rattle.hf_box.specs.Boxes.{BoxAt, long}
use Rattle.hf_box.specs.Framing.{cut, box_at}

-- ---- a box that is cut from the front

abbrev pub cut_box : ℕ → ℕ → ℕ → List ℕ → BoxAt
cut_box head size at bytes = record { kind = four_at 4 bytes; at = at; head = head; body = drop head (take size bytes) }

pub record Cuts (head size at : ℕ) (bytes : List ℕ) (x : BoxAt × List ℕ) : Type 0 where
  pub low : head ≤ size
  pub high : size ≤ length bytes
  pub box : cut_box head size at bytes ≡ x.0
  pub rest : drop size bytes ≡ x.1

pub cut_ok : (head size at : ℕ) (bytes : List ℕ) (x : BoxAt × List ℕ) → cut head size at bytes ≡ Ok x → Cuts head size at bytes x
unfolding cut
cut_ok head size at bytes x e =
    let g = guard_ok (ltb size head || ltb (length bytes) size) (BadSize at) (cut_box head size at bytes, drop size bytes) x e in
    let p = or_parts (ltb size head) (ltb (length bytes) size) g.0 in
    record { low = ltb-false _ _ p.0; high = ltb-false _ _ p.1; box = ap (λ (y : BoxAt × List ℕ). y.0) g.1; rest = ap (λ (y : BoxAt × List ℕ). y.1) g.1 }

pub cut_err : (head size at : ℕ) (bytes : List ℕ) (e : ReadRefusal) → cut head size at bytes ≡ Err e → (e ≡ BadSize at) × ((size < head) ⊎ (length bytes < size))
unfolding cut
cut_err head size at bytes e h =
    let g = guard_err (ltb size head || ltb (length bytes) size) (BadSize at) e (cut_box head size at bytes, drop size bytes) h in
    (sym g.1, elim (or_cases (ltb size head) (ltb (length bytes) size) g.0) [ inl a ↦ inl (ltb-true _ _ a) | inr b ↦ inr (ltb-true _ _ b) ])

-- where the sizes fit, it is cut
pub cut_again : (head size at : ℕ) (bytes front body rest : List ℕ) (kind : FourCc) → bytes ≡ (front ++ body) ++ rest → length front ≡ head → size ≡ head + length body
    → four_at 4 bytes ≡ kind → cut head size at bytes ≡ Ok (record { kind = kind; at = at; head = head; body = body }, rest)
unfolding cut
cut_again head size at bytes front body rest kind whole len is k =
    let all : length (front ++ body) ≡ size = length-append front body ∙ omega arith in
    let low : ltb size head ≡ false = le-ltb _ _ (omega arith) in
    let high : ltb (length bytes) size ≡ false = le-ltb _ _ (omega (arith, ap length whole, length-append (front ++ body) rest)) in
    let text : take size bytes ≡ front ++ body = ap (take size) whole ∙ take_at (front ++ body) rest size all in
    let after : drop size bytes ≡ rest = ap (drop size) whole ∙ drop_at (front ++ body) rest size all in
    let inner : drop head (front ++ body) ≡ body = drop_at front body head len in
    rw (low, high, text, after, inner, k) refl

-- where they do not, it is refused
pub cut_refused : (head size at : ℕ) (bytes : List ℕ) → (size < head) ⊎ (length bytes < size) → cut head size at bytes ≡ Err (BadSize at)
unfolding cut
cut_refused head size at bytes (inl a) = let t = lt-ltb size head a in rw t refl
cut_refused head size at bytes (inr b) = let t = lt-ltb (length bytes) size b in grind (arith, t)

-- ---- which way the box at the front is read

abbrev Read : Type 0
Read = Result (BoxAt × List ℕ) ReadRefusal

pub open_at : (top : Bool) (at : ℕ) (bytes : List ℕ) → 8 ≤ length bytes → number 4 bytes ≡ 0 → box_at top at bytes ≡ cond top (cut 8 (length bytes) at bytes) (Err (OpenSize at))
unfolding box_at
open_at top at bytes long zero-is =
    let a : ltb (length bytes) 8 ≡ false = le-ltb _ _ long in
    let b : eqb (number 4 bytes) 0 ≡ true = eq-eqb _ _ zero-is in
    rw (a, b) refl

pub few_at : (top : Bool) (at : ℕ) (bytes : List ℕ) → length bytes < 8 → box_at top at bytes ≡ Err (Short at)
unfolding box_at
few_at top at bytes few =
    let a : ltb (length bytes) 8 ≡ true = lt-ltb _ _ few in
    rw a refl

pub half_at : (top : Bool) (at : ℕ) (bytes : List ℕ) → 8 ≤ length bytes → number 4 bytes ≡ 1 → length bytes < 16 → box_at top at bytes ≡ Err (Short at)
unfolding box_at
half_at top at bytes long one-is few =
    let a : ltb (length bytes) 8 ≡ false = le-ltb _ _ long in
    let b : eqb (number 4 bytes) 0 ≡ false = ne_eqb _ _ (omega arith) in
    let c : eqb (number 4 bytes) 1 ≡ true = eq-eqb _ _ one-is in
    let d : ltb (length bytes) 16 ≡ true = lt-ltb _ _ few in
    rw (a, b, c, d) refl

pub long_at : (top : Bool) (at : ℕ) (bytes : List ℕ) → 16 ≤ length bytes → number 4 bytes ≡ 1 → box_at top at bytes ≡ cut 16 (number 8 (drop 8 bytes)) at bytes
unfolding box_at
long_at top at bytes long one-is =
    let a : ltb (length bytes) 8 ≡ false = le-ltb _ _ (omega arith) in
    let b : eqb (number 4 bytes) 0 ≡ false = ne_eqb _ _ (omega arith) in
    let c : eqb (number 4 bytes) 1 ≡ true = eq-eqb _ _ one-is in
    let d : ltb (length bytes) 16 ≡ false = le-ltb _ _ long in
    rw (a, b, c, d) refl

pub compact_at : (top : Bool) (at : ℕ) (bytes : List ℕ) → 8 ≤ length bytes → 2 ≤ number 4 bytes → box_at top at bytes ≡ cut 8 (number 4 bytes) at bytes
unfolding box_at
compact_at top at bytes long size =
    let a : ltb (length bytes) 8 ≡ false = le-ltb _ _ long in
    let b : eqb (number 4 bytes) 0 ≡ false = ne_eqb _ _ (omega arith) in
    let c : eqb (number 4 bytes) 1 ≡ false = ne_eqb _ _ (omega arith) in
    rw (a, b, c) refl

-- the five ways, each with how it is read
pub data Way (top : Bool) (at : ℕ) (bytes : List ℕ) : Type 0 where
  few : length bytes < 8 → box_at top at bytes ≡ Err (Short at) → Way top at bytes
  half : 8 ≤ length bytes → number 4 bytes ≡ 1 → length bytes < 16 → box_at top at bytes ≡ Err (Short at) → Way top at bytes
  opened : 8 ≤ length bytes → number 4 bytes ≡ 0 → box_at top at bytes ≡ cond top (cut 8 (length bytes) at bytes) (Err (OpenSize at)) → Way top at bytes
  longer : 16 ≤ length bytes → number 4 bytes ≡ 1 → box_at top at bytes ≡ cut 16 (number 8 (drop 8 bytes)) at bytes → Way top at bytes
  plain : 8 ≤ length bytes → 2 ≤ number 4 bytes → box_at top at bytes ≡ cut 8 (number 4 bytes) at bytes → Way top at bytes

one_way : (top : Bool) (at : ℕ) (bytes : List ℕ) → 8 ≤ length bytes → number 4 bytes ≡ 1 → Way top at bytes
one_way top at bytes len is = elim (cases_lt (length bytes) 16) [
  | inl few' ↦ half len is few' (half_at top at bytes len is few')
  | inr many ↦ longer many is (long_at top at bytes many is)
]

pub way : (top : Bool) (at : ℕ) (bytes : List ℕ) → Way top at bytes
way top at bytes = elim (cases_lt (length bytes) 8) [
  | inl short ↦ few short (few_at top at bytes short)
  | inr len ↦ elim (cases_lt (number 4 bytes) 1) [
    | inl none ↦ let is : number 4 bytes ≡ 0 = omega arith in opened len is (open_at top at bytes len is)
    | inr some ↦ elim (cases_lt (number 4 bytes) 2) [
      | inl one ↦ one_way top at bytes len (omega arith)
      | inr two ↦ plain len two (compact_at top at bytes len two)
    ]
  ]
]
