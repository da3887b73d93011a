-- The words of edits, one behind the other.
use Rattle.std.proofs.Common.{◌≡◌, ◌≤◌, ◌<◌, ◌+◌, ◌-◌, ℕ, zero, suc, List, [], ◌∷◌, ◌++◌, length, drop, refl, sym, ap, subst, ◌∙◌, arith, inl, inr, length-append}
use Rattle.std.specs.Prelude.{Result, Ok, Err}
use Rattle.std.specs.List.{flat_map, AllByRecursion}
use Rattle.std.proofs.lemmas.Bool.{cases_lt}
use Rattle.std.proofs.lemmas.List.{append-nil, drop_at}
use Rattle.hf_text.specs.Words.{EditWord, IsEdit, words_of_edit, edit_read, edit_then, edits_from, edits_read}
use Rattle.hf_text.proofs.Forms.{EditBegins, EditReads, edit_read-words, edit_reads, edit_stops}
use Rattle.hf_text.proofs.Fronts.{Fronts, Fronts-none, Fronts-left, Fronts-wider, Fronts-past, Fronts-flip, Fronts-more, Fronts-less, StopsAt}

-- an edit has words, since none is read of no words
read_some : (words : List (List ℕ)) (edit : EditWord) → edit_read 0 words ≡ Ok edit → 0 < length words
read_some [] edit e = absurd (cc)
read_some (word ∷ words) edit e = omega arith

edit_words_some : (edit : EditWord) → IsEdit edit → 0 < length (words_of_edit edit)
edit_words_some edit fits = read_some (words_of_edit edit) edit (ap (edit_read 0) (sym (append-nil (words_of_edit edit))) ∙ edit_read-words 0 edit [] fits)

pub record EditsRead (limit : ℕ) (words : List (List ℕ)) (edits : List EditWord) : Type 0 where
  pub fits : AllByRecursion IsEdit edits
  pub few : length edits ≤ limit
  pub whole : words ≡ flat_map words_of_edit edits

pub record EditsBegin (limit : ℕ) (words : List (List ℕ)) (k : ℕ) : Type 0 where
  pub edits : List EditWord
  pub fits : AllByRecursion IsEdit edits
  pub few : length edits ≤ limit
  pub fronts : Fronts k words (flat_map words_of_edit edits)

pub edits_read-none : (limit at : ℕ) → edits_read limit at [] ≡ Ok []
unfolding edits_read
edits_read-none zero at = refl
edits_read-none (suc limit) at = refl

pub edits_read-some : (limit at : ℕ) (words : List (List ℕ)) → 0 < length words
    → edits_read (suc limit) at words ≡ edits_from (edit_read at words) (λ n. edits_read limit (at + n) (drop n words))
unfolding edits_read
edits_read-some limit at [] some = absurd (omega arith)
edits_read-some limit at (word ∷ words) some = refl

pub edits_read-full : (at : ℕ) (words : List (List ℕ)) → 0 < length words → edits_read 0 at words ≡ Err at
unfolding edits_read
edits_read-full at [] some = absurd (omega arith)
edits_read-full at (word ∷ words) some = refl

pub edits_read-words : (limit at : ℕ) (edits : List EditWord) → AllByRecursion IsEdit edits → length edits ≤ limit
    → edits_read limit at (flat_map words_of_edit edits) ≡ Ok edits
edits_read-words limit at [] fits few = edits_read-none limit at
edits_read-words zero at (edit ∷ edits) fits few = absurd (omega arith)
edits_read-words (suc limit) at (edit ∷ edits) fits few =
    let own : List (List ℕ) = words_of_edit edit in
    let more : List (List ℕ) = flat_map words_of_edit edits in
    edits_read-some limit at (own ++ more) (omega (arith, edit_words_some edit fits.0, length-append own more))
    ∙ ap (λ (r : Result EditWord ℕ). edits_from r (λ (n : ℕ). edits_read limit (at + n) (drop n (own ++ more)))) (edit_read-words at edit more fits.0)
    ∙ ap (λ (l : List (List ℕ)). edit_then edit (edits_read limit (at + length own) l)) (drop_at own more (length own) refl)
    ∙ ap (edit_then edit) (edits_read-words limit (at + length own) edits fits.1 (omega arith))

record Then (edit : EditWord) (read : Result (List EditWord) ℕ) (edits : List EditWord) : Type 0 where
  more : List EditWord
  is : read ≡ Ok more
  all : edits ≡ edit ∷ more

then_ok : (edit : EditWord) (read : Result (List EditWord) ℕ) (edits : List EditWord) → edit_then edit read ≡ Ok edits → Then edit read edits
then_ok edit (Ok more) edits e = record { more = more; is = refl; all = cc }
then_ok edit (Err at) edits e = absurd (cc)

then_err : (edit : EditWord) (read : Result (List EditWord) ℕ) (p : ℕ) → edit_then edit read ≡ Err p → read ≡ Err p
then_err edit (Ok more) p e = absurd (cc)
then_err edit (Err at) p e = cc

Reading : ℕ → Type 0
Reading limit = (at : ℕ) (words : List (List ℕ)) (edits : List EditWord) → edits_read limit at words ≡ Ok edits → EditsRead limit words edits

read_first : (limit at : ℕ) (words : List (List ℕ)) (edits : List EditWord) (read : Result EditWord ℕ) → Reading limit → edit_read at words ≡ read
    → edits_from read (λ (n : ℕ). edits_read limit (at + n) (drop n words)) ≡ Ok edits → EditsRead (suc limit) words edits
unfolding Reading
read_first limit at words edits (Err p) more first e = absurd (cc)
read_first limit at words edits (Ok edit) more first e =
    let rest : List (List ℕ) = drop (length (words_of_edit edit)) words in
    let t = then_ok edit (edits_read limit (at + length (words_of_edit edit)) rest) edits e in
    let one = edit_reads at words edit first in
    let read = more (at + length (words_of_edit edit)) rest t.more t.is in
    subst (EditsRead (suc limit) words) (sym t.all) (record {
      fits = (one.fits, read.fits);
      few = omega (arith, read.few);
      whole = one.whole ∙ ap (λ (l : List (List ℕ)). words_of_edit edit ++ l) read.whole;
    })

pub edits_reads : (limit at : ℕ) (words : List (List ℕ)) (edits : List EditWord) → edits_read limit at words ≡ Ok edits → EditsRead limit words edits
unfolding edits_read Reading
edits_reads limit at [] edits e =
    let none : edits ≡ [] = cc (edits_read-none limit at) in
    subst (EditsRead limit []) (sym none) (record { fits = tt; few = omega arith; whole = refl })
edits_reads zero at (word ∷ words) edits e = absurd (cc)
edits_reads (suc limit) at (word ∷ words) edits e = read_first limit at (word ∷ words) edits (edit_read at (word ∷ words)) (edits_reads limit) refl e

no_room : (words : List (List ℕ)) (j : ℕ) (edits : List EditWord) → length edits ≤ 0 → Fronts j words (flat_map words_of_edit edits) → j ≤ 0
no_room words j [] few f = omega (arith, f.short)
no_room words j (edit ∷ edits) few f = absurd (omega arith)

no_edits : (limit : ℕ) (words : List (List ℕ)) → EditsBegin limit words 0
no_edits limit words = record { edits = []; fits = tt; few = omega arith; fronts = Fronts-none _ _ }

one_edit : (limit k : ℕ) (words : List (List ℕ)) → EditBegins words k → EditsBegin (suc limit) words k
one_edit limit k words b = record { edits = b.value ∷ []; fits = (b.fits, tt); few = omega arith; fronts = Fronts-wider [] b.fronts }

-- where no edit stands first, none is passed
most_refused : (at p k j : ℕ) (words : List (List ℕ)) → edit_read at words ≡ Err p → ((j : ℕ) → EditBegins words j → j ≤ k) → (edits : List EditWord)
    → AllByRecursion IsEdit edits → Fronts j words (flat_map words_of_edit edits) → j ≤ k
most_refused at p k j words e most [] fits f = omega (arith, f.short)
most_refused at p k j words e most (edit ∷ edits) fits f =
    elim (cases_lt j (length (words_of_edit edit))) [
      | inl less ↦ most j (record { value = edit; fits = fits.0; fronts = Fronts-left (words_of_edit edit) (flat_map words_of_edit edits) (omega arith) f })
      | inr past ↦
          let all = Fronts-past (words_of_edit edit) (flat_map words_of_edit edits) past f in
          let reads = edit_read-words at edit (drop (length (words_of_edit edit)) words) fits.0 in
          let known : edit_read at words ≡ Ok edit = ap (edit_read at) all ∙ reads in
          absurd (cc)
    ]

-- edits that begin these words begin with the edit that stands first
same_first : (edit other : EditWord) (rest whole : List (List ℕ)) (j : ℕ) → IsEdit edit → IsEdit other → length (words_of_edit edit) ≤ j
    → Fronts j (words_of_edit edit ++ rest) (words_of_edit other ++ whole) → other ≡ edit
same_first edit other rest whole j fits fits_other past f =
    let all = Fronts-past (words_of_edit edit) rest past (Fronts-flip f) in
    let reads = edit_read-words 0 edit (drop (length (words_of_edit edit)) (words_of_edit other ++ whole)) fits in
    let also = edit_read-words 0 other whole fits_other in
    let known : edit_read 0 (words_of_edit other ++ whole) ≡ Ok edit = ap (edit_read 0) all ∙ reads in
    cc

behind_first : (edit other : EditWord) (rest whole : List (List ℕ)) (j : ℕ) → IsEdit edit → IsEdit other → length (words_of_edit edit) ≤ j
    → Fronts j (words_of_edit edit ++ rest) (words_of_edit other ++ whole) → Fronts (j - length (words_of_edit edit)) rest whole
behind_first edit other rest whole j fits fits_other past f =
    let same = same_first edit other rest whole j fits fits_other past f in
    let own : Fronts j (words_of_edit edit ++ rest) (words_of_edit edit ++ whole) = subst
    (λ (e : EditWord). Fronts j (words_of_edit edit ++ rest) (words_of_edit e ++ whole)) same f in
    let split : j ≡ length (words_of_edit edit) + (j - length (words_of_edit edit)) = omega arith in
    Fronts-less (j - length (words_of_edit edit)) (words_of_edit edit) (subst (λ (n : ℕ). Fronts n (words_of_edit edit ++ rest)
    (words_of_edit edit ++ whole)) split own)

most_behind : (limit k j : ℕ) (words : List (List ℕ)) (edit : EditWord) → EditReads words edit
    → ((j : ℕ) → EditsBegin limit (drop (length (words_of_edit edit)) words) j → j ≤ k) → (edits : List EditWord) → AllByRecursion IsEdit edits
    → length edits ≤ suc limit → Fronts j words (flat_map words_of_edit edits) → j ≤ length (words_of_edit edit) + k
most_behind limit k j words edit reads most [] fits few f = omega (arith, f.short)
most_behind limit k j words edit reads most (other ∷ edits) fits few f =
    elim (cases_lt j (length (words_of_edit edit))) [
      | inl less ↦ omega arith
      | inr past ↦
          let whole : List (List ℕ) = flat_map words_of_edit edits in
          let own : Fronts j (words_of_edit edit ++ drop (length (words_of_edit edit)) words) (words_of_edit other ++ whole) = subst
          (λ (l : List (List ℕ)). Fronts j l (words_of_edit other ++ whole)) reads.whole f in
          let behind = behind_first edit other (drop (length (words_of_edit edit)) words) whole j reads.fits fits.0 past own in
          omega (arith, most (j - length (words_of_edit edit)) (record { edits = edits; fits = fits.1; few = omega arith; fronts = behind }))
    ]

begin_behind : (limit k : ℕ) (words : List (List ℕ)) (edit : EditWord) → EditReads words edit
    → EditsBegin limit (drop (length (words_of_edit edit)) words) k → EditsBegin (suc limit) words (length (words_of_edit edit) + k)
begin_behind limit k words edit reads b =
    let f : Fronts (length (words_of_edit edit) + k) (words_of_edit edit ++ drop (length (words_of_edit edit)) words)
    (words_of_edit edit ++ flat_map words_of_edit b.edits) = Fronts-more (words_of_edit edit) b.fronts in
    record {
      edits = edit ∷ b.edits;
      fits = (reads.fits, b.fits);
      few = omega (arith, b.few);
      fronts = subst (λ (l : List (List ℕ)). Fronts (length (words_of_edit edit) + k) l (words_of_edit edit ++ flat_map words_of_edit b.edits))
          (sym reads.whole) f;
    }

Stopping : ℕ → Type 0
Stopping limit = (at p : ℕ) (words : List (List ℕ)) → edits_read limit at words ≡ Err p → StopsAt (EditsBegin limit words) at p

stop_first : (limit at p : ℕ) (words : List (List ℕ)) (read : Result EditWord ℕ) → Stopping limit → edit_read at words ≡ read
    → edits_from read (λ (n : ℕ). edits_read limit (at + n) (drop n words)) ≡ Err p → StopsAt (EditsBegin (suc limit) words) at p
unfolding Stopping
stop_first limit at p words (Err q) more first e =
    let here : edit_read at words ≡ Err p = cc in
    let s = edit_stops at p words here in
    record {
      k = s.k;
      place = s.place;
      begins = one_edit limit s.k words s.begins;
      most = λ j b. most_refused at p s.k j words here s.most b.edits b.fits b.fronts;
    }
stop_first limit at p words (Ok edit) more first e =
    let n : ℕ = length (words_of_edit edit) in
    let reads = edit_reads at words edit first in
    let s = more (at + n) p (drop n words) (then_err edit (edits_read limit (at + n) (drop n words)) p e) in
    record {
      k = n + s.k;
      place = omega (arith, s.place);
      begins = begin_behind limit s.k words edit reads s.begins;
      most = λ j b. most_behind limit s.k j words edit reads s.most b.edits b.fits b.few b.fronts;
    }

pub edits_stop : (limit at p : ℕ) (words : List (List ℕ)) → edits_read limit at words ≡ Err p → StopsAt (EditsBegin limit words) at p
unfolding edits_read Stopping
edits_stop limit at p [] e = let none = edits_read-none limit at in absurd (cc)
edits_stop zero at p (word ∷ words) e = record {
  k = 0;
  place = let same : at ≡ p = cc in omega arith;
  begins = no_edits 0 (word ∷ words);
  most = λ j b. no_room (word ∷ words) j b.edits b.few b.fronts;
}
edits_stop (suc limit) at p (word ∷ words) e = stop_first limit at p (word ∷ words) (edit_read at (word ∷ words)) (edits_stop limit) refl e
