-- Edits one after the other.
use Rattle.std.proofs.Common.{◌≡◌, ℕ, ◌+◌, ◌<◌, ◌≤◌, length, map, take, get_or, List, [], ◌∷◌, ◌++◌, refl, sym, ap, ◌∙◌, subst, inl, inr, arith, suc, length-take, Result, Ok, Err}
use Rattle.std.specs.Prelude.{Option, Some, None}
use Rattle.std.specs.Global.{Vec}
use Rattle.std.proofs.lemmas.List.{length-map, take_all, take_more, get_or-map}
use Rattle.std.proofs.lemmas.Option.{slice_get-get_or}
use Rattle.std.proofs.lemmas.Slice.Zip.{get_or-zip, length-zip}
use Rattle.hf_canon.proofs.Denoting.{canon_denotes}
use Rattle.hf_desk.specs.Outside.{Outside}
use Rattle.hf_edit.specs.Edits.{Edit, step, why}
use Rattle.hf_plan.specs.Canon.{Canon}
use Rattle.hf_store.specs.Store.{ItemStore}
use Rattle.hf_store.specs.Valid.{Valid}
use Rattle.hf_store.specs.declared.reason.Reason.{Reason}
use Rattle.hf_text.specs.Commands.{edit_of}
use Rattle.hf_text.specs.Words.{EditWord}
use Rattle.hf_text.specs.declared.edits.EditWord.{EditWord as PlacedEdit}
use Rattle.hf_text.specs.declared.outcome.Outcome.TheVariants.{Unfit, Refused}
use Rattle.hf_app.specs.Answers.{Answers}
use Rattle.hf_app.specs.Due.{IsDueOfEdits, IsDueOfFile, answered, made}
use Rattle.hf_app.specs.Edits.{AreAccepted, AreMeant, Makes, MakesMeant, Means, IsMeant, Steps, Stops, stepped, unless, with_files}
use Rattle.hf_app.specs.Opening.{IsOpened, IsRefusal}
use Rattle.hf_app.specs.Sources.{Sourced}
use Rattle.hf_app.specs.Stops.{outcome_of_stop}
use Rattle.hf_app.specs.declared.stopping.Stop.{Stop}
use Rattle.hf_app.specs.declared.stopping.Stop.TheVariants as stops
use Rattle.hf_app.proofs.Faults.{refused_due}

-- ---- what is reached

abbrev pub Reached : Type 0
Reached = Result ItemStore (ℕ × Reason)

-- edits behind others
stepped_first : (n : ℕ) (s after : ItemStore) (e : Edit) (xs ys : List Edit) → ((n : ℕ) (s after : ItemStore) → stepped n s xs ≡ Ok after
    → stepped n s (xs ++ ys) ≡ stepped (n + length xs) after ys)
    → (o : Option Reason) → why s e ≡ o → unless n o (stepped (n + 1) (step s e) xs) ≡ Ok after
    → unless n o (stepped (n + 1) (step s e) (xs ++ ys)) ≡ stepped (n + length (e ∷ xs)) after ys
stepped_first n s after e xs ys more None is steps = more (n + 1) (step s e) after steps ∙ ap (λ (k : ℕ). stepped k after ys) (omega arith)
stepped_first n s after e xs ys more (Some reason) is steps = absurd cc

pub stepped-append : (xs ys : List Edit) (n : ℕ) (s after : ItemStore) → stepped n s xs ≡ Ok after → stepped n s (xs ++ ys) ≡ stepped (n + length xs) after ys
unfolding stepped
stepped-append [] ys n s after steps = let same : s ≡ after = cc in ap (λ (s : ItemStore). stepped n s ys) same
    ∙ ap (λ (k : ℕ). stepped k after ys) (omega arith)
stepped-append (e ∷ xs) ys n s after steps = stepped_first n s after e xs ys (stepped-append xs ys) (why s e) refl steps

-- those that are refused stay so with others behind them
stopped_first : (n : ℕ) (s : ItemStore) (e : Edit) (xs ys : List Edit) (p : ℕ × Reason) → ((n : ℕ) (s : ItemStore) → stepped n s xs ≡ Err p
    → stepped n s (xs ++ ys) ≡ Err p)
    → (o : Option Reason) → why s e ≡ o → unless n o (stepped (n + 1) (step s e) xs) ≡ Err p → unless n o (stepped (n + 1) (step s e) (xs ++ ys)) ≡ Err p
stopped_first n s e xs ys p more None is steps = more (n + 1) (step s e) steps
stopped_first n s e xs ys p more (Some reason) is steps = steps

pub stopped-append : (xs ys : List Edit) (p : ℕ × Reason) (n : ℕ) (s : ItemStore) → stepped n s xs ≡ Err p → stepped n s (xs ++ ys) ≡ Err p
unfolding stepped
stopped-append [] ys p n s steps = absurd cc
stopped-append (e ∷ xs) ys p n s steps = stopped_first n s e xs ys p (stopped-append xs ys p) (why s e) refl steps

-- one edit
pub stepped-one : (n : ℕ) (s : ItemStore) (e : Edit) → why s e ≡ None → stepped n s (e ∷ []) ≡ Ok (step s e)
unfolding stepped
stepped-one n s e none = rw none refl

pub stopped-one : (n : ℕ) (s : ItemStore) (e : Edit) (reason : Reason) → why s e ≡ Some reason → stepped n s (e ∷ []) ≡ Err (n, reason)
unfolding stepped
stopped-one n s e reason some = rw some refl

pub stepped-none : (n : ℕ) (s : ItemStore) → stepped n s [] ≡ Ok s
unfolding stepped
stepped-none n s = refl

-- ---- what is meant

pub meant-push : (edits : List Sourced) (meant : List Edit) (w : Sourced) (e : Edit) → AreMeant edits meant → IsMeant w.0 w.1 e
    → AreMeant (edits ++ w ∷ []) (meant ++ e ∷ [])
meant-push [] [] w e all one = (one, tt)
meant-push [] (f ∷ fs) w e all one = absurd all
meant-push (v ∷ vs) [] w e all one = absurd all
meant-push (v ∷ vs) (f ∷ fs) w e all one = (all.0, meant-push vs fs w e all.1 one)

pub meant-length : (edits : List Sourced) (meant : List Edit) → AreMeant edits meant → length edits ≡ length meant
meant-length [] [] all = refl
meant-length [] (e ∷ es) all = absurd all
meant-length (w ∷ ws) [] all = absurd all
meant-length (w ∷ ws) (e ∷ es) all = ap (λ (n : ℕ). suc n) (meant-length ws es all.1)

-- an edit without a meaning is not made
pub unmeant : (n : ℕ) (s new : ItemStore) (w : EditWord) (bytes : List ℕ) (stop : Stop) → Means n w bytes (Err stop) → Makes n s w bytes (Err stop) new
unmeant n s new w bytes (stops.Unfit m fault) is = is
unmeant n s new w bytes (stops.Refused m reason) is = absurd is
unmeant n s new w bytes stops.NoMemory is = tt

-- an edit that is made as it is meant is made
pub meant_makes : (n : ℕ) (old new : ItemStore) (w : EditWord) (bytes : List ℕ) (e : Edit) (result : Result (Unit {0}) Stop) → IsMeant w bytes e
    → MakesMeant n old e result new → Makes n old w bytes result new
meant_makes n old new w bytes e (Ok done) meant (free, is) = (e, meant, free, is)
meant_makes n old new w bytes e (Err (stops.Unfit m fault)) meant never = absurd never
meant_makes n old new w bytes e (Err (stops.Refused m reason)) meant (same, told) = (same, (e, meant, told))
meant_makes n old new w bytes e (Err stops.NoMemory) meant is = tt

-- ---- the loop over the edits

-- edits as the code has them, and the one at a place
module _ (words : List (List ℕ)) (edits : List PlacedEdit) (files : List (Vec ℕ)) (count : length files ≡ length edits) where
  pub with_files_len : length (with_files words edits files) ≡ length edits
  with_files_len =
      let both = length-zip (map (edit_of words) edits) (map (λ (f : Vec ℕ). f.items) files) in
      omega (arith, both, length-map edits (edit_of words), length-map files (λ (f : Vec ℕ). f.items), count)

  pub with_files_at : (i : ℕ) (d : PlacedEdit) (f : Vec ℕ) → i < length edits → get_or files i f ≡ f
      → get_or (with_files words edits files) i (edit_of words (get_or edits i d), f.items) ≡ (edit_of words (get_or edits i d), f.items)
  with_files_at i d f less is_file =
      let ws = map (edit_of words) edits in
      let fs = map (λ (f : Vec ℕ). f.items) files in
      let all : i < length ws = omega (arith, less, length-map edits (edit_of words)) in
      let each : i < length fs = omega (arith, less, count, length-map files (λ (f : Vec ℕ). f.items)) in
      get_or-zip ws fs i (edit_of words (get_or edits i d), f.items) all each
      ∙ ap (λ (w : EditWord). (w, get_or fs i f.items)) (get_or-map (edit_of words) edits i d (edit_of words (get_or edits i d)) less)
      ∙ ap (λ (b : List ℕ). (edit_of words (get_or edits i d), b)) (get_or-map (λ (f : Vec ℕ). f.items) files i f f.items (omega (arith, less, count))
      ∙ ap (λ (f : Vec ℕ). f.items) is_file)

  -- all of them
  pub with_files_all : (i : ℕ) → length edits ≤ i → take i (with_files words edits files) ≡ with_files words edits files
  with_files_all i all = take_all i (with_files words edits files) (omega (arith, all, with_files_len))

-- the edits before a place are accepted, and the one there is looked at
module _ (old mid : ItemStore) (edits : List Sourced) (i : ℕ) (w : Sourced) (less : i < length edits) (is_there : get_or edits i w ≡ w)
    (before : AreAccepted old (take i edits) mid) where
  more : take (i + 1) edits ≡ take i edits ++ w ∷ []
  more = take_more edits i w less ∙ ap (λ (v : Sourced). take i edits ++ v ∷ []) is_there

  number : 1 + length before.meant ≡ i + 1
  number = let same = meant-length (take i edits) before.meant before.are_meant in let taken = length-take i edits in omega (arith, same, taken, less)

  now_meant : (e : Edit) → IsMeant w.0 w.1 e → AreMeant (take (i + 1) edits) (before.meant ++ e ∷ [])
  now_meant e one = subst (λ (vs : List Sourced). AreMeant vs (before.meant ++ e ∷ [])) (sym more) (meant-push
      (take i edits) before.meant w e before.are_meant one)

  now_steps : (e : Edit) → stepped 1 old (before.meant ++ e ∷ []) ≡ stepped (i + 1) mid (e ∷ [])
  now_steps e = stepped-append before.meant (e ∷ []) 1 old mid before.steps ∙ ap (λ (k : ℕ). stepped k mid (e ∷ [])) number

  -- it is made
  made_more : (new : ItemStore) → Makes (i + 1) mid w.0 w.1 (Ok tt) new → AreAccepted old (take (i + 1) edits) new
  made_more new made = record {
    meant = before.meant ++ made.0 ∷ [];
    are_meant = now_meant made.0 made.1;
    steps = now_steps made.0 ∙ stepped-one (i + 1) mid made.0 made.2 ∙ ap (λ (s : ItemStore). Ok s) (sym made.3);
  }

  -- it stops all
  made_stops : (stop : Stop) (new last : ItemStore) → Makes (i + 1) mid w.0 w.1 (Err stop) new → Steps old edits (Err stop) last
  made_stops (stops.Unfit n fault) new last (is, unfit) = record {
    before = i;
    number = is;
    after = mid;
    accepted = before;
    edit = w;
    there = slice_get-get_or edits i w less ∙ ap (λ (v : Sourced). Some v) is_there;
    unfit = unfit;
  }
  made_stops (stops.Refused n reason) new last (is, some) = record {
    meant = before.meant ++ some.0 ∷ [];
    are_meant = subst (λ (k : ℕ). AreMeant (take k edits) (before.meant ++ some.0 ∷ [])) (sym is) (now_meant some.0 some.1);
    steps = now_steps some.0 ∙ stopped-one (i + 1) mid some.0 reason some.2 ∙ ap (λ (k : ℕ). Err (k, reason)) (sym is);
  }
  made_stops stops.NoMemory new last is = tt

  -- the same, where its number and the bytes of its file are told otherwise
  module _ (n : ℕ) (is_number : n ≡ i + 1) (bytes : List ℕ) (is_bytes : bytes ≡ w.1) where
    same : (r : Result (Unit {0}) Stop) (new : ItemStore) → Makes n mid w.0 bytes r new → Makes (i + 1) mid w.0 w.1 r new
    same r new made = subst (λ (k : ℕ). Makes k mid w.0 w.1 r new) is_number (subst (λ (b : List ℕ). Makes n mid w.0 b r new) is_bytes made)

    pub one_more : (new : ItemStore) → Makes n mid w.0 bytes (Ok tt) new → AreAccepted old (take (i + 1) edits) new
    one_more new made = made_more new (same (Ok tt) new made)

    pub one_stops : (stop : Stop) (new last : ItemStore) → Makes n mid w.0 bytes (Err stop) new → Steps old edits (Err stop) last
    one_stops stop new last made = made_stops stop new last (same (Err stop) new made)

-- ---- all edits of a file

-- the input is refused
pub input_stops : (file : List ℕ) (edits : List Sourced) (stop : Stop) → IsRefusal 0 file stop → Stops file edits stop
input_stops file edits (stops.Unfit n fault) is = inl is
input_stops file edits (stops.Refused n reason) is = absurd is
input_stops file edits stops.NoMemory is = tt

-- an edit is
pub edits_stop : (file : List ℕ) (edits : List Sourced) (s after : ItemStore) (stop : Stop) → IsOpened file s → Steps s edits (Err stop) after
    → Stops file edits stop
edits_stop file edits s after (stops.Unfit n fault) opened steps = inr (s, opened, steps)
edits_stop file edits s after (stops.Refused n reason) opened steps = (s, opened, steps)
edits_stop file edits s after stops.NoMemory opened steps = tt

-- why nothing is made of it is due
pub stops_due : (file out : List ℕ) (edits : List Sourced) (old now : Outside) (stop : Stop) → Stops file edits stop
    → Answers (IsDueOfFile (IsDueOfEdits edits out) file) (outcome_of_stop stop) old now
stops_due file out edits old now (stops.Unfit n fault) (inl is) = refused_due (IsDueOfEdits edits out) file old now (stops.Unfit n fault) is
stops_due file out edits old now (stops.Unfit n fault) (inr (s, opened, is)) = (answered (Unfit n fault), inr (s, opened, inl (n, fault, is, refl)), refl, tt)
stops_due file out edits old now (stops.Refused n reason) (s, opened, is) = (
  answered (Refused n reason),
  inr (
    s,
    opened,
    inr (inl
        (n, reason, is, refl)),
  ),
  refl,
  tt,
)
stops_due file out edits old now stops.NoMemory is = tt

-- the canonical file of what is left is
pub edits_due : (file out : List ℕ) (edits : List Sourced) (after : ItemStore) (bytes : List ℕ) → Valid after → (s : ItemStore) × IsOpened file s
    × AreAccepted s edits after
    → Canon after bytes → IsDueOfFile (IsDueOfEdits edits out) file (made out bytes)
edits_due file out edits after bytes valid (s, opened, accepted) canonical =
    inr (s, opened, inr (inr (after, accepted, (bytes, canonical, canon_denotes after bytes valid canonical, refl))))
