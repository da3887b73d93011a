-- What is due is one thing.
use Rattle.std.proofs.Common.{◌≡◌, ℕ, suc, ◌+◌, ◌-◌, ◌<◌, ◌≤◌, List, [], ◌∷◌, ◌++◌, length, map, take, drop, refl, sym, ap, ◌∙◌, subst, inl, inr, arith, Result, Ok, Err}
use Rattle.std.specs.Prelude.{Option, Some, slice_get}
use Rattle.std.proofs.Math.Seq.{take-add}
use Rattle.std.proofs.lemmas.Bool.{cases_lt}
use Rattle.std.proofs.lemmas.List.{drop_more, take_all}
use Rattle.std.proofs.lemmas.Option.{get_or_from_slice_get, slice_get_within}
use Rattle.hf_base.specs.declared.fault.ReadRefusal.{ReadRefusal}
use Rattle.hf_desk.specs.Outside.{Files}
use Rattle.hf_edit.specs.Edits.{Edit, Thumb}
use Rattle.hf_plan.proofs.OneFile.{one_canon}
use Rattle.hf_read.proofs.DenotesLaws.{denotes_one}
use Rattle.hf_store.specs.Lists.{IsIn, RisesFrom}
use Rattle.hf_store.specs.Store.{Item, ItemStore, ids_of}
use Rattle.hf_store.specs.Valid.{Valid}
use Rattle.hf_store.specs.declared.reason.Reason.{Reason}
use Rattle.hf_text.specs.Words.{EditWord, Command, Boxes, ListFile, CheckFile, Extract, EditFile, Redact, Trial}
use Rattle.hf_text.specs.Words as words
use Rattle.hf_text.specs.declared.outcome.Outcome.TheVariants.{Unfit, Refused}
use Rattle.hf_app.specs.Due.{Due, IsDue, IsDueOf, IsDueOfCanon, IsDueOfCheck, IsDueOfEdits, IsDueOfExtract, IsDueOfFile, IsDueOfList, IsDueOfRead, IsDueOfRedact, answered, made}
use Rattle.hf_app.specs.Edits.{AreAccepted, AreMeant, AreRefused, AreUnfit, IsMeant, IsUnfit, stepped}
use Rattle.hf_app.specs.Sources.{Sourced, Readable, Missing, Long, Whole, bytes_in, read_of, sourced, sources_of}
use Rattle.hf_app.proofs.EditChain.{stopped-append}
use Rattle.hf_app.proofs.Trials.{one_trial}

-- ---- what edits mean is one thing

one_meaning : (w : EditWord) (bytes : List ℕ) (e f : Edit) → IsMeant w bytes e → IsMeant w bytes f → e ≡ f
one_meaning (words.Remove id) bytes e f a b = a ∙ sym b
one_meaning (words.Exif id file) bytes e f a b = a ∙ sym b
one_meaning (words.Xmp id file) bytes e f a b = a ∙ sym b
one_meaning (words.Thumb id file) bytes e f (s, opened, a) (t, also, b) =
    a ∙ ap (λ (donor : ItemStore). Thumb id donor) (denotes_one bytes s t opened.denoted also.denoted) ∙ sym b
one_meaning (words.Primary id) bytes e f a b = a ∙ sym b
one_meaning (words.Rotate id quarters) bytes e f a b = a ∙ sym b
one_meaning (words.Mirror id axis) bytes e f a b = a ∙ sym b
one_meaning (words.Crop id x y w h) bytes e f a b = a ∙ sym b
one_meaning (words.Hide id) bytes e f a b = a ∙ sym b
one_meaning (words.Show id) bytes e f a b = a ∙ sym b
one_meaning (words.Drop id kind) bytes e f a b = a ∙ sym b

no_meaning : (w : EditWord) (bytes : List ℕ) (fault : ReadRefusal) (e : Edit) → IsUnfit w bytes fault → IsMeant w bytes e → ⊥
no_meaning (words.Remove id) bytes fault e unfit is = unfit
no_meaning (words.Exif id file) bytes fault e unfit is = unfit
no_meaning (words.Xmp id file) bytes fault e unfit is = unfit
no_meaning (words.Thumb id file) bytes fault e unfit (s, opened, is) = let none = opened.sound in absurd cc
no_meaning (words.Primary id) bytes fault e unfit is = unfit
no_meaning (words.Rotate id quarters) bytes fault e unfit is = unfit
no_meaning (words.Mirror id axis) bytes fault e unfit is = unfit
no_meaning (words.Crop id x y w h) bytes fault e unfit is = unfit
no_meaning (words.Hide id) bytes fault e unfit is = unfit
no_meaning (words.Show id) bytes fault e unfit is = unfit
no_meaning (words.Drop id kind) bytes fault e unfit is = unfit

one_fault : (w : EditWord) (bytes : List ℕ) (fault other : ReadRefusal) → IsUnfit w bytes fault → IsUnfit w bytes other → fault ≡ other
one_fault (words.Remove id) bytes fault other a b = absurd a
one_fault (words.Exif id file) bytes fault other a b = absurd a
one_fault (words.Xmp id file) bytes fault other a b = absurd a
one_fault (words.Thumb id file) bytes fault other a b = cc
one_fault (words.Primary id) bytes fault other a b = absurd a
one_fault (words.Rotate id quarters) bytes fault other a b = absurd a
one_fault (words.Mirror id axis) bytes fault other a b = absurd a
one_fault (words.Crop id x y w h) bytes fault other a b = absurd a
one_fault (words.Hide id) bytes fault other a b = absurd a
one_fault (words.Show id) bytes fault other a b = absurd a
one_fault (words.Drop id kind) bytes fault other a b = absurd a

same_meant : (ws : List Sourced) (es fs : List Edit) → AreMeant ws es → AreMeant ws fs → es ≡ fs
same_meant [] [] [] a b = refl
same_meant [] [] (f ∷ fs) a b = absurd b
same_meant [] (e ∷ es) fs a b = absurd a
same_meant (w ∷ ws) [] fs a b = absurd a
same_meant (w ∷ ws) (e ∷ es) [] a b = absurd b
same_meant (w ∷ ws) (e ∷ es) (f ∷ fs) a b =
    ap (λ (x : Edit). x ∷ es) (one_meaning w.0 w.1 e f a.0 b.0) ∙ ap (λ (xs : List Edit). f ∷ xs) (same_meant ws es fs a.1 b.1)

-- what a front means, and the rest
split_meant : (us vs : List Sourced) (es : List Edit) → AreMeant (us ++ vs) es
    → (front : List Edit) × (rest : List Edit) × (es ≡ front ++ rest) × AreMeant us front × AreMeant vs rest
split_meant [] vs es all = ([], es, refl, tt, all)
split_meant (u ∷ us) vs [] all = absurd all
split_meant (u ∷ us) vs (e ∷ es) all = let r = split_meant us vs es all.1 in (e ∷ r.0, r.1, ap (λ (xs : List Edit). e ∷ xs) r.2, (all.0, r.3), r.4)

first_meant : (w : Sourced) (ws : List Sourced) (es : List Edit) → AreMeant (w ∷ ws) es → (e : Edit) × IsMeant w.0 w.1 e
first_meant w ws [] all = absurd all
first_meant w ws (e ∷ es) all = (e, all.0)

-- ---- edits end in one way

module _ (s : ItemStore) (ws : List Sourced) where
  -- one front is the other, and more
  front_meant : (n k : ℕ) (es fs : List Edit) → n ≤ k → AreMeant (take n ws) es → AreMeant (take k ws) fs → (rest : List Edit) × (fs ≡ es ++ rest)
  front_meant n k es fs le a b =
      let whole : take k ws ≡ take n ws ++ take (k - n) (drop n ws) =
      let sum : k ≡ n + (k - n) = omega (arith, le) in ap (λ (m : ℕ). take m ws) sum ∙ take-add n (k - n) ws in
      let r = split_meant (take n ws) (take (k - n) (drop n ws)) fs (subst (λ (vs : List Sourced). AreMeant vs fs) whole b) in
      (r.1, r.2 ∙ ap (λ (xs : List Edit). xs ++ r.1) (same_meant (take n ws) r.0 es r.3 a))

  -- an edit in a front that has a meaning has one
  meant_at : (i k : ℕ) (w : Sourced) (es : List Edit) → i < k → slice_get ws i ≡ Some w → AreMeant (take k ws) es → (e : Edit) × IsMeant w.0 w.1 e
  meant_at i k w es less there all =
      let next : drop i ws ≡ w ∷ drop (i + 1) ws =
      drop_more ws i w (slice_get_within ws i w there) ∙ ap (λ (v : Sourced). v ∷ drop (i + 1) ws) (get_or_from_slice_get ws i w w there) in
      let sum : k ≡ i + suc (k - i - 1) = omega (arith, less) in
      let whole : take k ws ≡ take i ws ++ w ∷ take (k - i - 1) (drop (i + 1) ws) =
      ap (λ (m : ℕ). take m ws) sum ∙ take-add i (suc (k - i - 1)) ws ∙ ap (λ (vs : List Sourced). take i ws ++ take (suc (k - i - 1)) vs) next in
      let r = split_meant (take i ws) (w ∷ take (k - i - 1) (drop (i + 1) ws)) es (subst (λ (vs : List Sourced). AreMeant vs es) whole all) in
      first_meant w (take (k - i - 1) (drop (i + 1) ws)) r.1 r.4

  -- an edit that is refused stops those behind it
  refused_front : (n k : ℕ) (reason : Reason) (es : List Edit) → n ≤ k → AreRefused s ws n reason → AreMeant (take k ws) es → stepped 1 s es ≡ Err (n, reason)
  refused_front n k reason es le refused all =
      let r = front_meant n k refused.meant es le refused.are_meant all in
      ap (λ (xs : List Edit). stepped 1 s xs) r.1 ∙ stopped-append refused.meant r.0 (n, reason) 1 s refused.steps

  not_accepted : (n k : ℕ) (reason : Reason) (after : ItemStore) → n ≤ k → AreRefused s ws n reason → AreAccepted s (take k ws) after → ⊥
  not_accepted n k reason after le refused accepted =
      let stops = refused_front n k reason accepted.meant le refused accepted.are_meant in
      let goes = accepted.steps in
      absurd cc

  refusal_in : (n m : ℕ) (reason other : Reason) → n ≤ m → AreRefused s ws n reason → AreRefused s ws m other
      → answered (Refused n reason) ≡ answered (Refused m other)
  refusal_in n m reason other le a b =
      let stops = sym (refused_front n m reason b.meant le a b.are_meant) ∙ b.steps in
      let same : (n, reason) ≡ (m, other) = cc in
      ap (λ (p : ℕ × Reason). answered (Refused p.0 p.1)) same

  one_refusal : (n m : ℕ) (reason other : Reason) → AreRefused s ws n reason → AreRefused s ws m other
      → answered (Refused n reason) ≡ answered (Refused m other)
  one_refusal n m reason other a b = elim (cases_lt m n) [
    | inl less ↦ sym (refusal_in m n other reason (omega (arith, less)) b a)
    | inr le ↦ refusal_in n m reason other le a b
  ]

  refused_or_unfit : (n m : ℕ) (reason : Reason) (fault : ReadRefusal) → AreRefused s ws n reason → AreUnfit s ws m fault → ⊥
  refused_or_unfit n m reason fault a b = elim (cases_lt b.before n) [
    | inl less ↦ let e = meant_at b.before n b.edit a.meant less b.there a.are_meant in no_meaning b.edit.0 b.edit.1 fault e.0 b.unfit e.1
    | inr le ↦ not_accepted n b.before reason b.after le a b.accepted
  ]

  unfit_before : (n m : ℕ) (fault other : ReadRefusal) (a : AreUnfit s ws n fault) (b : AreUnfit s ws m other) → a.before < b.before → ⊥
  unfit_before n m fault other a b less =
      let e = meant_at a.before b.before a.edit b.accepted.meant less a.there b.accepted.are_meant in
      no_meaning a.edit.0 a.edit.1 fault e.0 a.unfit e.1

  unfit_there : (n m : ℕ) (fault other : ReadRefusal) (a : AreUnfit s ws n fault) (b : AreUnfit s ws m other) → a.before ≡ b.before
      → answered (Unfit n fault) ≡ answered (Unfit m other)
  unfit_there n m fault other a b same =
      let there : slice_get ws a.before ≡ Some b.edit = ap (λ (k : ℕ). slice_get ws k) same ∙ b.there in
      let edit : a.edit ≡ b.edit = let both = sym a.there ∙ there in cc in
      let faults : fault ≡ other = one_fault b.edit.0 b.edit.1 fault other (subst (λ (w : Sourced). IsUnfit w.0 w.1 fault) edit a.unfit) b.unfit in
      let numbers : n ≡ m = a.number ∙ ap (λ (k : ℕ). k + 1) same ∙ sym b.number in
      ap (λ (k : ℕ). answered (Unfit k fault)) numbers ∙ ap (λ (f : ReadRefusal). answered (Unfit m f)) faults

  one_unfit : (n m : ℕ) (fault other : ReadRefusal) → AreUnfit s ws n fault → AreUnfit s ws m other → answered (Unfit n fault) ≡ answered (Unfit m other)
  one_unfit n m fault other a b = elim (cases_lt a.before b.before) [
    | inl less ↦ absurd (unfit_before n m fault other a b less)
    | inr le ↦ elim (cases_lt b.before a.before) [
      | inl less ↦ absurd (unfit_before m n other fault b a less)
      | inr also ↦ unfit_there n m fault other a b (omega (arith, le, also))
    ]
  ]

  all_of : (k : ℕ) (after : ItemStore) → length ws ≤ k → AreAccepted s ws after → AreAccepted s (take k ws) after
  all_of k after le accepted = subst (λ (vs : List Sourced). AreAccepted s vs after) (sym (take_all k ws le)) accepted

  unfit_or_accepted : (n : ℕ) (fault : ReadRefusal) (after : ItemStore) → AreUnfit s ws n fault → AreAccepted s ws after → ⊥
  unfit_or_accepted n fault after a b =
      let all = all_of (length ws) after (omega arith) b in
      let e = meant_at a.before (length ws) a.edit all.meant (slice_get_within ws a.before a.edit a.there) a.there all.are_meant in
      no_meaning a.edit.0 a.edit.1 fault e.0 a.unfit e.1

  refused_or_accepted : (n : ℕ) (reason : Reason) (after : ItemStore) → AreRefused s ws n reason → AreAccepted s ws after → ⊥
  refused_or_accepted n reason after a b = not_accepted n (n + length ws) reason after (omega arith) a (all_of (n + length ws) after (omega arith) b)

  pub one_after : (after other : ItemStore) → AreAccepted s ws after → AreAccepted s ws other → after ≡ other
  one_after after other a b =
      let both : Ok after ≡ Ok other = sym a.steps ∙ ap (λ (es : List Edit). stepped 1 s es) (same_meant ws a.meant b.meant a.are_meant b.are_meant)
      ∙ b.steps in
      cc

-- ---- each thing that is due of a store

one_canon_due : (out : List ℕ) (s : ItemStore) (a b : Due) → IsDueOfCanon out s a → IsDueOfCanon out s b → a ≡ b
one_canon_due out s a b (F, canon, again, e) (G, also, more, f) = e ∙ ap (λ (bytes : List ℕ). made out bytes) (one_canon s F G canon also) ∙ sym f

one_of_edits : (edits : List Sourced) (out : List ℕ) (s : ItemStore) (a b : Due) → IsDueOfEdits edits out s a → IsDueOfEdits edits out s b → a ≡ b
one_of_edits edits out s a b (inl (n, fault, x, e)) (inl (m, other, y, f)) = e ∙ one_unfit s edits n m fault other x y ∙ sym f
one_of_edits edits out s a b (inl (n, fault, x, e)) (inr (inl (m, reason, y, f))) = absurd (refused_or_unfit s edits m n reason fault y x)
one_of_edits edits out s a b (inl (n, fault, x, e)) (inr (inr (after, y, f))) = absurd (unfit_or_accepted s edits n fault after x y)
one_of_edits edits out s a b (inr (inl (n, reason, x, e))) (inl (m, fault, y, f)) = absurd (refused_or_unfit s edits n m reason fault x y)
one_of_edits edits out s a b (inr (inl (n, reason, x, e))) (inr (inl (m, other, y, f))) = e ∙ one_refusal s edits n m reason other x y ∙ sym f
one_of_edits edits out s a b (inr (inl (n, reason, x, e))) (inr (inr (after, y, f))) = absurd (refused_or_accepted s edits n reason after x y)
one_of_edits edits out s a b (inr (inr (after, x, e))) (inl (m, fault, y, f)) = absurd (unfit_or_accepted s edits m fault after y x)
one_of_edits edits out s a b (inr (inr (after, x, e))) (inr (inl (m, reason, y, f))) = absurd (refused_or_accepted s edits m reason after y x)
one_of_edits edits out s a b (inr (inr (after, x, e))) (inr (inr (other, y, f))) =
    one_canon_due out other a b (subst (λ (t : ItemStore). IsDueOfCanon out t a) (one_after s edits after other x y) e) f

one_check : (file : List ℕ) (s : ItemStore) (a b : Due) → IsDueOfCheck file s a → IsDueOfCheck file s b → a ≡ b
one_check file s a b (inl (is, e)) (inl (also, f)) = e ∙ sym f
one_check file s a b (inl (is, e)) (inr (not, f)) = absurd (not is)
one_check file s a b (inr (not, e)) (inl (is, f)) = absurd (not is)
one_check file s a b (inr (not, e)) (inr (also, f)) = e ∙ sym f

-- an item is there under its id
its_id : (is : List Item) (i : Item) → IsIn i is → IsIn i.id (ids_of is)
its_id [] i there = absurd there
its_id (x ∷ xs) i (inl same) = inl (ap (λ (i : Item). i.id) same)
its_id (x ∷ xs) i (inr there) = inr (its_id xs i there)

above : (low : ℕ) (is : List Item) (i : Item) → RisesFrom ◌<◌ low (ids_of is) → IsIn i is → low < i.id
above low [] i rises there = absurd there
above low (x ∷ xs) i rises (inl same) = subst (λ (i : Item). low < i.id) same rises.0
above low (x ∷ xs) i rises (inr there) = let more = above x.id xs i rises.1 there in let less = rises.0 in omega (arith, more, less)

one_item : (low : ℕ) (is : List Item) (i j : Item) → RisesFrom ◌<◌ low (ids_of is) → IsIn i is → IsIn j is → i.id ≡ j.id → i ≡ j
one_item low [] i j rises a b same = absurd a
one_item low (x ∷ xs) i j rises (inl a) (inl b) same = sym a ∙ b
one_item low (x ∷ xs) i j rises (inl a) (inr b) same =
    let less = above x.id xs j rises.1 b in let first = ap (λ (i : Item). i.id) a in absurd (omega (arith, less, first, same))
one_item low (x ∷ xs) i j rises (inr a) (inl b) same =
    let less = above x.id xs i rises.1 a in let first = ap (λ (i : Item). i.id) b in absurd (omega (arith, less, first, same))
one_item low (x ∷ xs) i j rises (inr a) (inr b) same = one_item x.id xs i j rises.1 a b same

one_extract : (id : ℕ) (out : List ℕ) (s : ItemStore) → Valid s → (a b : Due) → IsDueOfExtract id out s a → IsDueOfExtract id out s b → a ≡ b
one_extract id out s valid a b (inl (none, e)) (inl (also, f)) = e ∙ sym f
one_extract id out s valid a b (inl (none, e)) (inr (i, there, is, f)) = absurd (none (subst (λ (n : ℕ). IsIn n (ids_of s.items)) is (its_id s.items i there)))
one_extract id out s valid a b (inr (i, there, is, e)) (inl (none, f)) = absurd (none (subst (λ (n : ℕ). IsIn n (ids_of s.items)) is (its_id s.items i there)))
one_extract id out s valid a b (inr (i, there, is, e)) (inr (j, also, same, f)) =
    e ∙ ap (λ (i : Item). made out i.bytes) (one_item 0 s.items i j valid.ids_rise there also (is ∙ sym same)) ∙ sym f

-- ---- of a file

one_of_file : (Is : ItemStore → Due → Type 0) → ((s : ItemStore) → Valid s → (a b : Due) → Is s a → Is s b → a ≡ b)
    → (file : List ℕ) (a b : Due) → IsDueOfFile Is file a → IsDueOfFile Is file b → a ≡ b
one_of_file Is one file a b (inl (fault, is, e)) (inl (other, also, f)) =
    let same : fault ≡ other = cc in e ∙ ap (λ (fault : ReadRefusal). answered (Unfit 0 fault)) same ∙ sym f
one_of_file Is one file a b (inl (fault, is, e)) (inr (s, opened, due)) = let none = opened.sound in absurd cc
one_of_file Is one file a b (inr (s, opened, due)) (inl (fault, is, e)) = let none = opened.sound in absurd cc
one_of_file Is one file a b (inr (s, opened, due)) (inr (t, also, more)) =
    one t also.denoted.valid a b (subst (λ (s : ItemStore). Is s a) (denotes_one file s t opened.denoted also.denoted) due) more

one_of : (command : Command) (files : Option Files) (a b : Due) → IsDueOf command files a → IsDueOf command files b → a ≡ b
one_of (Boxes input) files a b x y = x ∙ sym y
one_of (ListFile input) files a b x y = one_of_file IsDueOfList (λ s valid a b x y. x ∙ sym y) (bytes_in files input) a b x y
one_of (CheckFile input) files a b x y = one_of_file (IsDueOfCheck (bytes_in files input)) (λ s valid a b x y. one_check (bytes_in files input) s a b x y)
    (bytes_in files input) a b x y
one_of (Extract input id out) files a b x y = one_of_file (IsDueOfExtract id out) (one_extract id out) (bytes_in files input) a b x y
one_of (EditFile input out edits) files a b x y =
    one_of_file (IsDueOfEdits (map (sourced files) edits) out) (λ s valid a b x y. one_of_edits (map (sourced files) edits) out s a b x y)
    (bytes_in files input) a b x y
one_of (Redact input out bare) files a b x y = one_of_file (IsDueOfRedact bare out) (λ s valid a b x y. one_canon_due out _ a b x y)
    (bytes_in files input) a b x y
one_of (Trial seed n out) files a b x y = one_trial seed n out a b x y

one_of_read : (command : Command) (files : Option Files) (r : Readable) (a b : Due) → IsDueOfRead command files r a → IsDueOfRead command files r b → a ≡ b
one_of_read command files Missing a b x y = absurd x
one_of_read command files (Long n) a b x y = x ∙ sym y
one_of_read command files Whole a b x y = one_of command files a b x y

pub one_due : (read : Result Command ℕ) (files : Option Files) (a b : Due) → IsDue read files a → IsDue read files b → a ≡ b
one_due (Err at) files a b x y = x ∙ sym y
one_due (Ok command) files a b x y = one_of_read command files (read_of files (sources_of command)) a b x y
