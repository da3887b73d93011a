-- One entry more, as the loop reads it.
use Rattle.std.proofs.Common.{◌≡◌, ℕ, suc, List, [], ◌∷◌, ◌++◌, Result, Ok, Err, refl, sym, ap, ◌∙◌}
use Rattle.hf_base.specs.declared.fault.OpenFault.{OpenFault}
use Rattle.hf_base.specs.declared.fault.OpenFault.TheVariants.{Unfit, NoMemory}
use Rattle.hf_base.specs.declared.fault.ReadRefusal.{ReadRefusal}
use Rattle.hf_base.specs.declared.fault.ReadRefusal.TheVariants.{DoubleAssoc}
use Rattle.hf_base.specs.Reading.{Fails}
use Rattle.hf_base.specs.Entries.{has_id, refuse_if, entries_from}
use Rattle.hf_base.specs.EntryLaws.{entry_more, entry_stops}
use Rattle.hf_prop.specs.declared.assoc.Assoc.{Assoc}
use Rattle.hf_prop.specs.Ipma.{assoc_ids, assoc_rows, assoc_at, entry_at}

module _ (most at rows width w : ℕ) (earlier : List Assoc) (bytes : List ℕ) (counted : rows ≡ assoc_rows earlier) (m n : ℕ) (left : m ≡ suc n) (total : Result (List Assoc × List ℕ) ReadRefusal) (so_far : entries_from (entry_at most at width w) earlier m bytes ≡ total) where
  -- it is read, and its id is new
  pub goes_on : (a : Assoc) (after : List ℕ) (x : Unit {0}) → assoc_at most at rows width w bytes ≡ Ok (a, after) → refuse_if (has_id a.item (assoc_ids earlier)) (DoubleAssoc a.item) ≡ Ok x → entries_from (entry_at most at width w) (earlier ++ a ∷ []) n after ≡ total
  unfolding entry_at
  goes_on a after x read new =
      let one : entry_at most at width w earlier bytes ≡ Ok (a, after) = rw (← counted, read, new) refl in
      sym (entry_more (entry_at most at width w) earlier n bytes a after one) ∙ ap (λ (k : ℕ). entries_from (entry_at most at width w) earlier k bytes) (sym left) ∙ so_far

  -- it is not read
  stops : (e : ReadRefusal) → assoc_at most at rows width w bytes ≡ Err e → total ≡ Err e
  unfolding entry_at
  stops e read =
      let one : entry_at most at width w earlier bytes ≡ Err e = rw (← counted, read) refl in
      sym so_far ∙ ap (λ (k : ℕ). entries_from (entry_at most at width w) earlier k bytes) left ∙ entry_stops (entry_at most at width w) earlier n bytes e one

  -- an earlier one has its id
  doubles : (a : Assoc) (after : List ℕ) (e : ReadRefusal) → assoc_at most at rows width w bytes ≡ Ok (a, after) → refuse_if (has_id a.item (assoc_ids earlier)) (DoubleAssoc a.item) ≡ Err e → total ≡ Err e
  unfolding entry_at
  doubles a after e read old =
      let one : entry_at most at width w earlier bytes ≡ Err e = rw (← counted, read, old) refl in
      sym so_far ∙ ap (λ (k : ℕ). entries_from (entry_at most at width w) earlier k bytes) left ∙ entry_stops (entry_at most at width w) earlier n bytes e one

  -- the same, with want of memory
  pub stops_short : (e : OpenFault) → Fails e (assoc_at most at rows width w bytes) → Fails e total
  stops_short NoMemory read = tt
  stops_short (Unfit e) read = stops e read

  pub doubles_short : (a : Assoc) (after : List ℕ) (e : OpenFault) → assoc_at most at rows width w bytes ≡ Ok (a, after) → Fails e (refuse_if (has_id a.item (assoc_ids earlier)) (DoubleAssoc a.item)) → Fails e total
  doubles_short a after NoMemory read old = tt
  doubles_short a after (Unfit e) read old = doubles a after e read old

-- none is left
pub is_done : (most at width w : ℕ) (earlier : List Assoc) (m : ℕ) (bytes : List ℕ) (total : Result (List Assoc × List ℕ) ReadRefusal) → m ≡ 0 → entries_from (entry_at most at width w) earlier m bytes ≡ total → total ≡ Ok (earlier, bytes)
unfolding entries_from
is_done most at width w earlier m bytes total none so_far = sym so_far ∙ rw none refl
