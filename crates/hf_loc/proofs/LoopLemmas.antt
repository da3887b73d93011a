-- One entry more, as the loop reads it.
use Rattle.std.proofs.Common.{◌≡◌, ℕ, suc, List, [], ◌∷◌, ◌++◌, Result, Ok, Err, refl, sym, ap, ◌∙◌}
use Rattle.hf_base.specs.declared.fault.OpenFault.{OpenFault}
use Rattle.hf_base.specs.declared.fault.OpenFault.TheVariants.{Unfit, NoMemory}
use Rattle.hf_base.specs.declared.fault.ReadRefusal.{ReadRefusal}
use Rattle.hf_base.specs.declared.fault.ReadRefusal.TheVariants.{DoubleLocation}
use Rattle.hf_base.specs.declared.loc.Loc.{Loc}
use Rattle.hf_base.specs.Reading.{Fails}
use Rattle.hf_base.specs.Entries.{has_id, refuse_if, entries_from}
use Rattle.hf_base.specs.EntryLaws.{entry_more, entry_stops}
use Rattle.hf_loc.specs.Iloc.{Widths, loc_ids, loc_rows, loc_at, entry_at}

module _ (most at rows : ℕ) (w : Widths) (earlier : List Loc) (bytes : List ℕ) (counted : rows ≡ loc_rows earlier) (m n : ℕ) (left : m ≡ suc n) (total : Result (List Loc × List ℕ) ReadRefusal) (so_far : entries_from (entry_at most at w) earlier m bytes ≡ total) where
  -- it is read, and its id is new
  pub goes_on : (l : Loc) (after : List ℕ) (x : Unit {0}) → loc_at most at rows w bytes ≡ Ok (l, after) → refuse_if (has_id l.id (loc_ids earlier)) (DoubleLocation l.id) ≡ Ok x → entries_from (entry_at most at w) (earlier ++ l ∷ []) n after ≡ total
  unfolding entry_at
  goes_on l after x read new =
      let one : entry_at most at w earlier bytes ≡ Ok (l, after) = rw (← counted, read, new) refl in
      sym (entry_more (entry_at most at w) earlier n bytes l after one) ∙ ap (λ (k : ℕ). entries_from (entry_at most at w) earlier k bytes) (sym left) ∙ so_far

  -- it is not read
  stops : (e : ReadRefusal) → loc_at most at rows w bytes ≡ Err e → total ≡ Err e
  unfolding entry_at
  stops e read =
      let one : entry_at most at w earlier bytes ≡ Err e = rw (← counted, read) refl in
      sym so_far ∙ ap (λ (k : ℕ). entries_from (entry_at most at w) earlier k bytes) left ∙ entry_stops (entry_at most at w) earlier n bytes e one

  -- an earlier one has its id
  doubles : (l : Loc) (after : List ℕ) (e : ReadRefusal) → loc_at most at rows w bytes ≡ Ok (l, after) → refuse_if (has_id l.id (loc_ids earlier)) (DoubleLocation l.id) ≡ Err e → total ≡ Err e
  unfolding entry_at
  doubles l after e read old =
      let one : entry_at most at w earlier bytes ≡ Err e = rw (← counted, read, old) refl in
      sym so_far ∙ ap (λ (k : ℕ). entries_from (entry_at most at w) earlier k bytes) left ∙ entry_stops (entry_at most at w) earlier n bytes e one

  -- the same, with want of memory
  pub stops_short : (e : OpenFault) → Fails e (loc_at most at rows w bytes) → Fails e total
  stops_short NoMemory read = tt
  stops_short (Unfit e) read = stops e read

  pub doubles_short : (l : Loc) (after : List ℕ) (e : OpenFault) → loc_at most at rows w bytes ≡ Ok (l, after) → Fails e (refuse_if (has_id l.id (loc_ids earlier)) (DoubleLocation l.id)) → Fails e total
  doubles_short l after NoMemory read old = tt
  doubles_short l after (Unfit e) read old = doubles l after e read old

-- none is left
pub is_done : (most at : ℕ) (w : Widths) (earlier : List Loc) (m : ℕ) (bytes : List ℕ) (total : Result (List Loc × List ℕ) ReadRefusal) → m ≡ 0 → entries_from (entry_at most at w) earlier m bytes ≡ total → total ≡ Ok (earlier, bytes)
unfolding entries_from
is_done most at w earlier m bytes total none so_far = sym so_far ∙ rw none refl
