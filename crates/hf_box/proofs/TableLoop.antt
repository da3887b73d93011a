-- A table whose entries are boxes, read as a loop does that takes them from the front.
use Rattle.std.proofs.Common.{◌≡◌, List, [], ◌∷◌, Result, Ok, Err, refl, sym, ◌∙◌}
use Rattle.hf_base.specs.declared.fault.ReadRefusal.{ReadRefusal}
use Rattle.hf_base.specs.declared.fault.OpenFault.{OpenFault}
use Rattle.hf_base.specs.declared.fault.OpenFault.TheVariants as errors
use Rattle.hf_base.specs.Reading.{Fails, Gives}
use Rattle.hf_box.specs.Boxes.{BoxAt}
use Rattle.hf_box.specs.Tables.{boxes_from}
use Rattle.hf_box.proofs.TableLaws.{BoxReader}

module _ {A : Type 0} (read : BoxReader A) (earlier : List A) (boxes : List BoxAt) (total : Result (List A) ReadRefusal) where
  -- these boxes are still read
  abbrev pub IsLeft : Type 0
  IsLeft = boxes_from read earlier boxes ≡ total

  -- one more was read
  pub box_more : (b : BoxAt) (after : List BoxAt) (more : List A) → boxes ≡ b ∷ after → read earlier b ≡ Ok more → IsLeft → boxes_from read more after ≡ total
  unfolding boxes_from
  box_more b after more taken h so_far =
      let one : boxes_from read earlier boxes ≡ boxes_from read more after = rw (taken, h) refl in
      sym one ∙ so_far

  -- one was not read
  pub box_stops : (b : BoxAt) (after : List BoxAt) (fault : OpenFault) → boxes ≡ b ∷ after → Fails fault (read earlier b) → IsLeft → Fails fault total
  unfolding boxes_from
  box_stops b after errors.NoMemory taken h so_far = tt
  box_stops b after (errors.Unfit e) taken h so_far =
      let one : boxes_from read earlier boxes ≡ Err e = rw (taken, h) refl in
      sym so_far ∙ one

  -- none is left
  pub boxes_done : boxes ≡ [] → IsLeft → total ≡ Ok earlier
  unfolding boxes_from
  boxes_done none so_far =
      let one : boxes_from read earlier boxes ≡ Ok earlier = rw none refl in
      sym so_far ∙ one

-- the exit of a `?`
pub gives_fault : {X Y : Type 0} (view : X → Y) (r : Result X OpenFault) (e fault : OpenFault) (total : Result Y ReadRefusal) → r ≡ Err e → e ≡ fault → Fails fault total → Gives view r total
gives_fault view r e fault total is same h = rw (is, same) h
