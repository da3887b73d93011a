-- The boxes of one type in a list of boxes, and tables whose entries are boxes.
use Rattle.std.specs.Prelude.{List, [], ◌∷◌, filter, Result, Ok}
use Rattle.hf_base.specs.Reading.{◌>>=◌}
use Rattle.hf_base.specs.declared.four.FourCc.{FourCc}
use Rattle.hf_base.specs.declared.fault.ReadRefusal.{ReadRefusal}
use Rattle.hf_box.specs.Boxes.{BoxAt}
use Rattle.hf_box.specs.Walk.{is_kind}

-- the boxes of one type, in order
abbrev pub of_kind : FourCc → List BoxAt → List BoxAt
of_kind kind boxes = filter (λ (b : BoxAt). is_kind b.kind kind) boxes

-- what was read, and what each of these boxes adds to it
unfoldable pub boxes_from : {A : Type 0} → (List A → BoxAt → Result (List A) ReadRefusal) → List A → List BoxAt → Result (List A) ReadRefusal
boxes_from read earlier [] = Ok earlier
boxes_from read earlier (b ∷ bs) = do
  more ← read earlier b
  boxes_from read more bs
