-- Entries that are written are read.
use Rattle.std.proofs.Common.{◌≡◌, ◌≤◌, ℕ, ◌+◌, ◌<◌, ◌^◌, Bool, true, false, List, [], ◌∷◌, length, refl, sym, ap, subst, append_assoc, arith, inl, inr}
use Rattle.std.specs.Prelude.{IsTrue}
use Rattle.std.specs.List.{AllZip, AllByRecursion, flat_map}
use Rattle.std.proofs.lemmas.List.Concat.{flat_map-cons}
use Rattle.hf_base.specs.declared.kinds.TheConstants.{IINF, INFE}
use Rattle.hf_base.specs.declared.limits.TheConstants.{BOXES}
use Rattle.hf_base.specs.Number.{num}
use Rattle.hf_base.specs.Reading.{full}
use Rattle.hf_base.specs.Entries.{are_distinct, IsIdWidth}
use Rattle.hf_box.specs.Boxes.{BoxAt, IsBoxes}
use Rattle.hf_box.specs.Head.{written_at}
use Rattle.hf_box.specs.Tables.{of_kind}
use Rattle.hf_box.specs.Written.{id_width, id_version}
use Rattle.hf_box.proofs.HeadLemmas.{boxes-written}
use Rattle.hf_info.specs.Infe.{Info, IsWritable, infe_body, infe_box}
use Rattle.hf_info.specs.Iinf.{info_ids, IsInfeBox, IsIinf, IsIinfWithin, iinf_body}
use Rattle.hf_info.proofs.InfeWritten.{infe_written}

-- the boxes of these entries, from a place on
abbrev placed : Bool → ℕ → List Info → List BoxAt
placed wide place [] = []
placed wide place (i ∷ is) = written_at place INFE (infe_body wide i) ∷ placed wide (place + length (infe_box wide i)) is

placed-length : (wide : Bool) (place : ℕ) (infos : List Info) → length (placed wide place infos) ≡ length infos
placed-length wide place [] = refl
placed-length wide place (i ∷ is) = let more = placed-length wide (place + length (infe_box wide i)) is in omega (arith, more)

placed-framed : (wide : Bool) (place : ℕ) (infos : List Info) → AllByRecursion (IsWritable wide) infos → IsBoxes (flat_map (infe_box wide) infos) place false (placed wide place infos)
placed-framed wide place [] each = refl
placed-framed wide place (i ∷ is) each =
    let more = placed-framed wide (place + length (infe_box wide i)) is each.1 in
    boxes-written (flat_map (infe_box wide) (i ∷ is)) place false INFE (infe_body wide i) (flat_map (infe_box wide) is) (placed wide (place + length (infe_box wide i)) is) (flat_map-cons (infe_box wide) i is) refl each.0.size more

placed-kinds : (wide : Bool) (place : ℕ) (infos : List Info) → of_kind INFE (placed wide place infos) ≡ placed wide place infos
placed-kinds wide place [] = refl
placed-kinds wide place (i ∷ is) = ap (λ (l : List BoxAt). written_at place INFE (infe_body wide i) ∷ l) (placed-kinds wide (place + length (infe_box wide i)) is)

placed-entries : (wide : Bool) (place : ℕ) (infos : List Info) → AllByRecursion (IsWritable wide) infos → AllZip IsInfeBox (placed wide place infos) infos
placed-entries wide place [] each = tt
placed-entries wide place (i ∷ is) each = (infe_written wide i each.0.good each.0.id_fits, placed-entries wide (place + length (infe_box wide i)) is each.1)

versions : (wide : Bool) → IsIdWidth 0 (id_version wide) (id_width wide)
versions true = inr (refl, refl)
versions false = inl (refl, refl)

pub iinf_written : (wide : Bool) (place head : ℕ) (infos : List Info) → AllByRecursion (IsWritable wide) infos → IsTrue (are_distinct (info_ids infos)) → length infos < 256 ^ id_width wide → length infos ≤ BOXES
    → IsIinfWithin (record { kind = IINF; at = place; head = head; body = iinf_body wide infos }) infos
unfolding iinf_body
iinf_written wide place head infos each distinct count few =
    let origin = place + head + 4 + id_width wide in
    let boxes = placed wide origin infos in
    let b : BoxAt = record { kind = IINF; at = place; head = head; body = iinf_body wide infos } in
    let stands : IsIinf b infos = record {
      version = id_version wide;
      flags = 0;
      flags_fit = omega arith;
      width = id_width wide;
      versioned = versions wide;
      count_fits = count;
      inner = flat_map (infe_box wide) infos;
      is = append_assoc (full (id_version wide) 0) (num (length infos) (id_width wide)) (flat_map (infe_box wide) infos);
      boxes = boxes;
      framed = placed-framed wide origin infos each;
      entries = subst (λ (l : List BoxAt). AllZip IsInfeBox l infos) (sym (placed-kinds wide origin infos)) (placed-entries wide origin infos each);
      distinct = distinct;
    } in
    (stands, omega (arith, placed-length wide origin infos, few))
