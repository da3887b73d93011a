-- Boxes that are written one behind the other, and ids that are written so.
use Rattle.std.proofs.Common.{◌≡◌, ℕ, suc, ◌+◌, ◌*◌, ◌^◌, ◌<◌, false, List, [], ◌∷◌, length, length-append, refl, ap, arith}
use Rattle.std.specs.List.{AllByRecursion, AllZip, flat_map}
use Rattle.std.proofs.lemmas.List.Concat.{flat_map-cons}
use Rattle.hf_base.specs.Number.{num}
use Rattle.hf_base.specs.NumberLaws.{length-num}
use Rattle.hf_base.specs.Entries.{AreTexts, IsNum}
use Rattle.hf_base.specs.declared.four.FourCc.{FourCc}
use Rattle.hf_box.specs.Boxes.{BoxAt, IsBoxes}
use Rattle.hf_box.specs.Head.{box, written_at}
use Rattle.hf_box.proofs.HeadLemmas.{boxes-written}

-- ids that are written one behind the other are texts of them
pub ids_written : (width : ℕ) (ids : List ℕ) → AllByRecursion (λ id. id < 256 ^ width) ids → AreTexts (IsNum width) (flat_map (λ id. num id width) ids) ids
ids_written width [] fit = refl
ids_written width (id ∷ ids) fit = (num id width, flat_map (λ i. num i width) ids, flat_map-cons (λ i. num i width) id ids, (fit.0, refl), ids_written width ids fit.1)

pub length-ids : (width : ℕ) (ids : List ℕ) → length (flat_map (λ id. num id width) ids) ≡ length ids * width
length-ids width [] = grind arith
length-ids width (id ∷ ids) =
    let first = length-num width id in
    let more = length-ids width ids in
    rw (flat_map-cons (λ i. num i width) id ids, length-append (num id width) (flat_map (λ i. num i width) ids)) (grind arith)

module _ {A : Type 0} (kind : A → FourCc) (body : A → List ℕ) where
  abbrev text : A → List ℕ
  text x = box (kind x) (body x)

  -- the boxes of these values, from a place on
  pub placed : ℕ → List A → List BoxAt
  placed place [] = []
  placed place (x ∷ xs) = written_at place (kind x) (body x) ∷ placed (place + length (text x)) xs

  -- a box of this type has a size
  abbrev pub HasSize : A → Type 0
  HasSize x = (length (kind x).0 ≡ 4) × (16 + length (body x) < 256 ^ 8)

  pub placed-framed : (place : ℕ) (xs : List A) → AllByRecursion HasSize xs → IsBoxes (flat_map text xs) place false (placed place xs)
  unfolding placed
  placed-framed place [] sized = refl
  placed-framed place (x ∷ xs) sized =
      boxes-written (flat_map text (x ∷ xs)) place false (kind x) (body x) (flat_map text xs) (placed (place + length (text x)) xs) (flat_map-cons text x xs) sized.0.0 sized.0.1 (placed-framed (place + length (text x)) xs sized.1)

  pub placed-each : (Is : BoxAt → A → Type 0) (Fits : A → Type 0) → ((place : ℕ) (x : A) → Fits x → Is (written_at place (kind x) (body x)) x)
      → (place : ℕ) (xs : List A) → AllByRecursion Fits xs → AllZip Is (placed place xs) xs
  unfolding placed
  placed-each Is Fits one place [] fit = tt
  placed-each Is Fits one place (x ∷ xs) fit = (one place x fit.0, placed-each Is Fits one (place + length (text x)) xs fit.1)

  pub length-placed : (place : ℕ) (xs : List A) → length (placed place xs) ≡ length xs
  unfolding placed
  length-placed place [] = refl
  length-placed place (x ∷ xs) = ap suc (length-placed (place + length (text x)) xs)
