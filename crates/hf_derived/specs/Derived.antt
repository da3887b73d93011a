-- Derived items (ISO/IEC 23008-12): whether their payload fits what they are made of.
use Rattle.std.specs.Prelude.{ℕ, suc, ◌+◌, ◌*◌, ◌%◌, Bool, true, false, ◌&&◌, List, ◌∷◌, length, ◌==◌, nat_le, if◌then◌else◌}
use Rattle.hf_base.specs.declared.four.FourCc.{FourCc}
use Rattle.hf_box.specs.Walk.{is_kind}
use Rattle.hf_box.specs.Literals.{four}

-- bytes of a width, height or offset in a payload: four where flag 1 is set
abbrev pub side : ℕ → ℕ
side flags = if flags % 2 == 1 then 4 else 2

-- ImageGrid of ISO/IEC 23008-12: version 0, flags, rows and columns less one, width, height; as many inputs as cells
abbrev pub fits_grid : List ℕ → ℕ → Bool
fits_grid (version ∷ flags ∷ rows ∷ columns ∷ rest) count =
    (version == 0) && (suc rows * suc columns == count) && nat_le (2 * side flags) (length rest)
fits_grid _ count = false

-- ImageOverlay of ISO/IEC 23008-12: version 0, flags, four fill values of two bytes, width, height, and two offsets for
-- each input
abbrev pub fits_overlay : List ℕ → ℕ → Bool
fits_overlay (version ∷ flags ∷ rest) count = (version == 0) && nat_le (8 + 2 * side flags + count * (2 * side flags)) (length rest)
fits_overlay _ count = false

-- the bytes of an item of this type fit so many inputs; `iden` has one, and other types are not looked at
abbrev pub fits : FourCc → List ℕ → ℕ → Bool
fits kind bytes count =
    if is_kind kind (four "grid") then fits_grid bytes count
    else (if is_kind kind (four "iovl") then fits_overlay bytes count
    else (if is_kind kind (four "iden") then count == 1 else true))
