-- The payload of an `iovl`: ImageOverlay of ISO/IEC 23008-12.
use Rattle.std.specs.Prelude.{◌≡◌, ◌+◌, ◌*◌, ◌<◌, ◌^◌, ℕ, ◌&&◌, List, ◌∷◌, ◌++◌, length, drop, ◌%◌, ◌==◌, nat_le, Option, Some, None, if◌then◌else◌}
use Rattle.hf_base.specs.Number.{num, number}
use Rattle.hf_derived.specs.Derived.{side}
use Rattle.hf_derived.specs.declared.overlay.Overlay.{Overlay}

-- the bytes begin with the payload of this overlay of so many inputs: version 0; four fill values of two bytes; width,
-- height, and two offsets for each input, of four bytes where flag bit 0 is set and of two otherwise. The other flags,
-- the fill values and offsets, and what follows, are free
pub record IsOverlay (bytes : List ℕ) (inputs : ℕ) (overlay : Overlay) : Type 0 where
  pub flags : ℕ
  pub fill : List ℕ
  pub offsets : List ℕ
  pub rest : List ℕ
  pub is : bytes
      ≡ num 0 1  -- version
      ++ (num flags 1  -- flags
      ++ (fill  -- canvas_fill_value
      ++ (num overlay.width (side flags)  -- output_width
      ++ (num overlay.height (side flags)  -- output_height
      ++ (offsets  -- horizontal_offset and vertical_offset of each input
      ++ rest)))))
  pub flags_fit : flags < 256 ^ 1
  pub long : overlay.long ≡ (flags % 2 == 1)
  pub fill_size : length fill ≡ 8
  pub width_fits : overlay.width < 256 ^ side flags
  pub height_fits : overlay.height < 256 ^ side flags
  pub offsets_size : length offsets ≡ inputs * (2 * side flags)

-- the overlay of so many inputs that bytes begin with, read from left to right
unfoldable pub overlay_at : ℕ → List ℕ → Option Overlay
overlay_at inputs (version ∷ flags ∷ rest) =
    if (version == 0) && nat_le (8 + 2 * side flags + inputs * (2 * side flags)) (length rest) then Some (record {
      long = flags % 2 == 1;
      width = number (side flags) (drop 8 rest);
      height = number (side flags) (drop (8 + side flags) rest);
    })
    else None
overlay_at inputs _ = None

-- the payload as it is written, with these bytes of the fill values and of the offsets
unfoldable pub overlay_body : Overlay → List ℕ → List ℕ → List ℕ
overlay_body overlay fill offsets =
    num 0 1  -- version
    ++ (num (if overlay.long then 1 else 0) 1  -- flags
    ++ (fill  -- canvas_fill_value
    ++ (num overlay.width (if overlay.long then 4 else 2)  -- output_width
    ++ (num overlay.height (if overlay.long then 4 else 2)  -- output_height
    ++ offsets))))  -- horizontal_offset and vertical_offset of each input

-- the values that such a payload can hold: sides that fit their bytes, four fill values, and two offsets for each input
pub record IsOverlayOf (inputs : ℕ) (overlay : Overlay) (fill offsets : List ℕ) : Type 0 where
  pub fill_size : length fill ≡ 8
  pub width : overlay.width < 256 ^ (if overlay.long then 4 else 2)
  pub height : overlay.height < 256 ^ (if overlay.long then 4 else 2)
  pub offsets_size : length offsets ≡ inputs * (2 * (if overlay.long then 4 else 2))
