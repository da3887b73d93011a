-- The payload of a `grid`: ImageGrid of ISO/IEC 23008-12.
use Rattle.std.specs.Prelude.{◌≡◌, ◌*◌, ◌-◌, ◌<◌, ◌^◌, ℕ, suc, Bool, ◌&&◌, List, ◌∷◌, ◌++◌, length, drop, ◌==◌, nat_le, Option, Some, None, if◌then◌else◌}
use Rattle.hf_base.specs.Number.{num, number}
use Rattle.hf_derived.specs.Derived.{side}
use Rattle.hf_derived.specs.declared.grid.Grid.{Grid}

-- the bytes begin with the payload of this grid: version 0; rows and columns less one; width and height of four bytes
-- where flag bit 0 is set, and of two otherwise. The other flags, and what follows, are free
pub record IsGrid (bytes : List ℕ) (grid : Grid) : Type 0 where
  pub flags : ℕ
  pub rows_minus_one : ℕ
  pub columns_minus_one : ℕ
  pub rest : List ℕ
  pub is : bytes
      ≡ num 0 1  -- version
      ++ (num flags 1  -- flags
      ++ (num rows_minus_one 1  -- rows_minus_one
      ++ (num columns_minus_one 1  -- columns_minus_one
      ++ (num grid.width (side flags)  -- output_width
      ++ (num grid.height (side flags)  -- output_height
      ++ rest)))))
  pub flags_fit : flags < 256 ^ 1
  pub rows_fit : rows_minus_one < 256 ^ 1
  pub rows : grid.rows ≡ suc rows_minus_one
  pub columns_fit : columns_minus_one < 256 ^ 1
  pub columns : grid.columns ≡ suc columns_minus_one
  pub width_fits : grid.width < 256 ^ side flags
  pub height_fits : grid.height < 256 ^ side flags

-- the grid that bytes begin with, read from left to right
unfoldable pub grid_at : List ℕ → Option Grid
grid_at (version ∷ flags ∷ rows ∷ columns ∷ rest) =
    if (version == 0) && nat_le (2 * side flags) (length rest) then Some (record {
      rows = suc rows;
      columns = suc columns;
      width = number (side flags) rest;
      height = number (side flags) (drop (side flags) rest);
    })
    else None
grid_at _ = None

-- the payload as it is written: width and height take four bytes where it is long, and two otherwise
unfoldable pub grid_body : Bool → Grid → List ℕ
grid_body long grid =
    num 0 1  -- version
    ++ (num (if long then 1 else 0) 1  -- flags
    ++ (num (grid.rows - 1) 1  -- rows_minus_one
    ++ (num (grid.columns - 1) 1  -- columns_minus_one
    ++ (num grid.width (if long then 4 else 2)  -- output_width
    ++ num grid.height (if long then 4 else 2)))))  -- output_height

-- the values that such a payload can hold: 1 to 256 rows and columns, and sides that fit their bytes
pub record IsGridOf (long : Bool) (grid : Grid) : Type 0 where
  pub some_rows : 0 < grid.rows
  pub rows : grid.rows - 1 < 256 ^ 1
  pub some_columns : 0 < grid.columns
  pub columns : grid.columns - 1 < 256 ^ 1
  pub width : grid.width < 256 ^ (if long then 4 else 2)
  pub height : grid.height < 256 ^ (if long then 4 else 2)
