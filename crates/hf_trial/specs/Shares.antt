-- The parts of the bytes that a trial is made of.
use Rattle.std.specs.Prelude.{ℕ, ◌≡◌, List, ◌++◌, length}
use Rattle.hf_trial.specs.declared.shares.Shares.{Shares}

-- these are the bytes behind those of the tiles
abbrev pub tail_of : Shares → List ℕ
tail_of s = s.grid.now ++ s.exif.now ++ s.hvcc.now ++ s.tile_ispe.now ++ s.grid_ispe.now

-- the bytes are these shares, one behind the other, and all but the first have the lengths that those of a trial have
pub record AreShares (s : Shares) (bytes : List ℕ) : Type 0 where
  pub whole : bytes ≡ s.tiles.now ++ tail_of s
  pub grid : length s.grid.now ≡ 8
  pub exif : length s.exif.now ≡ 20
  pub hvcc : length s.hvcc.now ≡ 4
  pub tile_ispe : length s.tile_ispe.now ≡ 12
  pub grid_ispe : length s.grid_ispe.now ≡ 12
