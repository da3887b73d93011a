-- What a desk counts of its reads. This is this project's own rule.
use Rattle.std.specs.Prelude.{ℕ, ◌+◌, ◌≤◌, max, Result, Ok, Err}

-- Each count is at most what there was; a desk may leave out some.
pub record ReadCounts : Type 0 where
  -- how many reads there were
  pub calls : ℕ
  -- how many bytes they gave
  pub given : ℕ
  -- how far into a file one of them asked, in bytes from its front
  pub reach : ℕ

-- how many bytes a read gave
abbrev pub given_by : {E : Type 0} → Result ℕ E → ℕ
given_by (Ok n) = n
given_by (Err e) = 0

-- One read is counted, which asked for bytes up to this place.
pub record CountsRead {E : Type 0} (old : ReadCounts) (place : ℕ) (result : Result ℕ E) (new : ReadCounts) : Type 0 where
  pub calls : new.calls ≤ old.calls + 1
  pub given : new.given ≤ old.given + given_by result
  pub reach : new.reach ≤ max old.reach place

-- Reads took at most n bytes, asked for none behind the first n of a file, and were at most n: so each took one byte at
-- least, but for one that found the end or failed.
pub record TakesAtMost (n : ℕ) (old new : ReadCounts) : Type 0 where
  pub calls : new.calls ≤ old.calls + n
  pub given : new.given ≤ old.given + n
  pub reach : new.reach ≤ max old.reach n
