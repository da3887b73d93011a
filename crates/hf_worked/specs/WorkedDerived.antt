-- A worked walk along inputs.
use Rattle.std.specs.Prelude.{ℕ, zero, suc}

-- from 1 to 2 and back, and so on
abbrev pub there_and_back : ℕ → ℕ
there_and_back zero = 1
there_and_back (suc zero) = 2
there_and_back (suc (suc n)) = there_and_back n
