-- The rows of the worked file, by computation.
use Rattle.std.proofs.Common.{◌≡◌, ℕ, zero, suc, Bool, true, ◌&&◌, ltb, List, [], ◌∷◌, length, Ok, refl, arith}
use Rattle.std.proofs.lemmas.Bool.{and_parts, ltb-true}
use Rattle.hf_base.specs.Number.{IsBytes, number}
use Rattle.hf_box.specs.Framing.{cut, box_at, frames_within}
use Rattle.hf_box.specs.Walk.{IsWalk, children_at, rows_of, walk_at}
use Rattle.hf_box.specs.Worked.{worked_file, worked_rows}
use Rattle.hf_box.proofs.WalkLaws.{walk_spells}

abbrev pub are_bytes : List ℕ → Bool
are_bytes [] = true
are_bytes (x ∷ xs) = ltb x 256 && are_bytes xs

-- bytes by a test that computes
pub IsBytes-tested : (xs : List ℕ) → are_bytes xs ≡ true → IsBytes xs
IsBytes-tested [] e i = omega arith
IsBytes-tested (x ∷ xs) e zero = ltb-true x 256 (and_parts (ltb x 256) (are_bytes xs) e).0
IsBytes-tested (x ∷ xs) e (suc i) = IsBytes-tested xs (and_parts (ltb x 256) (are_bytes xs) e).1 i

pub IsBytes-worked_file : IsBytes worked_file
unfolding worked_file
IsBytes-worked_file = IsBytes-tested worked_file refl

pub length-worked_file : length worked_file ≡ 193
unfolding worked_file
length-worked_file = refl

pub walk_at-worked_file : walk_at worked_file ≡ Ok worked_rows
unfolding worked_file worked_rows walk_at rows_of children_at frames_within box_at cut number
walk_at-worked_file = refl

pub IsWalk-worked_file : IsWalk worked_file worked_rows
IsWalk-worked_file = walk_spells worked_file worked_rows IsBytes-worked_file walk_at-worked_file
