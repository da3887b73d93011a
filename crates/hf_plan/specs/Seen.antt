-- What a plan of the code stands for.
use Rattle.std.specs.Prelude.{ℕ, ◌-◌, List, [], ◌∷◌, take, drop}
use Rattle.hf_plan.specs.Plan.{Planned}
use Rattle.hf_plan.specs.declared.planned.Plan.TheInside.{Inside}

-- the pieces of a list that begin at these places, each up to the next one
abbrev pub pieces_at : List ℕ → List ℕ → List (List ℕ)
pieces_at [] xs = []
pieces_at (begin ∷ []) xs = drop begin xs ∷ []
pieces_at (begin ∷ end ∷ later) xs = take (end - begin) (drop begin xs) ∷ pieces_at (end ∷ later) xs

abbrev pub planned_of : Inside → Planned
planned_of p = record {
  wide = p.wide;
  long = p.long;
  total = p.total;
  starts = p.starts.items;
  sizes = p.sizes;
  firsts = p.table.firsts.items;
  numbers = pieces_at p.table.starts.items p.table.numbers.items;
}
