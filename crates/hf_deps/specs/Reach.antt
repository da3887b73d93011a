-- What is reached along pairs of numbers: the first one of a pair is reached from the second one. This is the project's own.
use Rattle.std.specs.Prelude.{ℕ, zero, suc, ◌≡◌, ◌⊎◌, ◌+◌, ◌≤◌, Bool, not, ◌||◌, List, [], ◌∷◌, ◌++◌, length, map, filter, take, count_by}
use Rattle.hf_base.specs.Members.{IsIn}
use Rattle.hf_table.specs.Held.{is_among}

-- what is reached from one of these is one of them
abbrev pub IsClosed : List (ℕ × ℕ) → List ℕ → Type 0
IsClosed pairs ids = (a b : ℕ) → IsIn a ids → IsIn (b, a) pairs → IsIn b ids

-- the first of each pair is one of all
abbrev pub HasEnds : List ℕ → List (ℕ × ℕ) → Type 0
HasEnds all pairs = (a b : ℕ) → IsIn (b, a) pairs → IsIn b all

-- what is reached from the first, along no pair or many: it is closed, and each set that has the first and is closed has it
pub record IsReached (pairs : List (ℕ × ℕ)) (first : ℕ) (ids : List ℕ) : Type 0 where
  pub starts : IsIn first ids
  pub closed : IsClosed pairs ids
  pub least : (set : List ℕ) → IsIn first set → IsClosed pairs set → (id : ℕ) → IsIn id ids → IsIn id set

-- what is reached from one of these by one pair
abbrev pub reached_from : List (ℕ × ℕ) → List ℕ → List ℕ
reached_from pairs ids = map (λ (pair : ℕ × ℕ). pair.0) (filter (λ (pair : ℕ × ℕ). is_among ids pair.1) pairs)

-- those of all that are some of these or of those
abbrev pub among_either : List ℕ → List ℕ → List ℕ → List ℕ
among_either all these those = filter (λ id. is_among these id || is_among those id) all

-- so many times over, what is reached from them comes to these
unfoldable pub grown : List (ℕ × ℕ) → List ℕ → ℕ → List ℕ → List ℕ
grown pairs all zero ids = ids
grown pairs all (suc n) ids = grown pairs all n (among_either all ids (reached_from pairs ids))

-- ---- as the code goes along

-- of all, those are marked that are reached; the others, counted, are the rest
pub record AreMarked (all : List ℕ) (marks : List Bool) (reached : List ℕ) : Type 0 where
  pub marks_are : marks ≡ map (is_among reached) all
  pub rest : length reached + count_by not marks ≡ length all

-- one more is reached, unless it was
pub record IsMet (all : List ℕ) (id : ℕ) (old : List ℕ) (marks : List Bool) (new : List ℕ) : Type 0 where
  pub marked : AreMarked all marks new
  pub grows : (new ≡ old) ⊎ (new ≡ old ++ id ∷ [])
  pub there : IsIn id new

-- what is reached from the first so many is reached too, but for these pairs of one of them
pub record IsSpread (pairs users : List (ℕ × ℕ)) (first done : ℕ) (reached : List ℕ) : Type 0 where
  pub begun : done ≤ length reached
  pub starts : IsIn first reached
  -- each set that has the first and is closed has them
  pub least : (set : List ℕ) → IsIn first set → IsClosed pairs set → (id : ℕ) → IsIn id reached → IsIn id set
  pub met : (a b : ℕ) → IsIn a (take done reached) → IsIn (b, a) pairs → IsIn b reached ⊎ IsIn (b, a) users
  pub ahead : (pair : ℕ × ℕ) → IsIn pair users → IsIn pair pairs × IsIn pair.1 reached
