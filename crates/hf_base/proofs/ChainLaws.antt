-- What levels do: where an item has bytes, more levels change nothing; where items lie in each other, no level gives bytes.
use Rattle.std.proofs.Common.{◌≡◌, ℕ, zero, suc, ◌≤◌, Bool, true, false, List, length, refl, sym, ◌∙◌, arith, Option, Some, None, Ok}
use Rattle.std.proofs.lemmas.Bool.{false≢true, eq-eqb}
use Rattle.hf_base.specs.Located.{Located}
use Rattle.hf_base.specs.Members.{IsIn}
use Rattle.hf_base.specs.Levels.{over}
use Rattle.hf_base.specs.BytesOf.{bytes_in, bytes_at, bytes_of}
use Rattle.hf_base.specs.Counts.{ends_in, ends}
use Rattle.hf_base.specs.Chains.{LiesIn, IsEndlessChain, by_turns}
use Rattle.hf_base.specs.LocationFaults.{locations_fault}
use Rattle.hf_base.proofs.LevelLaws.{stable, source_ends, bytes_local}
use Rattle.hf_base.proofs.BytesLaws.{bytes_there}
use Rattle.hf_base.proofs.Converse.{levels_back, bytes_end}

same_bytes : (a b : List ℕ) → Some a ≡ Some b → b ≡ a
same_bytes a b e = cc

pub one_list : (F : List ℕ) (idat : Option (List ℕ)) (items : List Located) (r : Located) → locations_fault F idat items ≡ Ok tt → IsIn r items
    → (bytes : List ℕ) × (bytes_of F idat items r ≡ Some bytes) × ((other : List ℕ) → bytes_of F idat items r ≡ Some other → other ≡ bytes)
one_list F idat items r fine is =
    let found = bytes_there F idat items r fine is in
    (found.0, found.1, λ other e. same_bytes found.0 other (sym found.1 ∙ e))

pub more_levels : (F : List ℕ) (idat : Option (List ℕ)) (items : List Located) (r : Located) (bytes : List ℕ) (levels more : ℕ)
    → bytes_at levels F idat items r ≡ Some bytes → levels ≤ more → bytes_at more F idat items r ≡ Some bytes
unfolding over
more_levels F idat items r bytes levels more there le =
    let ending = (levels_back F idat items (suc levels) r bytes there).0 in
    stable None (bytes_in F idat items) items (bytes_local F idat items) (suc levels) (suc more) (suc levels) r ending (omega arith) (omega arith) ∙ there

-- an item that lies in one which does not end does not end either
not_ended : (items : List Located) (walk : ℕ → Located) → IsEndlessChain items walk → (levels n : ℕ) → over false (ends_in items) levels (walk n) ≡ true → ⊥
unfolding over
not_ended items walk endless zero n e = false≢true e
not_ended items walk endless (suc levels) n e =
    let step = endless n in
    not_ended items walk endless levels (suc n) (source_ends items (over false (ends_in items) levels) (walk n) step.0 (walk (suc n)) e step.1 (eq-eqb (walk n).method 2 step.2) step.3)

none_if_not : (o : Option (List ℕ)) → ((b : List ℕ) → o ≡ Some b → ⊥) → o ≡ None
none_if_not None not_some = refl
none_if_not (Some b) not_some = absurd (not_some b refl)

false_if_not : (b : Bool) → (b ≡ true → ⊥) → b ≡ false
false_if_not false not_true = refl
false_if_not true not_true = absurd (not_true refl)

pub no_bytes : (F : List ℕ) (idat : Option (List ℕ)) (items : List Located) (walk : ℕ → Located) → IsEndlessChain items walk → (levels : ℕ)
    → bytes_at levels F idat items (walk 0) ≡ None
unfolding over
no_bytes F idat items walk endless levels =
    none_if_not (bytes_at levels F idat items (walk 0)) (λ b there. not_ended items walk endless (suc levels) 0 (levels_back F idat items (suc levels) (walk 0) b there).0)

pub never_ends : (items : List Located) (walk : ℕ → Located) → IsEndlessChain items walk → ends items (walk 0) ≡ false
unfolding over ends
never_ends items walk endless = false_if_not (ends items (walk 0)) (λ e. not_ended items walk endless (suc (length items)) 0 e)

pub refused_chain : (F : List ℕ) (idat : Option (List ℕ)) (items : List Located) (walk : ℕ → Located) → IsEndlessChain items walk → IsIn (walk 0) items
    → ¬ (locations_fault F idat items ≡ Ok tt)
refused_chain F idat items walk endless is fine =
    let found = bytes_there F idat items (walk 0) fine is in
    let ending = bytes_end F idat items (walk 0) found.0 found.1 in
    false≢true (sym (never_ends items walk endless) ∙ ending)

pub turns : (items : List Located) (r s : Located) → LiesIn items r s → LiesIn items s r → (n : ℕ) → LiesIn items (by_turns r s n) (by_turns r s (suc n))
turns items r s there back zero = there
turns items r s there back (suc n) = turns items s r back there n
