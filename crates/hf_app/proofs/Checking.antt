-- Whether a file is canonical, said.
use Rattle.std.proofs.Common.{◌≡◌, ◌↔◌, ℕ, Bool, true, false, List, inl, inr, refl, sym, subst, Result, Ok, Err, IsTrue}
use Rattle.std.specs.Prelude.{MatchResult}
use Rattle.hf_desk.specs.Calls.{Said, SaidFront}
use Rattle.hf_desk.specs.Making.{IsUnmade}
use Rattle.hf_desk.specs.Outside.{Outside}
use Rattle.hf_plan.specs.Canon.{Canon}
use Rattle.hf_store.specs.Store.{ItemStore}
use Rattle.hf_text.specs.Answers.{check_text}
use Rattle.hf_text.specs.declared.outcome.Outcome.TheVariants.{Done, WriteFault}
use Rattle.hf_app.specs.Answers.{Answers}
use Rattle.hf_app.specs.Due.{IsDueOfCheck, IsDueOfFile, said}
use Rattle.hf_app.specs.Opening.{Checks, IsOpened, IsRefusal}
use Rattle.hf_app.specs.declared.stopping.Stop.{Stop}
use Rattle.hf_app.specs.declared.stopping.Stop.TheVariants.{NoMemory}

-- what is told of the store that a file denotes is told of the file
pub told_of_store : (file : List ℕ) (s : ItemStore) → IsOpened file s → (result : Result Bool Stop)
    → MatchResult result (λ canonical. IsTrue canonical ↔ Canon s file) (λ why. why ≡ NoMemory) → Checks file result
told_of_store file s opened (Ok canonical) told = (s, opened, told)
told_of_store file s opened (Err why) told = subst (λ (why : Stop). IsRefusal 0 file why) (sym told) tt

check_due : (file : List ℕ) (canonical : Bool) → Checks file (Ok canonical) → IsDueOfFile (IsDueOfCheck file) file (said (check_text canonical))
check_due file true (s, opened, same) = inr (s, opened, inl (same.0 refl, refl))
check_due file false (s, opened, same) = inr (s, opened, inr ((λ is. let no = same.1 is in absurd cc), refl))

module _ (file : List ℕ) (canonical : Bool) (old now : Outside) (checks : Checks file (Ok canonical)) (unmade : IsUnmade old now) where
  pub done_check : Said old (check_text canonical) now → Answers (IsDueOfFile (IsDueOfCheck file) file) Done old now
  done_check is_said = (said (check_text canonical), check_due file canonical checks, refl, (unmade, is_said))

  pub broken_check : SaidFront old (check_text canonical) now → Answers (IsDueOfFile (IsDueOfCheck file) file) WriteFault old now
  broken_check is_said = (said (check_text canonical), check_due file canonical checks, refl, (unmade, is_said))
