-- Files that are read as stores, or are refused.
use Rattle.std.proofs.Common.{◌≡◌, ℕ, List, ap, inl, refl, sym, Ok, Err}
use Rattle.std.specs.Prelude.{Some, None}
use Rattle.hf_base.specs.declared.fault.ReadRefusal.{ReadRefusal}
use Rattle.hf_desk.specs.Outside.{Outside}
use Rattle.hf_read.specs.Reading.{fault_in, fault_of, reading}
use Rattle.hf_store.specs.Store.{ItemStore}
use Rattle.hf_text.specs.declared.outcome.Outcome.TheVariants.{Unfit}
use Rattle.hf_app.specs.Answers.{Answers}
use Rattle.hf_app.specs.Due.{Due, IsDueOfFile, answered}
use Rattle.hf_app.specs.Opening.{IsRefusal}
use Rattle.hf_app.specs.Stops.{outcome_of_stop}
use Rattle.hf_app.specs.declared.stopping.Stop.{Stop}
use Rattle.hf_app.specs.declared.stopping.Stop.TheVariants as stops

-- a file that is read as a store has no fault
pub no_fault : (file : List ℕ) (s : ItemStore) → reading file ≡ Ok s → fault_of file ≡ None
unfolding fault_of
no_fault file s read = ap fault_in read

pub fault_told : (file : List ℕ) (fault : ReadRefusal) → reading file ≡ Err fault → fault_of file ≡ Some fault
unfolding fault_of
fault_told file fault read = ap fault_in read

-- the refusal of an input is due
pub refused_due : (Is : ItemStore → Due → Type 0) (file : List ℕ) (old now : Outside) (stop : Stop) → IsRefusal 0 file stop
    → Answers (IsDueOfFile Is file) (outcome_of_stop stop) old now
refused_due Is file old now (stops.Unfit n fault) (first, is) =
    (answered (Unfit 0 fault), inl (fault, is, refl), ap (λ (n : ℕ). Unfit n fault) (sym first), tt)
refused_due Is file old now (stops.Refused n reason) is = absurd is
refused_due Is file old now stops.NoMemory is = tt
