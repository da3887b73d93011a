-- A trial that is made, and what is said of it. This is this project's own rule.
use Rattle.std.specs.Prelude.{◌≡◌, ℕ, false, List, length, Result, IfOk}
use Rattle.hf_base.specs.declared.fault.NoMemory.{NoMemory}
use Rattle.hf_deps.specs.Redacted.{redacted}
use Rattle.hf_plan.specs.Canon.{Canon}
use Rattle.hf_plan.specs.Plan.{IsPlan, Planned}
use Rattle.hf_read.specs.Denotes.{Denotes}
use Rattle.hf_store.specs.Store.{ItemStore}
use Rattle.hf_text.specs.declared.answers.TrialNumbers.{TrialNumbers}
use Rattle.hf_trial.specs.Trial.{trial_store_of}

-- what a redaction leaves of a trial
abbrev pub kept_of : ℕ → ℕ → ItemStore
kept_of seed n = redacted false (trial_store_of seed n)

-- the first is the canonical file of the trial, and denotes it; the second is that of what a redaction leaves of it
pub record AreTrialFiles (seed n : ℕ) (file kept : List ℕ) : Type 0 where
  pub canonical : Canon (trial_store_of seed n) file
  pub again : Denotes file (trial_store_of seed n)
  pub redacted : Canon (kept_of seed n) kept

-- the items of both stores, and the bytes of these two files
abbrev pub numbers_of : ℕ → ℕ → List ℕ → List ℕ → TrialNumbers
numbers_of seed n file kept = record {
  seed = seed;
  n = n;
  items = length (trial_store_of seed n).items;
  bytes = length file;
  kept_items = length (kept_of seed n).items;
  kept_bytes = length kept;
}

-- ---- what the calls answer

-- these are the numbers of the trial
pub record AreNumbers (seed n : ℕ) (numbers : TrialNumbers) : Type 0 where
  pub file : List ℕ
  pub kept : List ℕ
  pub files : AreTrialFiles seed n file kept
  pub told : numbers ≡ numbers_of seed n file kept

-- the store of the trial, its plan and its numbers
pub record IsTrial (seed n : ℕ) (s : ItemStore) (plan : Planned) (numbers : TrialNumbers) : Type 0 where
  pub store : s ≡ trial_store_of seed n
  pub planned : IsPlan s plan
  pub counted : AreNumbers seed n numbers

abbrev pub Plans : ℕ → ℕ → ItemStore → Result (Planned × TrialNumbers) NoMemory → Type 0
Plans seed n s result = IfOk result (λ made. IsTrial seed n s made.0 made.1)
