-- What each answer of a run claims.
use Rattle.std.specs.Prelude.{◌≡◌, ◌⊎◌, ℕ, List, [], ◌∷◌, Option, Some, None, Result, Ok, Err, IfSome, true, false}
use Rattle.hf_desk.specs.Outside.{Outside, Files}
use Rattle.hf_desk.specs.Calls.{Rose, Said, SaidFront, LacksFile}
use Rattle.hf_desk.specs.Making.{IsMade, IsUnmade, IsMadeInPart}
use Rattle.hf_text.specs.declared.outcome.Outcome.{Outcome}
use Rattle.hf_text.specs.declared.outcome.Outcome.TheVariants.{Done, ReadFault, WriteFault, NoMemory}
use Rattle.hf_text.specs.Words.{Command}
use Rattle.hf_app.specs.Due.{Due, IsDue, IsDefined, out_of}
use Rattle.hf_app.specs.Sources.{Source, sources_of}

-- the file that is due was made, or nothing was
abbrev pub MadeDue : Option (List ℕ × List ℕ) → Outside → Outside → Type 0
MadeDue None old new = IsUnmade old new
MadeDue (Some file) old new = IsMade old file.0 file.1 new

-- nothing was made, or a part of the file that is due
abbrev pub MadeDueInPart : Option (List ℕ × List ℕ) → Outside → Outside → Type 0
MadeDueInPart None old new = IsUnmade old new
MadeDueInPart (Some file) old new = IsUnmade old new ⊎ IsMadeInPart old file.0 file.1 new

-- something is due, it has this outcome, and P holds of it
abbrev pub HasDue : (Due → Type 0) → Outcome → (Due → Type 0) → Type 0
HasDue Is outcome P = (d : Due) × Is d × (d.outcome ≡ outcome) × P d

-- the answer is due, unless memory was refused or a read failed;
-- Done made and said all that is due, and WriteFault, which comes only where Done is due, some front of it
abbrev pub Answers : (Due → Type 0) → Outcome → Outside → Outside → Type 0
Answers Is Done old new = HasDue Is Done (λ d. MadeDue d.makes old new × Said old d.says new)
Answers Is WriteFault old new = HasDue Is Done (λ d. MadeDueInPart d.makes old new × SaidFront old d.says new)
Answers Is ReadFault old new = Unit {0}
Answers Is NoMemory old new = Unit {0}
Answers Is outcome old new = HasDue Is outcome (λ d. Unit {0})

-- with every answer other than Done and WriteFault nothing was made and nothing was said
abbrev pub IsQuiet : Outcome → Outside → Outside → Type 0
IsQuiet Done old new = Unit {0}
IsQuiet WriteFault old new = Unit {0}
IsQuiet _ old new = (new.creating ≡ false) × (new.made ≡ old.made) × (new.mark ≡ old.mark) × (new.said ≡ old.said)

-- a fault is answered only where its count rose in this call
abbrev pub HasCause : Outcome → Outside → Outside → Type 0
HasCause ReadFault old new = Rose old.read_faults new.read_faults
HasCause WriteFault old new = Rose old.write_faults new.write_faults
HasCause _ old new = Unit {0}

-- the answer is due, or memory was refused
abbrev pub IsDueOrNoMemory : (Due → Type 0) → Outcome → Type 0
IsDueOrNoMemory Is outcome = (outcome ≡ NoMemory) ⊎ HasDue Is outcome (λ d. Unit {0})

-- what never changes
pub record Stays (old new : Outside) : Type 0 where
  pub files : new.files ≡ old.files
  pub steady : new.steady ≡ old.steady

-- the answers that say something of the input, which the others leave open: a read failed, or memory was refused
abbrev pub IfTells : Outcome → Type 0 → Type 0
IfTells ReadFault P = Unit {0}
IfTells NoMemory P = Unit {0}
IfTells outcome P = P

-- where the files that are read are told, or none is read, P holds
abbrev pub WhereTold : Option Files → List Source → Type 0 → Type 0
WhereTold None (source ∷ sources) P = Unit {0}
WhereTold None [] P = P
WhereTold (Some files) sources P = P

-- with such an answer the answer is due, so no file is missing before one is too long
abbrev pub Ends : Command → Outcome → Outside → Outside → Type 0
Ends command outcome old new =
    IfTells outcome (WhereTold old.files (sources_of command) (Answers (IsDue (Ok command) old.files) outcome old new))

-- where something is due, P holds of being that
abbrev pub ForDue : Result Command ℕ → Outside → ((Due → Type 0) → Type 0) → Type 0
ForDue read old P = IsDefined read old.files → P (IsDue read old.files)

-- the name that a command makes is free
abbrev pub OutIsFree : Result Command ℕ → Outside → Type 0
OutIsFree (Err at) old = Unit {0}
OutIsFree (Ok command) old = IfSome (out_of command) (λ out. LacksFile old out)

-- neither a read nor a write failed
abbrev pub NoFault : Outcome → Type 0
NoFault ReadFault = ⊥
NoFault WriteFault = ⊥
NoFault _ = Unit {0}

-- so it is over a steady desk where something is due and the name that is made is free
abbrev pub IsSteady : Command → Outcome → Outside → Type 0
IsSteady command outcome old = old.steady ≡ true → OutIsFree (Ok command) old → IsDefined (Ok command) old.files → NoFault outcome
