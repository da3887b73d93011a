-- Entries of a table that stand one behind the other, and that have ids of their own.
use Rattle.std.specs.Prelude.{◌≡◌, ◌⊎◌, ◌<◌, ◌^◌, ℕ, zero, suc, Bool, true, not, ◌&&◌, List, [], ◌∷◌, ◌++◌, ◌==◌, Result, Ok, Err, if◌then◌else◌}
use Rattle.std.specs.List.{AllByRecursion, list_any}
use Rattle.hf_base.specs.Number.{num}
use Rattle.hf_base.specs.Reading.{◌>>=◌}
use Rattle.hf_base.specs.declared.fault.ReadRefusal.{ReadRefusal}

-- the bytes are texts of these entries, one behind the other
abbrev pub AreTexts : {A : Type 0} → (List ℕ → A → Type 0) → List ℕ → List A → Type 0
AreTexts IsText bytes [] = bytes ≡ []
AreTexts IsText bytes (x ∷ xs) = (text rest : List ℕ) × (bytes ≡ text ++ rest) × IsText text x × AreTexts IsText rest xs

-- the text is this number in w bytes
abbrev pub IsNum : ℕ → List ℕ → ℕ → Type 0
IsNum w text n = (n < 256 ^ w) × (text ≡ num n w)

-- a string has no zero byte, which ends it in a file
abbrev pub HasNoZero : List ℕ → Type 0
HasNoZero bytes = AllByRecursion (λ byte. 0 < byte) bytes

-- the id is one of these
abbrev pub has_id : ℕ → List ℕ → Bool
has_id id ids = list_any (λ x. x == id) ids

-- no two of them are equal
abbrev pub are_distinct : List ℕ → Bool
are_distinct [] = true
are_distinct (x ∷ xs) = not (has_id x xs) && are_distinct xs

-- a fault where the test holds
abbrev pub refuse_if : Bool → ReadRefusal → Result (Unit {0}) ReadRefusal
refuse_if test fault = if test then Err fault else Ok tt

-- ids take two bytes in this version of a full box, and four in the next one
abbrev pub IsIdWidth : ℕ → ℕ → ℕ → Type 0
IsIdWidth first version width = ((version ≡ first) × (width ≡ 2)) ⊎ ((version ≡ suc first) × (width ≡ 4))

-- the same as a number of bytes; there is no other version
abbrev pub id_width_at : ℕ → ReadRefusal → ℕ → Result ℕ ReadRefusal
id_width_at first bad version = if version == first then Ok 2 else (if version == suc first then Ok 4 else Err bad)

-- what was read, and so many entries more, one behind the other. An entry is read with what was read before it: it may
-- have the id of an earlier one, or be one too many
unfoldable pub entries_from : {A : Type 0} → (List A → List ℕ → Result (A × List ℕ) ReadRefusal) → List A → ℕ → List ℕ → Result (List A × List ℕ) ReadRefusal
entries_from read earlier zero bytes = Ok (earlier, bytes)
entries_from read earlier (suc n) bytes = do
  entry ← read earlier bytes
  entries_from read (earlier ++ entry.0 ∷ []) n entry.1
