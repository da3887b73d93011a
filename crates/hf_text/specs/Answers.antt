-- What `check` and `trial` say: this project's own rule.
use Rattle.std.specs.Prelude.{ℕ, Bool, List, ◌++◌, if◌then◌else◌, codes}
use Rattle.hf_text.specs.Lines.{number_field}
use Rattle.hf_text.specs.declared.answers.TrialNumbers.{TrialNumbers}

abbrev pub check_text : Bool → List ℕ
check_text canonical = if canonical then codes "canonical\n" else codes "not canonical\n"

-- how many items and bytes, after a space
unfoldable pub size_text : ℕ → ℕ → List ℕ
size_text items bytes = number_field items ++ codes " items," ++ number_field bytes ++ codes " bytes"

-- the seed and the number of rows of a trial, then what its file has, and what its redacted file has
unfoldable pub trial_text : TrialNumbers → List ℕ
trial_text t =
    (codes "trial" ++ number_field t.seed ++ number_field t.n ++ codes ":")
    ++ size_text t.items t.bytes ++ codes "; redacted" ++ size_text t.kept_items t.kept_bytes ++ codes "\n"
