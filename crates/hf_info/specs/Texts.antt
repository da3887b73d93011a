-- Strings in a box: each ends with a zero byte or with its box. That a string may end with its box is this project's own
-- rule.
use Rattle.std.specs.Prelude.{◌≡◌, ◌⊎◌, ℕ, List, [], ◌∷◌, ◌++◌, ◌==◌}
use Rattle.std.specs.List.{before_first, after_first}
use Rattle.hf_base.specs.Number.{num}
use Rattle.hf_base.specs.Entries.{HasNoZero}
use Rattle.hf_box.specs.Written.{zero_ended}

-- the bytes begin with this string, and behind it stand these; where no byte is left, the string is empty
abbrev pub IsText : List ℕ → List ℕ → List ℕ → Type 0
IsText bytes text rest = HasNoZero text × ((bytes ≡ text ++ (num 0 1 ++ rest)) ⊎ ((bytes ≡ text) × (rest ≡ [])))

-- the bytes begin with these two strings
abbrev pub AreTwoTexts : List ℕ → List ℕ → List ℕ → Type 0
AreTwoTexts bytes first second = (more rest : List ℕ) × IsText bytes first more × IsText more second rest

-- ---- the same, read from left to right

-- the string at the front: the bytes before the first zero byte, or all
abbrev pub text_at : List ℕ → List ℕ
text_at bytes = before_first (λ byte. byte == 0) bytes

-- what stands behind that zero byte, or nothing
abbrev pub behind_text : List ℕ → List ℕ
behind_text bytes = after_first (λ byte. byte == 0) bytes

-- ---- a string as it is written

-- a string that is left out where it is empty
abbrev pub zero_ended_if_any : List ℕ → List ℕ
zero_ended_if_any [] = []
zero_ended_if_any (b ∷ bs) = zero_ended (b ∷ bs)
