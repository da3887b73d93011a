-- Worked words.
use Rattle.std.specs.Prelude.{ℕ, List, [], ◌∷◌, ◌++◌, ◌==◌, codes, replicate}
use Rattle.std.specs.List.{flat_map, slice_split}
use Rattle.hf_box.specs.Literals.{four}
use Rattle.hf_text.specs.Words.{EditWord, Remove, Exif, Xmp, Thumb, Primary, Rotate, Mirror, Crop, Hide, Show, Drop, words_of_edit}

-- words with a space between each two
abbrev pub spaced : List ℕ → List (List ℕ)
spaced text = slice_split (λ b. b == 32) text

-- each edit once
unfoldable pub each_edit : List EditWord
each_edit =
    Remove 0
    ∷ Exif 1 (codes "remove")
    ∷ Xmp 2 []
    ∷ Thumb 3 (codes "03")
    ∷ Primary 4294967295
    ∷ Rotate 5 3
    ∷ Mirror 6 1
    ∷ Crop 7 8 9 10 4294967295
    ∷ Hide 11
    ∷ Show 12
    ∷ Drop 13 (four "irot")
    ∷ []

-- and its words, where one file has an empty name
unfoldable pub each_edit_words : List (List ℕ)
each_edit_words =
    spaced (codes "remove 0 exif 1 remove xmp 2  thumb 3 03 primary 4294967295 rotate 5 3 mirror 6 1")
    ++ spaced (codes "crop 7 8 9 10 4294967295 hide 11 show 12 drop 13 irot")

-- a command of so many edits
unfoldable pub many_edits : ℕ → List (List ℕ)
many_edits n = codes "edit" ∷ codes "a" ∷ codes "b" ∷ flat_map words_of_edit (replicate n (Remove 7))
