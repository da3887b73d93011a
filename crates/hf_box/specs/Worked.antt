-- A worked file of one image, and its rows.
use Prim.Native.String.{String as Text}
use Rattle.std.specs.Prelude.{ℕ, List, [], ◌∷◌, ◌++◌}
use Rattle.hf_box.specs.declared.view.BoxRow.{BoxRow}
use Rattle.hf_box.specs.Literals.{four, hex_of}

-- the file, of 193 bytes: the brands are heic, mif1 and heic, and item 1 of type hvc1 has the bytes aa bb cc
unfoldable pub worked_file : List ℕ
worked_file =
    hex_of "00000018 66747970 68656963 00000000 6d696631 68656963"
    ++ hex_of "0000009e 6d657461 00000000"
    ++ hex_of "00000021 68646c72 00000000 00000000 70696374 00000000 00000000 00000000 00"
    ++ hex_of "0000000e 7069746d 00000000 0001"
    ++ hex_of "00000023 69696e66 00000000 0001"
    ++ hex_of "00000015 696e6665 02000000 0001 0000 68766331 00"
    ++ hex_of "00000020 69707270 00000008 6970636f 00000010 69706d61 00000000 00000000"
    ++ hex_of "00000020 696c6f63 01000000 44 00 0001 0001 0000 0000 0001 000000be 00000003"
    ++ hex_of "0000000b 6d646174 aabbcc"

abbrev row : ℕ → ℕ → Text → ℕ → BoxRow
row depth at kind size = record { depth = depth; at = at; kind = four kind; size = size }

-- its rows
unfoldable pub worked_rows : List BoxRow
worked_rows =
    row 0 0 "ftyp" 24
    ∷ row 0 24 "meta" 158
    ∷ row 1 36 "hdlr" 33
    ∷ row 1 69 "pitm" 14
    ∷ row 1 83 "iinf" 35
    ∷ row 1 118 "iprp" 32
    ∷ row 1 150 "iloc" 32
    ∷ row 0 182 "mdat" 11
    ∷ []
