-- Derived items with more bytes than their fields take, and the canonical files of their stores, box by box.
use Rattle.std.specs.Prelude.{ℕ, List, [], ◌∷◌, ◌++◌, replicate}
use Rattle.hf_box.specs.Literals.{hex_of}
use Rattle.hf_store.specs.Store.{ItemStore}
use Rattle.hf_worked.specs.WorkedStores.{heic, plain, references}

-- grids of 9, 256 and 257 bytes, each with one cell
unfoldable pub grids : ItemStore
grids = record {
  brands = heic;
  primary = 1;
  items =
      plain 1 "hvc1" (hex_of "aabbcc")
      ∷ record (plain 2 "grid" (hex_of "00000000 00080004" ++ replicate 1 0x00)) { refs = references "dimg" (1 ∷ []) ∷ [] }
      ∷ record (plain 3 "grid" (hex_of "00000000 00080004" ++ replicate 248 0x00)) { refs = references "dimg" (1 ∷ []) ∷ [] }
      ∷ record (plain 4 "grid" (hex_of "00000000 00080004" ++ replicate 249 0x00)) { refs = references "dimg" (1 ∷ []) ∷ [] }
      ∷ [];
  groups = [];
}

-- an identity item that has bytes
unfoldable pub identity_with_bytes : ItemStore
identity_with_bytes = record {
  brands = heic;
  primary = 1;
  items =
      plain 1 "hvc1" (hex_of "aabbcc")
      ∷ record (plain 2 "iden" (hex_of "ddee")) { refs = references "dimg" (1 ∷ []) ∷ [] }
      ∷ [];
  groups = [];
}

-- 888 bytes
unfoldable pub file_of_grids : List ℕ
file_of_grids =
    hex_of "00000018 66747970 68656963 00000000 6d696631 68656963"
    ++ hex_of "00000254 6d657461 00000000"
    ++ hex_of "00000021 68646c72 00000000 00000000 70696374 00000000 00000000 00000000 00"
    ++ hex_of "0000000e 7069746d 00000000 0001"
    ++ hex_of "00000062 69696e66 00000000 00040000 0015696e 66650200 00000001 00006876 63310000 00001569 6e666502 00000000"
    ++ hex_of "02000067 72696400 00000015 696e6665 02000000 00030000 67726964 00000000 15696e66 65020000 00000400 00677269"
    ++ hex_of "6400"
    ++ hex_of "00000036 69726566 00000000 0000000e 64696d67 00020001 00010000 000e6469 6d670003 00010001 0000000e 64696d67"
    ++ hex_of "00040001 0001"
    ++ hex_of "00000020 69707270"
    ++ hex_of "00000008 6970636f"
    ++ hex_of "00000010 69706d61 00000000 00000000"
    ++ hex_of "00000111 69646174 00000000 00080004 00000000 00000800 04"
    ++ replicate 248 0x00
    ++ hex_of "00000050 696c6f63 01000000 44000004 00010000 00000001 00000274 00000003 00020001 00000001 00000000 00000009"
    ++ hex_of "00030001 00000001 00000009 00000100 00040000 00000001 00000277 00000101"
    ++ hex_of "0000010c 6d646174 aabbcc00 00000000 080004"
    ++ replicate 249 0x00

-- 258 bytes
unfoldable pub file_of_identity_with_bytes : List ℕ
file_of_identity_with_bytes =
    hex_of "00000018 66747970 68656963 00000000 6d696631 68656963"
    ++ hex_of "000000dd 6d657461 00000000"
    ++ hex_of "00000021 68646c72 00000000 00000000 70696374 00000000 00000000 00000000 00"
    ++ hex_of "0000000e 7069746d 00000000 0001"
    ++ hex_of "00000038 69696e66 00000000 00020000 0015696e 66650200 00000001 00006876 63310000 00001569 6e666502 00000000"
    ++ hex_of "02000069 64656e00"
    ++ hex_of "0000001a 69726566 00000000 0000000e 64696d67 00020001 0001"
    ++ hex_of "00000020 69707270"
    ++ hex_of "00000008 6970636f"
    ++ hex_of "00000010 69706d61 00000000 00000000"
    ++ hex_of "00000030 696c6f63 01000000 44000002 00010000 00000001 000000fd 00000003 00020000 00000001 00000100 00000002"
    ++ hex_of "0000000d 6d646174 aabbccdd ee"
