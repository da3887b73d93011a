-- The canonical file of a worked trial, and how long its boxes are. The bytes were written out by another program.
use Rattle.std.specs.Prelude.{ℕ, ◌≡◌, List, ◌++◌, length, filter}
use Rattle.hf_box.specs.Head.{box}
use Rattle.hf_box.specs.Literals.{four, hex_of}
use Rattle.hf_info.specs.Iinf.{iinf_body}
use Rattle.hf_links.specs.Iref.{iref_body}
use Rattle.hf_loc.specs.Iloc.{iloc_body}
use Rattle.hf_prop.specs.Iprp.{iprp_body}
use Rattle.hf_store.specs.Layout.{own, is_wide, infos_of, all_boxes, iprp_of, in_idat, bytes_in, entries_of, box_if_any, mdat_body, meta_body, laid}
use Rattle.hf_store.specs.Store.{ItemStore}
use Rattle.hf_trial.specs.Trial.{trial_store_of}

-- those of a store in a file of so many bytes, with offsets of four bytes
pub record HasLengths (s : ItemStore) (iinf iref iprp idat iloc meta mdat file : ℕ) : Type 0 where
  pub iinf_is : length (box (four "iinf") (iinf_body (is_wide s.items) (infos_of s.items))) ≡ iinf
  pub iref_is : length (box_if_any (four "iref") (iref_body (is_wide s.items)) (all_boxes s.items)) ≡ iref
  pub iprp_is : length (box (four "iprp") (iprp_body (is_wide s.items) (iprp_of s))) ≡ iprp
  pub idat_is : length (box_if_any (four "idat") bytes_in (filter in_idat s.items)) ≡ idat
  pub iloc_is : length (box (four "iloc") (iloc_body (is_wide s.items) 4 (entries_of own file s.items))) ≡ iloc
  pub meta_is : length (box (four "meta") (meta_body own 4 file s)) ≡ meta
  pub mdat_is : length (box (four "mdat") (mdat_body own s.items)) ≡ mdat
  pub file_is : length (laid own 4 file s) ≡ file

-- the trial of one row and seed 1
abbrev pub SmallestTrialHasLengths : Type 0
SmallestTrialHasLengths = HasLengths (trial_store_of 1 1) 396 70 168 16 304 1013 180 1217

-- its 1,217 bytes
unfoldable pub file_of_smallest_trial : List ℕ
file_of_smallest_trial =
    hex_of "00000018 66747970 68656963 00000000 6d696631 68656963"  -- `ftyp`
    ++ hex_of "000003f5 6d657461 00000000"  -- `meta`
    ++ hex_of "00000021 68646c72 00000000 00000000 70696374 00000000 00000000 00000000 00"  -- `hdlr`
    ++ hex_of "0000000e 7069746d 00000000 0011"  -- `pitm`
    ++ hex_of "0000018c 69696e66 00000000 0012"  -- `iinf`
    ++ hex_of "00000015 696e6665 02000001 00010000 68766331 00"
    ++ hex_of "00000015 696e6665 02000001 00020000 68766331 00"
    ++ hex_of "00000015 696e6665 02000001 00030000 68766331 00"
    ++ hex_of "00000015 696e6665 02000001 00040000 68766331 00"
    ++ hex_of "00000015 696e6665 02000001 00050000 68766331 00"
    ++ hex_of "00000015 696e6665 02000001 00060000 68766331 00"
    ++ hex_of "00000015 696e6665 02000001 00070000 68766331 00"
    ++ hex_of "00000015 696e6665 02000001 00080000 68766331 00"
    ++ hex_of "00000015 696e6665 02000001 00090000 68766331 00"
    ++ hex_of "00000015 696e6665 02000001 000a0000 68766331 00"
    ++ hex_of "00000015 696e6665 02000001 000b0000 68766331 00"
    ++ hex_of "00000015 696e6665 02000001 000c0000 68766331 00"
    ++ hex_of "00000015 696e6665 02000001 000d0000 68766331 00"
    ++ hex_of "00000015 696e6665 02000001 000e0000 68766331 00"
    ++ hex_of "00000015 696e6665 02000001 000f0000 68766331 00"
    ++ hex_of "00000015 696e6665 02000001 00100000 68766331 00"
    ++ hex_of "00000015 696e6665 02000000 00110000 67726964 00"
    ++ hex_of "00000019 696e6665 02000000 00120000 45786966 45786966 00"
    ++ hex_of "00000046 69726566 00000000"  -- `iref`
    ++ hex_of "0000002c 64696d67 00110010 00010002 00030004 00050006 00070008 0009000a 000b000c 000d000e 000f0010"
    ++ hex_of "0000000e 63647363 00120001 0011"
    ++ hex_of "000000a8 69707270"  -- `iprp`
    ++ hex_of "0000003c 6970636f"  -- `ipco`
    ++ hex_of "0000000c 68766343 00000001"
    ++ hex_of "00000014 69737065 00000000 00000040 00000040"
    ++ hex_of "00000014 69737065 00000000 00000400 00000040"
    ++ hex_of "00000064 69706d61 00000000 00000011"  -- `ipma`
    ++ hex_of "00010281 02000202 81020003 02810200 04028102 00050281 02000602 81020007 02810200 08028102"
    ++ hex_of "00090281 02000a02 8102000b 02810200 0c028102 000d0281 02000e02 8102000f 02810200 10028102 00110103"
    ++ hex_of "00000010 69646174 0000000f 04000040"  -- `idat`
    ++ hex_of "00000130 696c6f63 01000000 44000012"  -- `iloc`
    ++ hex_of "00010000 00000001 00000415 00000002 00020000 00000001 00000417 00000003"
    ++ hex_of "00030000 00000001 0000041a 00000004 00040000 00000001 0000041e 00000005"
    ++ hex_of "00050000 00000001 00000423 00000006 00060000 00000001 00000429 00000007"
    ++ hex_of "00070000 00000001 00000430 00000008 00080000 00000001 00000438 00000009"
    ++ hex_of "00090000 00000001 00000441 0000000a 000a0000 00000001 0000044b 0000000b"
    ++ hex_of "000b0000 00000001 00000456 0000000c 000c0000 00000001 00000462 0000000d"
    ++ hex_of "000d0000 00000001 0000046f 0000000e 000e0000 00000001 0000047d 0000000f"
    ++ hex_of "000f0000 00000001 0000048c 00000010 00100000 00000001 0000049c 00000011"
    ++ hex_of "00110001 00000001 00000000 00000008 00120000 00000001 000004ad 00000014"
    ++ hex_of "000000b4 6d646174"  -- `mdat`
    ++ hex_of "0203"
    ++ hex_of "030405"
    ++ hex_of "04050607"
    ++ hex_of "05060708 09"
    ++ hex_of "06070809 0a0b"
    ++ hex_of "0708090a 0b0c0d"
    ++ hex_of "08090a0b 0c0d0e0f"
    ++ hex_of "090a0b0c 0d0e0f10 11"
    ++ hex_of "0a0b0c0d 0e0f1011 1213"
    ++ hex_of "0b0c0d0e 0f101112 131415"
    ++ hex_of "0c0d0e0f 10111213 14151617"
    ++ hex_of "0d0e0f10 11121314 15161718 19"
    ++ hex_of "0e0f1011 12131415 16171819 1a1b"
    ++ hex_of "0f101112 13141516 1718191a 1b1c1d"
    ++ hex_of "10111213 14151617 18191a1b 1c1d1e1f"
    ++ hex_of "11121314 15161718 191a1b1c 1d1e1f20 21"
    ++ hex_of "00000000 00010203 04050607 08090a0b 0c0d0e0f"
