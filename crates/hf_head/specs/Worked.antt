-- Worked bodies, byte by byte as ISO/IEC 14496-12 lays their boxes.
use Rattle.std.specs.Prelude.{ℕ, List, []}
use Rattle.hf_box.specs.Literals.{four, hex_of}
use Rattle.hf_head.specs.Ftyp.{Brands}

-- FileTypeBox: major_brand heic, minor_version 258, compatible_brands mif1 and heic
unfoldable pub worked_ftyp : List ℕ
worked_ftyp = hex_of "68656963 00000102 6d696631 68656963"

unfoldable pub worked_brands : Brands
worked_brands = record { major = four "heic"; minor = 258; compatible = hex_of "6d696631 68656963" }

-- the same without compatible brands
unfoldable pub lone_brand : Brands
lone_brand = record { major = four "heic"; minor = 258; compatible = [] }

-- HandlerBox: version 0, flags 0, pre_defined, handler_type pict, three reserved, and the empty name
unfoldable pub worked_hdlr : List ℕ
worked_hdlr = hex_of "00 000000 00000000 70696374 00000000 00000000 00000000 00"

-- the same of the handler of video, with other numbers in the other fields
unfoldable pub video_hdlr : List ℕ
video_hdlr = hex_of "01 000002 00000003 76696465 00000004 00000005 00000006 00"

-- the handler of pictures with other numbers in the other fields
unfoldable pub full_hdlr : List ℕ
full_hdlr = hex_of "01 000002 00000003 70696374 00000004 00000005 00000006 6100"

-- PrimaryItemBox: version 0, flags 0, item_ID 258 in two bytes
unfoldable pub worked_pitm : List ℕ
worked_pitm = hex_of "00 000000 0102"

-- version 1, flags 7, item_ID 16,909,060 in four bytes
unfoldable pub wide_pitm : List ℕ
wide_pitm = hex_of "01 000007 01020304"

-- a version that the standard does not have
unfoldable pub later_pitm : List ℕ
later_pitm = hex_of "02 000000"
