-- Small files, built box by box, so that each may have one thing wrong with it.
use Rattle.std.specs.Prelude.{◌≡◌, ℕ, List, ◌++◌, Some, None, codes}
use Prim.Native.String.{String}
use Rattle.hf_base.specs.Number.{num}
use Rattle.hf_base.specs.declared.fault.ReadRefusal.{ReadRefusal}
use Rattle.hf_box.specs.Head.{box}
use Rattle.hf_box.specs.Literals.{four, hex_of}
use Rattle.hf_read.specs.Reading.{fault_of}

-- the file is refused for this reason, or for none
abbrev pub Refuses : List ℕ → ReadRefusal → Type 0
Refuses F fault = fault_of F ≡ Some fault

abbrev pub Passes : List ℕ → Type 0
Passes F = fault_of F ≡ None

abbrev pub boxed : String → List ℕ → List ℕ
boxed kind body = box (four kind) body

-- a full box of this version, without flags
abbrev pub full_boxed : String → ℕ → List ℕ → List ℕ
full_boxed kind version body = boxed kind (num version 1 ++ num 0 3 ++ body)

-- 16 bytes and the compatible brands
abbrev pub ftyp : String → String → List ℕ
ftyp major compatible = boxed "ftyp" (codes major ++ num 0 4 ++ codes compatible)

-- 33 bytes
abbrev pub hdlr : String → List ℕ
hdlr handler = full_boxed "hdlr" 0 (num 0 4 ++ codes handler ++ num 0 4 ++ num 0 4 ++ num 0 4 ++ num 0 1)

-- 14 bytes
abbrev pub pitm : ℕ → List ℕ
pitm id = full_boxed "pitm" 0 (num id 2)

-- 14 bytes, and 21 for each entry
abbrev pub iinf : ℕ → List ℕ → List ℕ
iinf count entries = full_boxed "iinf" 0 (num count 2 ++ entries)

abbrev pub infe : ℕ → String → List ℕ
infe id kind = full_boxed "infe" 2 (num id 2 ++ num 0 2 ++ codes kind ++ num 0 1)

-- 16 bytes, and for each entry 8, and 8 for each of its parts
abbrev pub iloc : ℕ → List ℕ → List ℕ
iloc count entries = full_boxed "iloc" 1 (hex_of "4400" ++ num count 2 ++ entries)

abbrev pub entry : ℕ → ℕ → ℕ → List ℕ → List ℕ
entry id method count parts = num id 2 ++ num method 2 ++ num 0 2 ++ num count 2 ++ parts

abbrev pub part : ℕ → ℕ → List ℕ
part offset length = num offset 4 ++ num length 4

-- 12 bytes, and 14 for each of these references of one item to another
abbrev pub iref : List ℕ → List ℕ
iref boxes = full_boxed "iref" 0 boxes

abbrev pub reference : String → ℕ → ℕ → List ℕ
reference kind from to = boxed kind (num from 2 ++ num 1 2 ++ num to 2)

-- 16 bytes, and for each entry 3, and one for each association
abbrev pub ipma : ℕ → List ℕ → List ℕ
ipma count entries = full_boxed "ipma" 0 (num count 4 ++ entries)

-- 20 bytes, and 4 for each entity
abbrev pub group : ℕ → ℕ → List ℕ → List ℕ
group id count rest = full_boxed "altr" 0 (num id 4 ++ num count 4 ++ rest)

abbrev pub meta : List ℕ → List ℕ
meta children = full_boxed "meta" 0 children

-- `ftyp` of 20 bytes, and `meta` with these boxes, which begin at 32
abbrev pub file_of : List ℕ → List ℕ
file_of children = ftyp "heic" "mif1" ++ meta children

-- an item, and then these boxes, which begin at 114
abbrev pub with_one : List ℕ → List ℕ
with_one children = file_of (hdlr "pict" ++ pitm 1 ++ iinf 1 (infe 1 "hvc1") ++ children)

-- two items, the second one of this type, and then these boxes, which begin at 135
abbrev pub with_two : String → List ℕ → List ℕ
with_two kind children = file_of (hdlr "pict" ++ pitm 1 ++ iinf 2 (infe 1 "hvc1" ++ infe 2 kind) ++ children)
