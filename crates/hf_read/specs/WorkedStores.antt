-- The stores of worked files, beside those that are worked with the definition of a store.
use Rattle.std.specs.Prelude.{ℕ, true, List, [], ◌∷◌, replicate, codes}
use Prim.Native.String.{String}
use Rattle.hf_box.specs.Literals.{four, hex_of}
use Rattle.hf_links.specs.Grpl.{Group}
use Rattle.hf_store.specs.Store.{Item, ItemStore}
use Rattle.hf_worked.specs.WorkedStores.{heic, plain, essential, optional, references}

-- with `heic` brands, and the first item as the primary one
abbrev pub store_of : List Item → List Group → ItemStore
store_of items groups = record { brands = heic; primary = 1; items = items; groups = groups }

-- three bytes, and one byte
abbrev pub first_picture : Item
first_picture = plain 1 "hvc1" (hex_of "aabbcc")

abbrev pub second_picture : Item
second_picture = plain 2 "hvc1" (hex_of "dd")

-- a second item without bytes
unfoldable pub store_empty_item : ItemStore
store_empty_item = store_of (first_picture ∷ plain 2 "hvc1" [] ∷ []) []

-- a hidden text with a name
unfoldable pub store_hidden_text : ItemStore
store_hidden_text =
    let text = plain 2 "mime" (hex_of "0102") in
    store_of (first_picture ∷ record text { hidden = true; name = codes "a b"; content = codes "text/plain" } ∷ []) []

-- the greatest id
unfoldable pub store_greatest : ItemStore
store_greatest = store_of (first_picture ∷ plain 4294967295 "hvc1" [] ∷ []) []

-- an essential turn by three quarters
unfoldable pub store_turned_back : ItemStore
store_turned_back = store_of (record first_picture { props = essential "irot" (hex_of "03") ∷ [] } ∷ []) []

-- an item of two parts, and one that lies in it
unfoldable pub store_parted : ItemStore
store_parted = store_of (first_picture ∷ plain 2 "hvc1" (hex_of "101112202122") ∷ plain 3 "hvc1" (hex_of "12202122") ∷ []) []

-- item 1 needs item 2
unfoldable pub store_needing : ItemStore
store_needing = store_of (record first_picture { refs = references "prem" (2 ∷ []) ∷ [] } ∷ second_picture ∷ []) []

-- a group with a byte behind its entities
unfoldable pub store_tail : ItemStore
store_tail =
    let group : Group = record { kind = four "altr"; version = 0; flags = 0; id = 10; entities = 1 ∷ 2 ∷ []; tail = hex_of "07" } in
    store_of (first_picture ∷ second_picture ∷ []) (group ∷ [])

-- a group that has lost an entity
unfoldable pub store_one_left : ItemStore
store_one_left =
    let group : Group = record { kind = four "altr"; version = 0; flags = 0; id = 10; entities = 1 ∷ []; tail = [] } in
    store_of (first_picture ∷ second_picture ∷ []) (group ∷ [])

-- a picture with its size and a turn, a text, an item with a URI, and one that is made of the picture; two groups
unfoldable pub store_of_all : ItemStore
store_of_all =
    let size = optional "ispe" (hex_of "00000000 00000000 00000000") in
    let turn = essential "irot" (hex_of "01") in
    let picture = plain 1 "hvc1" (hex_of "ddeeaabb") in
    let text = plain 2 "mime" (codes "hello") in
    let link = plain 3 "uri " (codes "ellhe") in
    let made = plain 4 "iden" [] in
    let less : Group = record { kind = four "altr"; version = 0; flags = 0; id = 10; entities = 1 ∷ []; tail = [] } in
    let tailed : Group = record { kind = four "altr"; version = 1; flags = 5; id = 12; entities = 1 ∷ 3 ∷ []; tail = codes "tail" } in
    store_of
    (record picture { name = codes "pic"; props = size ∷ turn ∷ [] }
    ∷ record text { hidden = true; name = codes "a"; content = codes "text/plain"; encoding = codes "gz" }
    ∷ record link { uri = codes "u:x"; refs = references "cdsc" (2 ∷ []) ∷ references "thmb" (1 ∷ 4 ∷ []) ∷ [] }
    ∷ record made { props = turn ∷ []; refs = references "dimg" (1 ∷ []) ∷ [] }
    ∷ [])
    (less ∷ tailed ∷ [])

-- an item with so many references of this type, each to item 1
abbrev pub linked : ℕ → String → ℕ → Item
linked id kind many = record (plain id "hvc1" []) { refs = references kind (replicate many 1) ∷ [] }
