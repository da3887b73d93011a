-- Worked stores at the limits of counts, and what is told of an edit that would make one more.
use Rattle.std.specs.Prelude.{ℕ, ◌≡◌, ◌+◌, ◌-◌, ◌^◌, ◌<◌, ◌≤◌, false, List, [], ◌∷◌, length, replicate, Some}
use Rattle.hf_box.specs.Literals.{hex_of}
use Rattle.hf_store.specs.Store.{Held, ItemStore}
use Rattle.hf_store.specs.declared.reason.Reason.TheVariants.{BodyFull, IdsFull, ItemsFull, KindsFull, MetaFull, PropsFull}
use Rattle.hf_worked.specs.LargeStores.{picture_of}
use Rattle.hf_worked.specs.LimitStores.{holder, holders}
use Rattle.hf_worked.specs.WorkedStores.{four_by_four, heic, one_empty_item, one_picture, plain}
use Rattle.hf_edit.specs.Edits.{AddExif, AddXmp, Mirror, Rotate, Thumb, fills_body, fills_items, fills_kinds, fills_meta, why}
use Rattle.hf_edit.specs.Worked.{greatest_beside, imir, irot, picture}

-- ---- distinct properties

-- an item with so many distinct properties, and a picture without any
unfoldable pub holder_beside : ℕ → ItemStore
holder_beside count = record { brands = heic; primary = 1; items = holder 1 0 count ∷ plain 2 "hvc1" [] ∷ []; groups = [] }

-- a thumbnail with these properties, and one more property of the picture
abbrev pub KindsFit : Type 0
KindsFit =
    ((count : ℕ) → count ≤ 32767 → fills_kinds one_picture (Thumb 1 (holders 0 0 count)) ≡ false)
    × ((count : ℕ) → count < 32767 → fills_kinds (holder_beside count) (Rotate 2 1) ≡ false)

-- where ids are left and where none is
abbrev pub KindsAreFull : Type 0
KindsAreFull =
    ((count : ℕ) → 32767 < count → why one_picture (Thumb 1 (holders 0 0 count)) ≡ Some KindsFull)
    × ((count : ℕ) → 32767 < count → why greatest_beside (Thumb 1 (holders 0 0 count)) ≡ Some KindsFull)
    × ((count : ℕ) → 32767 ≤ count → why (holder_beside count) (Rotate 2 1) ≡ Some KindsFull)

-- ---- items

-- a picture, and so many other items
unfoldable pub crowd : ℕ → ItemStore
crowd count = record { brands = heic; primary = 1; items = plain 1 "hvc1" (hex_of "aabbcc") ∷ replicate count (plain (256 ^ 4 - 1) "hvc1" []); groups = [] }

abbrev pub ItemsFit : Type 0
ItemsFit =
    ((count : ℕ) (tiff : List ℕ) → count + 1 < 65536 → fills_items (crowd count) (AddExif 1 tiff) ≡ false)
    × ((count : ℕ) (text : List ℕ) → count + 1 < 65536 → fills_items (crowd count) (AddXmp 1 text) ≡ false)
    × ((count : ℕ) → count + 1 < 65536 → fills_items (crowd count) (Thumb 1 one_picture) ≡ false)

-- no id is left either
abbrev pub ItemsAreFull : Type 0
ItemsAreFull =
    ((count : ℕ) (tiff : List ℕ) → 65536 ≤ count + 1 → why (crowd count) (AddExif 1 tiff) ≡ Some ItemsFull)
    × ((count : ℕ) (text : List ℕ) → 65536 ≤ count + 1 → why (crowd count) (AddXmp 1 text) ≡ Some ItemsFull)
    × ((count : ℕ) → 65536 ≤ count + 1 → why (crowd count) (Thumb 1 one_picture) ≡ Some ItemsFull)

-- and with a thumbnail of too many properties that is told first
abbrev pub KindsBeforeItems : Type 0
KindsBeforeItems = (count kinds : ℕ) → 32767 < kinds → why (crowd count) (Thumb 1 (holders 0 0 kinds)) ≡ Some KindsFull

-- ---- bytes

abbrev pub BodyFits : Type 0
BodyFits =
    ((bytes tiff : List ℕ) → length bytes + (4 + length tiff) ≤ 1099511627776 → fills_body (picture_of bytes) (AddExif 1 tiff) ≡ false)
    × ((bytes text : List ℕ) → length bytes + length text ≤ 1099511627776 → fills_body (picture_of bytes) (AddXmp 1 text) ≡ false)
    × ((bytes more : List ℕ) → length bytes + length more ≤ 1099511627776 → fills_body (picture_of bytes) (Thumb 1 (picture_of more)) ≡ false)

abbrev pub BodyIsFull : Type 0
BodyIsFull =
    ((bytes tiff : List ℕ) → 1099511627776 < length bytes + (4 + length tiff) → why (picture_of bytes) (AddExif 1 tiff) ≡ Some BodyFull)
    × ((bytes text : List ℕ) → 1099511627776 < length bytes + length text → why (picture_of bytes) (AddXmp 1 text) ≡ Some BodyFull)
    × ((bytes more : List ℕ) → 1099511627776 < length bytes + length more → why (picture_of bytes) (Thumb 1 (picture_of more)) ≡ Some BodyFull)

-- where no id is left that is told first, whatever bytes come
abbrev pub IdsBeforeBody : Type 0
IdsBeforeBody = (bytes : List ℕ) → why greatest_beside (AddExif 1 bytes) ≡ Some IdsFull

-- ---- properties of an item

-- a picture with 255 properties, and an item with so many distinct ones
unfoldable pub full_beside : ℕ → ItemStore
full_beside count = record { brands = heic; primary = 1; items = picture (replicate 255 four_by_four) ∷ holder 2 0 count ∷ []; groups = [] }

-- one more property of the picture, whatever the other item has
abbrev pub PropsBeforeKinds : Type 0
PropsBeforeKinds = (count : ℕ) → why (full_beside count) (Rotate 1 1) ≡ Some PropsFull

-- ---- the `meta` box

-- an item with a name and one property
unfoldable pub named_with : Held → List ℕ → ItemStore
named_with held name = record { brands = heic; primary = 1; items = record (plain 1 "hvc1" []) { name = name; props = held ∷ [] } ∷ []; groups = [] }

-- the property goes, and the box has 142 bytes beside the name
abbrev pub MetaFits : Type 0
MetaFits =
    ((name : List ℕ) → length name ≤ 1073741682 → fills_meta (named_with (imir "00") name) (Mirror 1 0) ≡ false)
    × ((name : List ℕ) → length name ≤ 1073741682 → fills_meta (named_with (irot "03") name) (Rotate 1 1) ≡ false)

abbrev pub MetaIsFull : Type 0
MetaIsFull =
    ((name : List ℕ) → 1073741682 < length name → length name < 2 ^ 31 → why (named_with (imir "00") name) (Mirror 1 0) ≡ Some MetaFull)
    × ((name : List ℕ) → 1073741682 < length name → length name < 2 ^ 31 → why (named_with (irot "03") name) (Rotate 1 1) ≡ Some MetaFull)

-- a picture with a name and bytes
unfoldable pub named_picture : List ℕ → List ℕ → ItemStore
named_picture name bytes = record { brands = heic; primary = 1; items = record (plain 1 "hvc1" bytes) { name = name } ∷ []; groups = [] }

-- and an item that comes beside it: the box has 213, 209 and 189 bytes beside the name
abbrev pub AdditionsFitMeta : Type 0
AdditionsFitMeta =
    ((name : List ℕ) → length name ≤ 1073741611 → fills_meta (named_picture name []) (AddExif 1 []) ≡ false)
    × ((name : List ℕ) → length name ≤ 1073741615 → fills_meta (named_picture name []) (AddXmp 1 []) ≡ false)
    × ((name : List ℕ) → length name ≤ 1073741635 → fills_meta (named_picture name []) (Thumb 1 one_empty_item) ≡ false)

abbrev pub AdditionsFillMeta : Type 0
AdditionsFillMeta =
    ((name : List ℕ) → 1073741611 < length name → length name < 2 ^ 31 → why (named_picture name []) (AddExif 1 []) ≡ Some MetaFull)
    × ((name : List ℕ) → 1073741615 < length name → length name < 2 ^ 31 → why (named_picture name []) (AddXmp 1 []) ≡ Some MetaFull)
    × ((name : List ℕ) → 1073741635 < length name → length name < 2 ^ 31 → why (named_picture name []) (Thumb 1 one_empty_item) ≡ Some MetaFull)

-- too many bytes are told first, however long the name is
abbrev pub BodyBeforeMeta : Type 0
BodyBeforeMeta = (name bytes : List ℕ) → 1099511627776 < length bytes + 4 → why (named_picture name bytes) (AddExif 1 []) ≡ Some BodyFull
