-- What the edits of the code, and the parts that they are made of, stand for.
use Rattle.std.specs.Prelude.{ℕ, List, [], ◌∷◌, ◌++◌, take, Option, Some, None}
use Rattle.hf_store.specs.Seen.{item_of}
use Rattle.hf_store.specs.Store.{Held, Item, Prop}
use Rattle.hf_edit.specs.Additions.{exif_item, thumbnail_item, xmp_item}
use Rattle.hf_edit.specs.Edits.{Edit as StatedEdit, Remove, AddExif, AddXmp, Thumb, Primary, Rotate, Mirror, Crop, Hide, Show, Drop}
use Rattle.hf_edit.specs.declared.edit.Edit.{Edit}
use Rattle.hf_edit.specs.declared.edit.Edit.TheVariants as code
use Rattle.hf_edit.specs.Pictures.{essential}
use Rattle.hf_edit.specs.declared.additions.Draft.{Draft}
use Rattle.hf_edit.specs.declared.additions.Draft.TheVariants.{Exif, Xmp, Thumb as Thumbnail}
use Rattle.hf_edit.specs.declared.changing.Change.{Change}

abbrev pub edit_of : Edit → StatedEdit
edit_of (code.Remove id) = Remove id
edit_of (code.AddExif id tiff) = AddExif id tiff.now
edit_of (code.AddXmp id text) = AddXmp id text.now
edit_of (code.Thumb id donor) = Thumb id donor
edit_of (code.Primary id) = Primary id
edit_of (code.Rotate id quarters) = Rotate id quarters
edit_of (code.Mirror id axis) = Mirror id axis
edit_of (code.Crop id x y w h) = Crop id x y w h
edit_of (code.Hide id) = Hide id
edit_of (code.Show id) = Show id
edit_of (code.Drop id kind) = Drop id kind

-- ---- what the parts of an edit stand for

-- the property that comes, if any
abbrev pub more_of : Option Prop → List Held
more_of None = []
more_of (Some p) = essential p ∷ []

-- the properties that a change leaves
abbrev pub changed_by : Change → List Held → List Held
changed_by c hs = take c.kept hs ++ more_of c.more

-- the item that a draft is of, given the id of the item that it describes or shows, and its own id
abbrev pub draft_of : Draft → ℕ → ℕ → Item
draft_of (Exif tiff) = exif_item tiff.now
draft_of (Xmp text) = xmp_item text.now
draft_of (Thumbnail picture) = thumbnail_item (item_of picture.now)
