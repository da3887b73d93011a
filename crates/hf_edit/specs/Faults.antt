-- What a fault says of an edit.
use Rattle.std.specs.Prelude.{◌≡◌, Bool, true, false, Some, IsTrue}
use Rattle.hf_store.specs.Store.{ItemStore}
use Rattle.hf_edit.specs.Edits.{Edit, Remove, AddExif, AddXmp, Thumb, Primary, Rotate, Mirror, Crop, Hide, Show, Drop, why}
use Rattle.hf_edit.specs.declared.edit.EditFault.{EditFault}
use Rattle.hf_edit.specs.declared.edit.EditFault.TheVariants.{Refused, NoMemory}

-- whether an edit takes memory; it can fail for want of memory only then
abbrev pub takes_memory : Edit → Bool
takes_memory (Remove id) = false
takes_memory (AddExif id tiff) = true
takes_memory (AddXmp id text) = true
takes_memory (Thumb id donor) = true
takes_memory (Primary id) = false
takes_memory (Rotate id quarters) = true
takes_memory (Mirror id axis) = true
takes_memory (Crop id x y w h) = true
takes_memory (Hide id) = false
takes_memory (Show id) = false
takes_memory (Drop id kind) = false

-- it is refused for the first reason against it, or lacks memory that it takes
abbrev pub IsFault : ItemStore → Edit → EditFault → Type 0
IsFault s e (Refused reason) = why s e ≡ Some reason
IsFault s e NoMemory = IsTrue (takes_memory e)
