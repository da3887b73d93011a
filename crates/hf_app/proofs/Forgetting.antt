-- Edits that leave no trace in a redacted file.
use Rattle.std.proofs.Common.{◌≡◌, ℕ, ◌+◌, ◌<◌, Bool, List, refl, arith}
use Rattle.std.specs.Prelude.{None}
use Rattle.hf_deps.specs.Redacted.{redacted}
use Rattle.hf_deps.proofs.Redactions.{addition_is_forgotten, removal_is_forgotten}
use Rattle.hf_edit.specs.Additions.{exif_item, greatest_id, xmp_item}
use Rattle.hf_edit.specs.Edits.{Edit, Remove, AddExif, AddXmp, Thumb, Primary, Rotate, Mirror, Crop, Hide, Show, Drop, step, why}
use Rattle.hf_edit.proofs.Added.{le-greatest_id}
use Rattle.hf_read.specs.Denotes.{Denotes}
use Rattle.hf_store.specs.Lists.{IsIn}
use Rattle.hf_store.specs.Store.{ItemStore, ids_of}
use Rattle.hf_store.specs.Valid.{Valid}
use Rattle.hf_app.specs.Redactions.{IsForgotten, IsRedacted}
use Rattle.hf_app.proofs.EqualBytes.{forgotten}

below_next : (s : ItemStore) (id : ℕ) → IsIn id (ids_of s.items) → id < greatest_id s + 1
below_next s id there = let le = le-greatest_id s id there in omega (arith, le)

redacted_after : (s : ItemStore) (e : Edit) (bare : Bool) → Valid s → IsForgotten s bare e → redacted bare (step s e) ≡ redacted bare s
redacted_after s (Remove id) bare valid is = removal_is_forgotten s bare id valid is
redacted_after s (AddExif id tiff) bare valid is = addition_is_forgotten s bare (exif_item tiff id (greatest_id s + 1)) valid ((refl, refl), tt) (below_next s)
redacted_after s (AddXmp id text) bare valid is = addition_is_forgotten s bare (xmp_item text id (greatest_id s + 1)) valid ((refl, refl), tt) (below_next s)
redacted_after s (Thumb id donor) bare valid is = absurd is
redacted_after s (Primary id) bare valid is = absurd is
redacted_after s (Rotate id quarters) bare valid is = absurd is
redacted_after s (Mirror id axis) bare valid is = absurd is
redacted_after s (Crop id x y w h) bare valid is = absurd is
redacted_after s (Hide id) bare valid is = absurd is
redacted_after s (Show id) bare valid is = absurd is
redacted_after s (Drop id kind) bare valid is = absurd is

pub forgotten_edit : (s : ItemStore) (e : Edit) (bare : Bool) (some other bytes more : List ℕ) → why s e ≡ None → IsForgotten s bare e
    → Denotes some s → Denotes other (step s e) → IsRedacted some bare bytes → IsRedacted other bare more → bytes ≡ more
forgotten_edit s e bare some other bytes more none is first second a b =
    forgotten s (step s e) bare some other bytes more (redacted_after s e bare first.valid is) first second a b
