-- Stores of derived items with bytes: that they are valid, and their files.
use Rattle.std.proofs.Common.{◌≡◌, refl, arith}
use Rattle.std.specs.Prelude.{◌==◌, if◌then◌else◌}
use Rattle.hf_store.specs.Derived.{input_pairs}
use Rattle.hf_store.specs.Layout.{own, laid}
use Rattle.hf_store.specs.Valid.{Valid}
use Rattle.hf_worked.specs.WorkedGrids.{grids, identity_with_bytes, file_of_grids, file_of_identity_with_bytes}
use Rattle.hf_store.proofs.Ends.{ends}
use Rattle.hf_store.proofs.Finds.{found}
use Rattle.hf_worked.proofs.ValidStores.{layout}

pub valid_grids : Valid grids
unfolding layout grids
valid_grids =
    let ends = ends (λ id. if id == 1 then 0 else 1) (input_pairs grids.items) refl in
    search (found, ends, arith)

pub laid_grids : laid own 4 888 grids ≡ file_of_grids
unfolding layout grids file_of_grids
laid_grids = refl

pub valid_identity_with_bytes : Valid identity_with_bytes
unfolding layout identity_with_bytes
valid_identity_with_bytes =
    let ends = ends (λ id. if id == 2 then 1 else 0) (input_pairs identity_with_bytes.items) refl in
    search (found, ends, arith)

pub laid_identity_with_bytes : laid own 4 258 identity_with_bytes ≡ file_of_identity_with_bytes
unfolding layout identity_with_bytes file_of_identity_with_bytes
laid_identity_with_bytes = refl
