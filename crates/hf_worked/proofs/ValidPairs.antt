-- The worked pair of pictures, and what changes make of it, are valid.
use Rattle.std.proofs.Common.{refl, arith}
use Rattle.hf_store.specs.Valid.{Valid}
use Rattle.hf_store.specs.Derived.{input_pairs}
use Rattle.hf_worked.specs.WorkedChanges.{described_pair, first_described, pair_and_one, pair_of_second, pair_shown, pair_turned, pair_unnamed, pair_upright}
use Rattle.hf_store.proofs.Ends.{ends}
use Rattle.hf_store.proofs.Finds.{found}
use Rattle.hf_worked.proofs.ValidStores.{layout}

pub valid_described_pair : Valid described_pair
unfolding layout described_pair
valid_described_pair =
    let ends = ends (λ id. 0) (input_pairs described_pair.items) refl in
    search (found, ends, arith)

pub valid_pair_of_second : Valid pair_of_second
unfolding layout pair_of_second
valid_pair_of_second =
    let ends = ends (λ id. 0) (input_pairs pair_of_second.items) refl in
    search (found, ends, arith)

pub valid_pair_shown : Valid pair_shown
unfolding layout pair_shown
valid_pair_shown =
    let ends = ends (λ id. 0) (input_pairs pair_shown.items) refl in
    search (found, ends, arith)

pub valid_pair_unnamed : Valid pair_unnamed
unfolding layout pair_unnamed
valid_pair_unnamed =
    let ends = ends (λ id. 0) (input_pairs pair_unnamed.items) refl in
    search (found, ends, arith)

pub valid_pair_turned : Valid pair_turned
unfolding layout pair_turned
valid_pair_turned =
    let ends = ends (λ id. 0) (input_pairs pair_turned.items) refl in
    search (found, ends, arith)

pub valid_pair_upright : Valid pair_upright
unfolding layout pair_upright
valid_pair_upright =
    let ends = ends (λ id. 0) (input_pairs pair_upright.items) refl in
    search (found, ends, arith)

pub valid_pair_and_one : Valid pair_and_one
unfolding layout pair_and_one
valid_pair_and_one =
    let ends = ends (λ id. 0) (input_pairs pair_and_one.items) refl in
    search (found, ends, arith)

pub valid_first_described : Valid first_described
unfolding layout first_described
valid_first_described =
    let ends = ends (λ id. 0) (input_pairs first_described.items) refl in
    search (found, ends, arith)
