use Rattle.std.proofs.Common.{◌∙◌}
use Rattle.hf_store.specs.Store.{ids_of}
use Rattle.hf_edit.specs.Edits.{Primary, named}
use Rattle.hf_edit.specs.Seen.{edit_of}
use Rattle.hf_edit.proofs.Arms.{free_in, place_in, step_in}
use Rattle.hf_edit.proofs.Steps.{hidden_at, lacking_at, place, removed_at, steps_keep_validity, valid_hidden, valid_lacking, valid_left}
use Rattle.hf_edit.proofs.applying.make_in_place.Goals as goal

pub remove-requires-clause-valid : goal.remove-requires-clause-valid
remove-requires-clause-valid c =
    let s = c.args.store.now in
    let here = place_in s c.args.edit.now _ c.in-Remove.is (ids_of s.items) c.args.i c.requires.place in
    let free = free_in s c.args.edit.now _ c.in-Remove.is c.requires.free in
    valid_left s c.in-Remove.id c.args.i c.requires.valid here free

pub set_primary-requires : goal.set_primary-requires
set_primary-requires c =
    let s = c.args.store.now in
    let free = free_in s c.args.edit.now _ c.in-Primary.is c.requires.free in
    steps_keep_validity s (Primary c.in-Primary.id) c.requires.valid tt free

pub set_hidden-requires-clause-place : goal.set_hidden-requires-clause-place
set_hidden-requires-clause-place c =
    place c.args.store.now (named (edit_of c.args.edit.now)) c.args.i c.requires.valid c.requires.place

pub set_hidden-requires-clause-valid : goal.set_hidden-requires-clause-valid
set_hidden-requires-clause-valid c =
    valid_hidden c.args.store.now (named (edit_of c.args.edit.now)) c.args.i c.requires.valid c.requires.place _

pub set_hidden-requires-in-Show-clause-place : goal.set_hidden-requires-in-Show-clause-place
set_hidden-requires-in-Show-clause-place c =
    place c.args.store.now (named (edit_of c.args.edit.now)) c.args.i c.requires.valid c.requires.place

pub set_hidden-requires-in-Show-clause-valid : goal.set_hidden-requires-in-Show-clause-valid
set_hidden-requires-in-Show-clause-valid c =
    valid_hidden c.args.store.now (named (edit_of c.args.edit.now)) c.args.i c.requires.valid c.requires.place _

pub drop_props-requires-clause-place : goal.drop_props-requires-clause-place
drop_props-requires-clause-place c =
    place c.args.store.now (named (edit_of c.args.edit.now)) c.args.i c.requires.valid c.requires.place

pub drop_props-requires-clause-valid : goal.drop_props-requires-clause-valid
drop_props-requires-clause-valid c =
    valid_lacking c.args.store.now (named (edit_of c.args.edit.now)) c.args.i c.requires.valid c.requires.place _

pub returns-in-Remove : goal.returns-in-Remove
returns-in-Remove c =
    let s = c.args.store.now in
    let here = place_in s c.args.edit.now _ c.in-Remove.is (ids_of s.items) c.args.i c.requires.place in
    step_in s c.args.edit.now _ c.in-Remove.is c.remove.new.self (c.remove.ensures ∙ removed_at s c.in-Remove.id c.args.i c.requires.valid here)

pub returns-in-Hide : goal.returns-in-Hide
returns-in-Hide c =
    let s = c.args.store.now in
    let here = place_in s c.args.edit.now _ c.in-Hide.is (ids_of s.items) c.args.i c.requires.place in
    step_in s c.args.edit.now _ c.in-Hide.is c.set_hidden.new.self (c.set_hidden.ensures ∙ hidden_at s c.in-Hide.id c.args.i c.requires.valid here _)

pub returns-in-Show : goal.returns-in-Show
returns-in-Show c =
    let s = c.args.store.now in
    let here = place_in s c.args.edit.now _ c.in-Show.is (ids_of s.items) c.args.i c.requires.place in
    step_in s c.args.edit.now _ c.in-Show.is c.set_hidden-in-Show.new.self
    (c.set_hidden-in-Show.ensures ∙ hidden_at s c.in-Show.id c.args.i c.requires.valid here _)

pub returns-in-Drop : goal.returns-in-Drop
returns-in-Drop c =
    let s = c.args.store.now in
    let here = place_in s c.args.edit.now _ c.in-Drop.is (ids_of s.items) c.args.i c.requires.place in
    step_in s c.args.edit.now _ c.in-Drop.is c.drop_props.new.self (c.drop_props.ensures ∙ lacking_at s c.in-Drop.id c.args.i c.requires.valid here _)
