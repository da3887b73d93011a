use Rattle.std.proofs.Common.{◌∙◌}
use Rattle.hf_store.specs.Seen.{item_of}
use Rattle.hf_store.specs.Store.{ids_of}
use Rattle.hf_edit.specs.Edits.{named}
use Rattle.hf_edit.specs.Seen.{edit_of}
use Rattle.hf_edit.proofs.Arms.{free_in, place_in, step_of}
use Rattle.hf_edit.proofs.Makes.{an_axis, cropped_at, few_quarters, inside, mirrored_at, turned_at}
use Rattle.hf_edit.proofs.Steps.{place}
use Rattle.hf_edit.proofs.applying.change_of.Goals as goal

pub at-item-requires : goal.at-item-requires
at-item-requires c =
    place c.args.store.now (named (edit_of c.args.edit.now)) c.args.i c.requires.valid c.requires.place

pub rotation-requires : goal.rotation-requires
rotation-requires c =
    let s = c.args.store.now in
    let free = free_in s c.args.edit.now _ c.in-Rotate.is c.requires.free in
    few_quarters s c.in-Rotate.id c.in-Rotate.quarters free

pub mirroring-requires : goal.mirroring-requires
mirroring-requires c =
    let s = c.args.store.now in
    let free = free_in s c.args.edit.now _ c.in-Mirror.is c.requires.free in
    an_axis s c.in-Mirror.id c.in-Mirror.axis free

pub cropping-requires : goal.cropping-requires
cropping-requires c =
    let s = c.args.store.now in
    let here = place_in s c.args.edit.now _ c.in-Crop.is (ids_of s.items) c.args.i c.requires.place in
    let free = free_in s c.args.edit.now _ c.in-Crop.is c.requires.free in
    let i = item_of c.at-item.result.now in
    inside s c.in-Crop.id c.args.i c.requires.valid here i c.at-item.ensures c.in-Crop.x c.in-Crop.y c.in-Crop.w c.in-Crop.h free

pub returns-in-Rotate-clause-made : goal.returns-in-Rotate-clause-made
returns-in-Rotate-clause-made c =
    let s = c.args.store.now in
    let here = place_in s c.args.edit.now _ c.in-Rotate.is (ids_of s.items) c.args.i c.requires.place in
    let i = item_of c.at-item.result.now in
    let is =
    turned_at s c.in-Rotate.id c.args.i c.requires.valid here i c.at-item.ensures c.rotation.result c.as_slice.result.now c.in-Rotate.quarters
    c.as_slice.ensures c.rotation.ensures.changed
    in
    is ∙ step_of s c.args.edit.now _ c.in-Rotate.is

pub returns-in-Mirror-clause-made : goal.returns-in-Mirror-clause-made
returns-in-Mirror-clause-made c =
    let s = c.args.store.now in
    let here = place_in s c.args.edit.now _ c.in-Mirror.is (ids_of s.items) c.args.i c.requires.place in
    let i = item_of c.at-item.result.now in
    let is =
    mirrored_at s c.in-Mirror.id c.args.i c.requires.valid here i c.at-item.ensures c.mirroring.result c.as_slice-in-Mirror.result.now
    c.in-Mirror.axis c.as_slice-in-Mirror.ensures c.mirroring.ensures.changed
    in
    is ∙ step_of s c.args.edit.now _ c.in-Mirror.is

pub returns-in-Crop-clause-made : goal.returns-in-Crop-clause-made
returns-in-Crop-clause-made c =
    let s = c.args.store.now in
    let here = place_in s c.args.edit.now _ c.in-Crop.is (ids_of s.items) c.args.i c.requires.place in
    let i = item_of c.at-item.result.now in
    let is =
    cropped_at s c.in-Crop.id c.args.i c.requires.valid here i c.at-item.ensures c.cropping.result c.in-Crop.x c.in-Crop.y c.in-Crop.w c.in-Crop.h
    c.cropping.ensures.changed
    in
    is ∙ step_of s c.args.edit.now _ c.in-Crop.is
