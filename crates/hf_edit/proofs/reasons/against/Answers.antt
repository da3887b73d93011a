use Rattle.std.proofs.Common.{sym, ◌∙◌, None}
use Rattle.hf_store.specs.Seen.{item_of}
use Rattle.hf_store.specs.Store.{ids_of}
use Rattle.hf_edit.proofs.Against.{why_cropping, why_exif, why_mirroring, why_thumbnail, why_turning, why_xmp}
use Rattle.hf_edit.proofs.Arms.{place_in, reason_in}
use Rattle.hf_edit.proofs.Chains.{why_dropping, why_hiding, why_primary, why_removal, why_showing}
use Rattle.hf_edit.proofs.reasons.against.Goals as goal

pub returns-in-Remove : goal.returns-in-Remove
returns-in-Remove c =
    let s = c.args.store.now in
    let here = place_in s c.args.edit.now _ c.in-Remove.is (ids_of s.items) c.args.i c.requires.place in
    reason_in s c.args.edit.now _ c.in-Remove.is c.against_removal.result
    (why_removal s c.in-Remove.id c.args.i here ∙ sym c.against_removal.ensures)

pub returns-in-AddExif : goal.returns-in-AddExif
returns-in-AddExif c =
    let s = c.args.store.now in
    let here = place_in s c.args.edit.now _ c.in-AddExif.is (ids_of s.items) c.args.i c.requires.place in
    let i = item_of c.at-item.result.now in
    reason_in s c.args.edit.now _ c.in-AddExif.is c.against_metadata.result
    (why_exif s c.in-AddExif.id c.args.i here i c.requires.valid.ids_rise c.at-item.ensures c.in-AddExif.tiff.now
    ∙ sym (c.against_metadata.ensures c.in-AddExif.id))

pub returns-in-AddXmp : goal.returns-in-AddXmp
returns-in-AddXmp c =
    let s = c.args.store.now in
    let here = place_in s c.args.edit.now _ c.in-AddXmp.is (ids_of s.items) c.args.i c.requires.place in
    let i = item_of c.at-item.result.now in
    reason_in s c.args.edit.now _ c.in-AddXmp.is c.against_metadata-in-AddXmp.result
    (why_xmp s c.in-AddXmp.id c.args.i here i c.requires.valid.ids_rise c.at-item.ensures c.in-AddXmp.text.now
    ∙ sym (c.against_metadata-in-AddXmp.ensures c.in-AddXmp.id))

pub returns-in-Thumb : goal.returns-in-Thumb
returns-in-Thumb c =
    let s = c.args.store.now in
    let here = place_in s c.args.edit.now _ c.in-Thumb.is (ids_of s.items) c.args.i c.requires.place in
    let i = item_of c.at-item.result.now in
    reason_in s c.args.edit.now _ c.in-Thumb.is c.against_thumbnail.result
    (why_thumbnail s c.in-Thumb.id c.args.i here i c.requires.valid.ids_rise c.at-item.ensures c.in-Thumb.donor (item_of c.primary_of.result.now)
    c.primary_of.ensures.valid.ids_rise c.primary_of.ensures.item ∙ sym (c.against_thumbnail.ensures c.in-Thumb.id))

pub returns-in-Primary : goal.returns-in-Primary
returns-in-Primary c =
    let s = c.args.store.now in
    let here = place_in s c.args.edit.now _ c.in-Primary.is (ids_of s.items) c.args.i c.requires.place in
    let i = item_of c.at-item.result.now in
    reason_in s c.args.edit.now _ c.in-Primary.is c.against_primary.result
    (why_primary s c.in-Primary.id c.args.i here i c.requires.valid.ids_rise c.at-item.ensures ∙ sym c.against_primary.ensures)

pub returns-in-Rotate : goal.returns-in-Rotate
returns-in-Rotate c =
    let s = c.args.store.now in
    let here = place_in s c.args.edit.now _ c.in-Rotate.is (ids_of s.items) c.args.i c.requires.place in
    let i = item_of c.at-item.result.now in
    reason_in s c.args.edit.now _ c.in-Rotate.is c.against_rotation.result
    (why_turning s c.in-Rotate.id c.args.i here i c.requires.valid.ids_rise c.at-item.ensures c.in-Rotate.quarters
    ∙ sym (c.against_rotation.ensures i c.at-item.ensures))

pub returns-in-Mirror : goal.returns-in-Mirror
returns-in-Mirror c =
    let s = c.args.store.now in
    let here = place_in s c.args.edit.now _ c.in-Mirror.is (ids_of s.items) c.args.i c.requires.place in
    let i = item_of c.at-item.result.now in
    reason_in s c.args.edit.now _ c.in-Mirror.is c.against_mirroring.result
    (why_mirroring s c.in-Mirror.id c.args.i here i c.requires.valid.ids_rise c.at-item.ensures c.in-Mirror.axis
    ∙ sym (c.against_mirroring.ensures i c.at-item.ensures))

pub returns-in-Crop : goal.returns-in-Crop
returns-in-Crop c =
    let s = c.args.store.now in
    let here = place_in s c.args.edit.now _ c.in-Crop.is (ids_of s.items) c.args.i c.requires.place in
    let i = item_of c.at-item.result.now in
    reason_in s c.args.edit.now _ c.in-Crop.is c.against_cropping.result
    (why_cropping s c.in-Crop.id c.args.i here i c.requires.valid.ids_rise c.at-item.ensures c.in-Crop.x c.in-Crop.y c.in-Crop.w c.in-Crop.h
    ∙ sym (c.against_cropping.ensures i c.at-item.ensures))

pub returns-in-Hide : goal.returns-in-Hide
returns-in-Hide c =
    let s = c.args.store.now in
    let here = place_in s c.args.edit.now _ c.in-Hide.is (ids_of s.items) c.args.i c.requires.place in
    reason_in s c.args.edit.now _ c.in-Hide.is c.against_hiding.result
    (why_hiding s c.in-Hide.id c.args.i here ∙ sym c.against_hiding.ensures)

pub returns-in-Show : goal.returns-in-Show
returns-in-Show c =
    let s = c.args.store.now in
    let here = place_in s c.args.edit.now _ c.in-Show.is (ids_of s.items) c.args.i c.requires.place in
    reason_in s c.args.edit.now _ c.in-Show.is None
    (why_showing s c.in-Show.id c.args.i here)

pub returns-in-Drop : goal.returns-in-Drop
returns-in-Drop c =
    let s = c.args.store.now in
    let here = place_in s c.args.edit.now _ c.in-Drop.is (ids_of s.items) c.args.i c.requires.place in
    let i = item_of c.at-item.result.now in
    reason_in s c.args.edit.now _ c.in-Drop.is c.against_dropping.result
    (why_dropping s c.in-Drop.id c.args.i here i c.requires.valid.ids_rise c.at-item.ensures c.in-Drop.kind ∙ sym c.against_dropping.ensures)
