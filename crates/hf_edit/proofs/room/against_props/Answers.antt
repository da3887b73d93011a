use Rattle.std.proofs.Common.{◌≡◌, ℕ, ◌+◌, ◌-◌, ◌<◌, ◌≤◌, length, refl, sym, ap, ◌∙◌, arith}
use Rattle.std.specs.Prelude.{min}
use Rattle.hf_base.specs.declared.limits.TheConstants as limits
use Rattle.hf_store.specs.Changes.{with_props}
use Rattle.hf_store.specs.Room.{props_with}
use Rattle.hf_store.specs.Seen.{item_of}
use Rattle.hf_store.specs.Table.{table_of}
use Rattle.hf_edit.proofs.Limits.{kinds_full, length-props_with, meta_full, props_full, room_left}
use Rattle.hf_edit.proofs.room.against_props.Goals as goal

-- n properties are those that are left and more, against the limit
long : (n left most more : ℕ) → n ≡ left + more → more < 2 → most ≡ 255 - more → most < left → 255 < n
long n left most more is few limit over = omega (arith, is, few, limit, over)

short : (n left most more : ℕ) → n ≡ left + more → more < 2 → most ≡ 255 - more → left ≤ most → n ≤ 255
short n left most more is few limit within = omega (arith, is, few, limit, within)

counted : (n left kept props len more : ℕ) → n ≡ min kept props + more → left ≡ min kept len → len ≡ props → n ≡ left + more
counted n left kept props len more is parts same = is ∙ ap (λ k. k + more) (sym (parts ∙ ap (min kept) same))

pub returns-then-left-most : goal.returns-then-left-most
returns-then-left-most c =
    let s = c.args.store.now in
    let held = props_with c.args.kept c.args.more.now c.args.i s in
    let all = length-props_with c.args.kept c.args.i c.args.more.now s (item_of c.at.result.now) c.at.ensures in
    let parts = counted (length held) c.min-left.result c.args.kept _ c.len.result (length c.args.more.now) all c.min-left.ensures c.len.ensures in
    props_full c.args.i held s (long (length held) c.min-left.result _ (length c.args.more.now) parts c.requires.few refl c.if-left-most.true)

pub returns-then-kinds_with-gt-KINDS : goal.returns-then-kinds_with-gt-KINDS
returns-then-kinds_with-gt-KINDS c =
    let s = c.args.store.now in
    let held = props_with c.args.kept c.args.more.now c.args.i s in
    let all = length-props_with c.args.kept c.args.i c.args.more.now s (item_of c.at.result.now) c.at.ensures in
    let parts = counted (length held) c.min-left.result c.args.kept _ c.len.result (length c.args.more.now) all c.min-left.ensures c.len.ensures in
    let few = short (length held) c.min-left.result _ (length c.args.more.now) parts c.requires.few refl c.if-left-most.false in
    let many : limits.KINDS < length (table_of (with_props c.args.i held s)) = omega (arith, c.kinds_with.ensures, c.if-kinds_with-gt-KINDS.true) in
    kinds_full c.args.i held s few many

pub returns-then-not-fits_meta_with : goal.returns-then-not-fits_meta_with
returns-then-not-fits_meta_with c =
    let s = c.args.store.now in
    let held = props_with c.args.kept c.args.more.now c.args.i s in
    let all = length-props_with c.args.kept c.args.i c.args.more.now s (item_of c.at.result.now) c.at.ensures in
    let parts = counted (length held) c.min-left.result c.args.kept _ c.len.result (length c.args.more.now) all c.min-left.ensures c.len.ensures in
    let few = short (length held) c.min-left.result _ (length c.args.more.now) parts c.requires.few refl c.if-left-most.false in
    let some : length (table_of (with_props c.args.i held s)) ≤ limits.KINDS = omega (arith, c.kinds_with.ensures, c.if-kinds_with-gt-KINDS.false) in
    meta_full c.args.i held s few some (sym c.fits_meta_with.ensures ∙ c.if-not-fits_meta_with.true)

pub returns : goal.returns
returns c =
    let s = c.args.store.now in
    let held = props_with c.args.kept c.args.more.now c.args.i s in
    let all = length-props_with c.args.kept c.args.i c.args.more.now s (item_of c.at.result.now) c.at.ensures in
    let parts = counted (length held) c.min-left.result c.args.kept _ c.len.result (length c.args.more.now) all c.min-left.ensures c.len.ensures in
    let few = short (length held) c.min-left.result _ (length c.args.more.now) parts c.requires.few refl c.if-left-most.false in
    let some : length (table_of (with_props c.args.i held s)) ≤ limits.KINDS = omega (arith, c.kinds_with.ensures, c.if-kinds_with-gt-KINDS.false) in
    room_left c.args.i held s few some (sym c.fits_meta_with.ensures ∙ c.if-not-fits_meta_with.false)
