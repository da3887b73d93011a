use Rattle.std.proofs.Common.{◌≡◌, ℕ, ◌+◌, ◌<◌, ◌≤◌, length, refl, sym, ap, ◌∙◌, arith}
use Rattle.std.specs.Prelude.{nat_le}
use Rattle.hf_base.specs.declared.limits.TheConstants as limits
use Rattle.hf_store.specs.Store.{Item, ItemStore}
use Rattle.hf_store.specs.Table.{table_of}
use Rattle.hf_store.specs.Valid.{body_sum, meta_len}
use Rattle.hf_edit.specs.Additions.{greatest_id, with_next}
use Rattle.hf_edit.specs.Seen.{draft_of}
use Rattle.hf_edit.proofs.Limits.{body_full, body_sum-added, four_refs, length-added, meta_full_added, room_left_added}
use Rattle.hf_edit.proofs.Makes.{added_next}
use Rattle.hf_edit.proofs.room.against_draft.Goals as goal

-- the table is no longer than was counted
within : (item : ℕ → Item) (s : ItemStore) (n most : ℕ) → n ≡ length (table_of (with_next item s)) → n ≤ most → length (table_of (with_next item s)) ≤ most
within item s n most is le = omega (arith, is, le)

pub returns-then-body_sum-len-gt-BODY : goal.returns-then-body_sum-len-gt-BODY
returns-then-body_sum-len-gt-BODY c of =
    let s = c.args.store.now in
    let item = draft_of c.args.draft.now of in
    let i = item (greatest_id s + 1) in
    let kinds = c.kinds_added.ensures i (sym (c.props-props.ensures of (greatest_id s + 1))) in
    let some = within item s c.kinds_added.result limits.KINDS kinds c.if-kinds_added-gt-KINDS.false in
    let count : length (with_next item s).items ≤ limits.ITEMS = omega (arith, length-added i s, c.len.ensures.count, c.if-len-ge-ITEMS.false) in
    let many : limits.BODY < body_sum (with_next item s).items =
    omega (arith, body_sum-added i s, c.body_sum.ensures.value, c.len-2.ensures.count of (greatest_id s + 1), c.if-body_sum-len-gt-BODY.true)
    in
    body_full item s c.in-Some.id (sym c.in-Some.ensures) some count many

pub returns-then-not-fits_meta_added : goal.returns-then-not-fits_meta_added
returns-then-not-fits_meta_added c of =
    let s = c.args.store.now in
    let item = draft_of c.args.draft.now of in
    let id = c.in-Some.id in
    let i = item (greatest_id s + 1) in
    let kinds = c.kinds_added.ensures i (sym (c.props-props.ensures of (greatest_id s + 1))) in
    let some = within item s c.kinds_added.result limits.KINDS kinds c.if-kinds_added-gt-KINDS.false in
    let count : length (with_next item s).items ≤ limits.ITEMS = omega (arith, length-added i s, c.len.ensures.count, c.if-len-ge-ITEMS.false) in
    let body : body_sum (with_next item s).items ≤ limits.BODY =
    omega (arith, body_sum-added i s, c.body_sum.ensures.value, c.len-2.ensures.count of (greatest_id s + 1), c.if-body_sum-len-gt-BODY.false)
    in
    let same = added_next item s id (item id) (sym c.in-Some.ensures) refl in
    let props = sym (c.props-props.ensures of id) in
    let told = c.fits_meta_added.ensures (item id) props (c.counts.ensures.value of) (c.counts.ensures.four of) (four_refs c.args.draft.now of id) in
    meta_full_added item s id (sym c.in-Some.ensures) some count body
    (ap (λ (t : ItemStore). nat_le (meta_len t) limits.META) (sym same) ∙ sym told ∙ c.if-not-fits_meta_added.true)

pub returns : goal.returns
returns c of =
    let s = c.args.store.now in
    let item = draft_of c.args.draft.now of in
    let id = c.in-Some.id in
    let i = item (greatest_id s + 1) in
    let kinds = c.kinds_added.ensures i (sym (c.props-props.ensures of (greatest_id s + 1))) in
    let some = within item s c.kinds_added.result limits.KINDS kinds c.if-kinds_added-gt-KINDS.false in
    let count : length (with_next item s).items ≤ limits.ITEMS = omega (arith, length-added i s, c.len.ensures.count, c.if-len-ge-ITEMS.false) in
    let body : body_sum (with_next item s).items ≤ limits.BODY =
    omega (arith, body_sum-added i s, c.body_sum.ensures.value, c.len-2.ensures.count of (greatest_id s + 1), c.if-body_sum-len-gt-BODY.false)
    in
    let same = added_next item s id (item id) (sym c.in-Some.ensures) refl in
    let props = sym (c.props-props.ensures of id) in
    let told = c.fits_meta_added.ensures (item id) props (c.counts.ensures.value of) (c.counts.ensures.four of) (four_refs c.args.draft.now of id) in
    room_left_added item s id (sym c.in-Some.ensures) some count body
    (ap (λ (t : ItemStore). nat_le (meta_len t) limits.META) (sym same) ∙ sym told ∙ c.if-not-fits_meta_added.false)
