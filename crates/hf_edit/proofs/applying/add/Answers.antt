use Rattle.std.proofs.Common.{◌≡◌, ◌∙◌, sym, subst, arith}
use Rattle.std.specs.Prelude.{OnOk}
use Rattle.hf_store.specs.Seen.{item_of}
use Rattle.hf_store.specs.Store.{ItemStore}
use Rattle.hf_store.specs.Valid.{Valid}
use Rattle.hf_edit.specs.Seen.{draft_of}
use Rattle.hf_edit.proofs.Makes.{added_next, few_bytes}
use Rattle.hf_edit.proofs.applying.add.Goals as goal

pub item-requires : goal.item-requires
item-requires c = omega (arith, few_bytes c.args.store.now c.args.draft.now c.args.of c.unwrap-id.result c.requires.valid)

pub add-requires : goal.add-requires
add-requires c =
    let told = sym c.next_id.ensures ∙ c.unwrap-id.ensures in
    let made = added_next (draft_of c.args.draft.now c.args.of) c.args.store.now c.unwrap-id.result (item_of c.in_ok-item.item) told c.in_ok-item.ensures in
    subst Valid (sym made) c.requires.valid

pub returns-clause-added : goal.returns-clause-added
returns-clause-added c =
    let told = sym c.next_id.ensures ∙ c.unwrap-id.ensures in
    let made = added_next (draft_of c.args.draft.now c.args.of) c.args.store.now c.unwrap-id.result (item_of c.in_ok-item.item) told c.in_ok-item.ensures in
    subst (λ (t : ItemStore). OnOk c.add.result (c.add.new.self ≡ t)) made c.add.ensures.added
