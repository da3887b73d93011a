-- The reasons against changes that make a store fuller, by what changes.
use Rattle.std.specs.Prelude.{ℕ, Option, None, List, length, nat_lt}
use Rattle.std.specs.Option.{is_none}
use Rattle.hf_base.specs.declared.limits.TheConstants as limits
use Rattle.hf_store.specs.Changes.{with_props}
use Rattle.hf_store.specs.Store.{Held, Item, ItemStore}
use Rattle.hf_store.specs.Table.{table_of}
use Rattle.hf_store.specs.Valid.{body_sum, meta_len}
use Rattle.hf_store.specs.declared.reason.Reason.{Reason}
use Rattle.hf_store.specs.declared.reason.Reason.TheVariants as reasons
use Rattle.hf_edit.specs.Additions.{next_id_of, with_next}
use Rattle.hf_edit.specs.Edits.{◌or_else◌, when}

-- the first reason against other properties of the item at a place
abbrev pub why_not_held : ℕ → List Held → ItemStore → Option Reason
why_not_held k held s =
    when (nat_lt limits.PROPS (length held)) reasons.PropsFull
    or_else when (nat_lt limits.KINDS (length (table_of (with_props k held s)))) reasons.KindsFull
    or_else when (nat_lt limits.META (meta_len (with_props k held s))) reasons.MetaFull
    or_else None

-- the first reason against one more item, given its id
abbrev pub why_not_added : (ℕ → Item) → ItemStore → Option Reason
why_not_added item s =
    when (nat_lt limits.KINDS (length (table_of (with_next item s)))) reasons.KindsFull
    or_else when (nat_lt limits.ITEMS (length (with_next item s).items)) reasons.ItemsFull
    or_else when (is_none (next_id_of s)) reasons.IdsFull
    or_else when (nat_lt limits.BODY (body_sum (with_next item s).items)) reasons.BodyFull
    or_else when (nat_lt limits.META (meta_len (with_next item s))) reasons.MetaFull
    or_else None
