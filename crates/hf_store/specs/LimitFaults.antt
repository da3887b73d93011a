-- Why parts that are sound are no store: its limits, in the order in which they are tried. They are this project's own rule.
use Rattle.std.specs.Prelude.{ℕ, Bool, List, length, find, nat_lt, Option, Result, option_map}
use Rattle.std.specs.List.{list_any}
use Rattle.hf_base.specs.Entries.{refuse_if}
use Rattle.hf_base.specs.LocationFaults.{refused, limited}
use Rattle.hf_base.specs.Reading.{◌>>=◌}
use Rattle.hf_base.specs.declared.fault.ReadRefusal.{ReadRefusal}
use Rattle.hf_base.specs.declared.fault.ReadRefusal.TheVariants.{TooManyItems, TooManyLinks, MetaTooLong}
use Rattle.hf_base.specs.declared.limits.TheConstants as limits
use Rattle.hf_store.specs.Store.{Item, ItemStore}
use Rattle.hf_store.specs.declared.item.RefList.{RefList}
use Rattle.hf_store.specs.Valid.{meta_len}

-- the id of the first item that has this
abbrev pub first_item : (Item → Bool) → List Item → Option ℕ
first_item has items = option_map (λ (i : Item). i.id) (find has items)

unfoldable pub too_many_items_fault : List Item → Result (Unit {0}) ReadRefusal
too_many_items_fault items = refuse_if (nat_lt limits.ITEMS (length items)) (TooManyItems (length items))

-- a reference list has too many ids
abbrev pub has_long_list : Item → Bool
has_long_list i = list_any (λ (r : RefList). nat_lt limits.LINKS (length r.to)) i.refs

unfoldable pub too_many_links_fault : List Item → Result (Unit {0}) ReadRefusal
too_many_links_fault items = refused (λ id. TooManyLinks id) (first_item has_long_list items)

unfoldable pub meta_too_long_fault : ItemStore → Result (Unit {0}) ReadRefusal
meta_too_long_fault s = limited limits.META (λ size. MetaTooLong size) (meta_len s)

unfoldable pub limits_fault : ItemStore → Result (Unit {0}) ReadRefusal
limits_fault s = do
  count ← too_many_items_fault s.items
  links ← too_many_links_fault s.items
  meta_too_long_fault s
