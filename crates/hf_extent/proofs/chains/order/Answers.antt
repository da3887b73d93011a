use Rattle.std.proofs.Common.{ℕ, List, subst, sym, length, ◌∙◌}
use Rattle.hf_order.specs.Order.{AreWithin}
use Rattle.hf_extent.specs.Seen.{items_seen}
use Rattle.hf_extent.proofs.OrderLaws.{links_within}
use Rattle.hf_extent.proofs.chains.order.Goals as goal

pub order_of-requires : goal.order_of-requires
order_of-requires c =
    subst (λ (pairs : List (ℕ × ℕ)). AreWithin (length c.args.ids.now) pairs) (sym (c.deref.ensures.value ∙ c.in_ok-pairs.ensures)) (links_within c.args.ids.now (items_seen c.args.items.now) c.requires.known)
