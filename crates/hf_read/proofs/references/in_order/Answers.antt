use Rattle.std.proofs.Common.{rules, ◌≡◌, List, ap, ◌∙◌}
use Rattle.std.specs.List.{filter}
use Rattle.std.proofs.lemmas.Fn.{always_returns_same}
use Rattle.std.proofs.lemmas.Iterator.{YieldsList-from_slice, items_from_drains}
use Rattle.hf_base.specs.declared.loc.RefBox.{RefBox}
use Rattle.hf_read.specs.References.{is_of, key_of, seen}
use Rattle.hf_read.proofs.ReferenceLaws.{stays}
use Rattle.hf_read.proofs.references.in_order.Goals as goal
use denote.Ref.{Bor}

pub returns-clause-sorted : goal.returns-clause-sorted
returns-clause-sorted c = c.in_ok-sort_by_key.ensures.sorted (λ (b : Bor RefBox). key_of b.now) (always_returns_same _ _ _ (λ a r f q. search rules))

pub returns-clause-same : goal.returns-clause-same
returns-clause-same c = λ from kind.
    let ran = c.in_ok-boxes.ensures.ran in
    let links : seen c.in_ok-boxes.boxes.items ≡ c.args.links.now = ap seen ran.2.0
    ∙ items_from_drains ran.0 ran.1 (YieldsList-from_slice c.args.links.now c.iter.ensures.rest) in
    let stable = c.in_ok-sort_by_key.ensures.stable (λ (b : Bor RefBox). key_of b.now) (always_returns_same _ _ _ (λ a r f q. search rules)) in
    stays from kind c.in_ok-boxes.boxes.items c.sort_by_key.new.self.items stable ∙ ap (λ (l : List RefBox). filter (is_of from kind) l) links
