use Rattle.std.proofs.Common.{rules}
use Rattle.std.proofs.lemmas.List.Sorted.{IsNonDecreasingBy-from_sort_by_key}
use Rattle.hf_info.specs.Infe.{Info, info_of}
use Rattle.hf_info.specs.declared.infe.Info.{Info as View}
use Rattle.hf_read.proofs.SortedLaws.{sorted_seen}
use Rattle.hf_read.proofs.tables.by_id.Goals as goal

pub returns : goal.returns
returns c =
    let up = IsNonDecreasingBy-from_sort_by_key (λ (i : View). i.id) _ c.in_ok-sort_by_key.ensures.sorted (λ a r q k. search rules) in
    sorted_seen info_of (λ (i : Info). i.id) c.args.infos.items _ c.requires c.in_ok-sort_by_key.ensures.permutation up
