-- What is counted anew over items and groups are the counts of the store.
use Rattle.std.proofs.Common.{◌≡◌, ap, ◌∙◌}
use Rattle.hf_store.specs.Capped.{capped_counts}
use Rattle.hf_store.specs.Counts.{Counts, plus, counts_of_items, counts_of_groups, counts_of}
use Rattle.hf_store.specs.Store.{ItemStore}
use Rattle.hf_store.specs.Valid.{Valid}
use Rattle.hf_store.proofs.Capped.{capped-plus}
use Rattle.hf_store.proofs.Few.{few_capped}
use Rattle.hf_store.proofs.FewCounts.{counts_few}

pub recounted : (s : ItemStore) (items groups all : Counts) → items ≡ capped_counts (counts_of_items s.items) → groups ≡ capped_counts (counts_of_groups s.groups) → all ≡ capped_counts (plus items groups) → all ≡ capped_counts (counts_of s)
unfolding counts_of
recounted s items groups all of_items of_groups sum =
    sum ∙ ap (λ c. capped_counts (plus c groups)) of_items ∙ ap (λ c. capped_counts (plus (capped_counts (counts_of_items s.items)) c)) of_groups ∙ capped-plus (counts_of_items s.items) (counts_of_groups s.groups)

-- those of a valid store are few
pub counted_exactly : (s : ItemStore) → Valid s → (all : Counts) → all ≡ capped_counts (counts_of s) → all ≡ counts_of s
counted_exactly s valid all is = is ∙ few_capped (counts_of s) (counts_few s valid)
