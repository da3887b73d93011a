use Rattle.std.proofs.Common.{◌∙◌, ap}
use Rattle.hf_store.specs.Store.{ItemStore}
use Rattle.hf_store.specs.Table.{table_of}
use Rattle.hf_table.specs.Table.{size_sum}
use Rattle.hf_store.proofs.store.Store.kind_bytes.Goals as goal

pub returns : goal.returns
unfolding table_of
returns c = c.bytes.ensures.tallied _ c.self.invariant.tallies ∙ ap (λ (s : ItemStore). size_sum (table_of s)) c.self.view_is
