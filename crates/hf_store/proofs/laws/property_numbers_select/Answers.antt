use Rattle.hf_store.proofs.Tables.{numbers_select, selects_once}
use Rattle.hf_store.proofs.laws.property_numbers_select.Goals as goal

pub returns : goal.returns
returns c = record { selects = numbers_select; once = selects_once }
