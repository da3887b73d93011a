use Rattle.std.proofs.Common.{ℕ, [], ◌∷◌, ap, ◌∙◌, None}
use Rattle.hf_base.specs.Counts.{ends, leaves_of, size_of}
use Rattle.hf_base.specs.Levels.{over}
use Rattle.hf_base.specs.Located.{located_items}
use Rattle.hf_base.specs.LocationFaults.{external_fault, bad_method_fault, zero_length_fault, no_idat_fault, bad_index_fault, loc_cycle_fault, out_of_idat_fault, too_scattered_fault}
use Rattle.hf_base.specs.WorkedLocations.{extent, entry, located_in}
use Rattle.hf_base.specs.declared.limits.TheConstants.{BODY}
use Rattle.hf_base.proofs.LengthLaws.{fault_by, by_length}
use Rattle.hf_base.proofs.worked_locations.too_many_bytes_are_refused.Goals as goal

pub returns : goal.returns
unfolding over ends leaves_of size_of external_fault bad_method_fault zero_length_fault no_idat_fault bad_index_fault loc_cycle_fault out_of_idat_fault too_scattered_fault
returns c = record {
  all = λ F len. by_length F None (located_items (1 ∷ []) (entry 1 0 (extent 0 BODY ∷ []) ∷ []) []) ∙ ap (λ (n : ℕ). fault_by n None (located_items (1 ∷ []) (entry 1 0 (extent 0 BODY ∷ []) ∷ []) [])) len;
  one_more = λ F len. by_length F None (located_items (1 ∷ 2 ∷ []) (entry 1 0 (extent 0 BODY ∷ []) ∷ entry 2 0 (extent 0 1 ∷ []) ∷ []) []) ∙ ap (λ (n : ℕ). fault_by n None (located_items (1 ∷ 2 ∷ []) (entry 1 0 (extent 0 BODY ∷ []) ∷ entry 2 0 (extent 0 1 ∷ []) ∷ []) [])) len;
  twice = λ F len. by_length F None (located_items (1 ∷ 2 ∷ []) (entry 1 0 (extent 0 BODY ∷ []) ∷ entry 2 2 (extent 0 0 ∷ []) ∷ []) (located_in 2 (1 ∷ []) ∷ [])) ∙ ap (λ (n : ℕ). fault_by n None (located_items (1 ∷ 2 ∷ []) (entry 1 0 (extent 0 BODY ∷ []) ∷ entry 2 2 (extent 0 0 ∷ []) ∷ []) (located_in 2 (1 ∷ []) ∷ []))) len;
  past_an_item = λ F len. by_length F None (located_items (1 ∷ 2 ∷ 3 ∷ []) (entry 1 0 (extent 0 BODY ∷ []) ∷ entry 2 0 (extent 0 BODY ∷ []) ∷ entry 3 2 (extent 1 BODY ∷ []) ∷ []) (located_in 3 (1 ∷ []) ∷ [])) ∙ ap (λ (n : ℕ). fault_by n None (located_items (1 ∷ 2 ∷ 3 ∷ []) (entry 1 0 (extent 0 BODY ∷ []) ∷ entry 2 0 (extent 0 BODY ∷ []) ∷ entry 3 2 (extent 1 BODY ∷ []) ∷ []) (located_in 3 (1 ∷ []) ∷ []))) len;
}
