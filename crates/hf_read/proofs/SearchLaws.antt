-- What a search finds among ids that rise.
use Rattle.std.proofs.Common.{◌≡◌, ℕ, ◌<◌, false, List, length, get_or, is_ok, Result, Ok, Err, sym, subst}
use Rattle.std.specs.Ordering.{nat_cmp}
use Rattle.std.specs.List.Sorted.{IsBinarySearchResult}
use Rattle.std.proofs.lemmas.List.Sorted.{searched}
use Rattle.hf_base.specs.Entries.{has_id}
use Rattle.hf_base.specs.Members.{IsIn, Rises}
use Rattle.hf_base.proofs.Rising.{rises_to}
use Rattle.hf_derived.proofs.Places.{not_missing}
use Rattle.hf_order.proofs.Members.{at_in, has_in, has_not}

pub found_there : (ids : List ℕ) (id at : ℕ) → Rises ◌<◌ ids → IsBinarySearchResult (λ (y : ℕ). nat_cmp y id) ids (Ok at) → (at < length ids) × (get_or ids at 0 ≡ id)
found_there ids id at up result = searched ids id (Ok at) result (rises_to ids up)

pub not_there : (ids : List ℕ) (id at : ℕ) → Rises ◌<◌ ids → IsBinarySearchResult (λ (y : ℕ). nat_cmp y id) ids (Err at) → has_id id ids ≡ false
not_there ids id at up result = has_not id ids (λ among. not_missing ids id at up among result)

pub search_tells : (ids : List ℕ) (id : ℕ) (r : Result ℕ ℕ) → Rises ◌<◌ ids → IsBinarySearchResult (λ (y : ℕ). nat_cmp y id) ids r → is_ok r ≡ has_id id ids
search_tells ids id (Ok at) up result =
    let found = found_there ids id at up result in
    sym (has_in id ids (subst (λ (x : ℕ). IsIn x ids) found.1 (at_in ids at 0 found.0)))
search_tells ids id (Err at) up result = sym (not_there ids id at up result)
