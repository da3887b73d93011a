-- References of which nothing goes.
use Rattle.std.proofs.Common.{◌≡◌, ℕ, Bool, true, List, [], ◌∷◌, filter, refl, ap, ◌∙◌}
use Rattle.std.specs.List.{list_all}
use Rattle.std.proofs.lemmas.Bool.{and_parts}
use Rattle.hf_store.specs.Changes.{cut_refs}
use Rattle.hf_store.specs.Lists.{not_empty}
use Rattle.hf_store.specs.Stays.{is_whole}
use Rattle.hf_store.specs.Store.{RefList}

filter-whole : (stays : ℕ → Bool) (ids : List ℕ) → list_all stays ids ≡ true → filter stays ids ≡ ids
filter-whole stays [] e = refl
filter-whole stays (x ∷ xs) e = let parts = and_parts (stays x) (list_all stays xs) e in rw parts.0 (ap (λ ys. x ∷ ys) (filter-whole stays xs parts.1))

pub cut_refs-whole : (stays : ℕ → Bool) (rs : List RefList) → list_all (is_whole stays) rs ≡ true → cut_refs stays rs ≡ rs
cut_refs-whole stays [] e = refl
cut_refs-whole stays (r ∷ rs) e =
    let parts = and_parts (is_whole stays r) (list_all (is_whole stays) rs) e in
    let whole = and_parts (not_empty r.to) (list_all stays r.to) parts.0 in
    let same : filter stays r.to ≡ r.to = filter-whole stays r.to whole.1 in
    let some : not_empty (filter stays r.to) ≡ true = ap not_empty same ∙ whole.0 in
    rw some (ap (λ ids. record r { to = ids } ∷ cut_refs stays rs) same ∙ ap (λ qs. r ∷ qs) (cut_refs-whole stays rs parts.1))
