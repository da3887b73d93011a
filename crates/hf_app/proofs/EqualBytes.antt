-- Equal stores, and stores that are redacted to equal ones, make equal bytes.
use Rattle.std.proofs.Common.{◌≡◌, ℕ, Bool, List, sym, ap, ◌∙◌, subst}
use Rattle.hf_deps.specs.Redacted.{redacted}
use Rattle.hf_plan.specs.Canon.{Canon}
use Rattle.hf_plan.proofs.OneFile.{one_canon}
use Rattle.hf_read.proofs.DenotesLaws.{denotes_one}
use Rattle.hf_read.specs.Denotes.{Denotes}
use Rattle.hf_store.specs.Store.{ItemStore}
use Rattle.hf_app.specs.Edits.{IsEdited}
use Rattle.hf_app.specs.Redactions.{IsRedacted}
use Rattle.hf_app.specs.Sources.{Sourced}

pub equal_bytes : (some other : List ℕ) (edits others : List Sourced) (bytes more : List ℕ) (a : IsEdited some edits bytes) (b : IsEdited other others more)
    → a.after ≡ b.after → bytes ≡ more
equal_bytes some other edits others bytes more a b same = one_canon b.after bytes more (subst (λ (s : ItemStore). Canon s bytes) same a.canonical) b.canonical

pub equal_redacted : (some other : List ℕ) (bare : Bool) (bytes more : List ℕ) (a : IsRedacted some bare bytes) (b : IsRedacted other bare more)
    → redacted bare a.store ≡ redacted bare b.store → bytes ≡ more
equal_redacted some other bare bytes more a b same =
    one_canon (redacted bare b.store) bytes more (subst (λ (s : ItemStore). Canon s bytes) same a.canonical) b.canonical

-- files that denote stores which are redacted to the same
pub forgotten : (s t : ItemStore) (bare : Bool) (some other bytes more : List ℕ) → redacted bare t ≡ redacted bare s → Denotes some s → Denotes other t
    → IsRedacted some bare bytes → IsRedacted other bare more → bytes ≡ more
forgotten s t bare some other bytes more same first second a b =
    let x : a.store ≡ s = denotes_one some a.store s a.opened.denoted first in
    let y : b.store ≡ t = denotes_one other b.store t b.opened.denoted second in
    equal_redacted some other bare bytes more a b (ap (redacted bare) x ∙ sym same ∙ sym (ap (redacted bare) y))
