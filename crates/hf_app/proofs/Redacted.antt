-- What is due of a redacted file.
use Rattle.std.proofs.Common.{ℕ, Bool, List, inr, refl, subst, Ok}
use Rattle.hf_canon.proofs.Denoting.{canon_denotes}
use Rattle.hf_plan.specs.Canon.{Canon}
use Rattle.hf_plan.specs.Plan.{Planned}
use Rattle.hf_store.specs.Store.{ItemStore}
use Rattle.hf_app.specs.Due.{IsDueOfCanon, IsDueOfFile, IsDueOfRedact, made}
use Rattle.hf_app.specs.Redactions.{Redacts}

-- the canonical file of what is left is made
pub redact_due : (file out : List ℕ) (bare : Bool) (after : ItemStore) (plan : Planned) (bytes : List ℕ) → Redacts file bare (Ok (after, plan))
    → Canon after bytes
    → IsDueOfFile (IsDueOfRedact bare out) file (made out bytes)
redact_due file out bare after plan bytes (s, opened, (planned, same)) canonical =
    inr (
      s,
      opened,
      subst (λ (t : ItemStore). IsDueOfCanon out t (made out bytes)) same
          (bytes, canonical, canon_denotes after bytes planned.valid canonical, refl),
    )
