-- A trial that is counted, made and said.
use Rattle.std.proofs.Common.{◌≡◌, ◌≤◌, ℕ, List, [], length, refl, sym, ap, ◌∙◌, subst, inr, ◌⊎◌, false, Ok}
use Rattle.std.specs.Prelude.{Option, Some, None}
use Rattle.std.proofs.lemmas.List.{append-nil}
use Rattle.hf_canon.proofs.Denoting.{canon_denotes}
use Rattle.hf_deps.specs.Redacted.{redacted}
use Rattle.hf_desk.specs.Calls.{Said, SaidFront, SaysOnly}
use Rattle.hf_desk.specs.Making.{IsMade, IsMadeInPart, IsUnmade, MakesOnly}
use Rattle.hf_desk.specs.Outside.{Outside, Files}
use Rattle.hf_plan.specs.Canon.{Canon}
use Rattle.hf_plan.specs.Plan.{IsPlan, Planned}
use Rattle.hf_plan.proofs.OneFile.{has_canon, one_canon}
use Rattle.hf_plan.proofs.Plans.{plan_is_canon}
use Rattle.hf_read.specs.Denotes.{Denotes}
use Rattle.hf_store.specs.Store.{ItemStore}
use Rattle.hf_store.specs.Valid.{Valid}
use Rattle.hf_text.specs.Answers.{trial_text}
use Rattle.hf_text.specs.Words.{Trial}
use Rattle.hf_text.specs.declared.answers.TrialNumbers.{TrialNumbers}
use Rattle.hf_text.specs.declared.outcome.Outcome.{Outcome}
use Rattle.hf_text.specs.declared.outcome.Outcome.TheVariants.{Done, WriteFault}
use Rattle.hf_trial.specs.Trial.{trial_store_of}
use Rattle.hf_trial.proofs.Valid.{trial_stores_are_valid}
use Rattle.hf_deps.proofs.Redactions.{redaction_keeps_validity}
use Rattle.hf_app.specs.Answers.{Answers, Ends, MadeDue, WhereTold}
use Rattle.hf_app.specs.Due.{Due, IsDue, IsDueOfTrial, made_saying}
use Rattle.hf_app.specs.Trials.{AreNumbers, AreTrialFiles, IsTrial, kept_of, numbers_of}
use Rattle.hf_app.proofs.Dues.{tells, unsaid}

-- ---- the numbers

-- the length of a canonical file is that of its plan
file_of_plan : (s : ItemStore) (p : Planned) → Valid s → IsPlan s p → (F : List ℕ) × Canon s F × (p.total ≡ length F)
file_of_plan s p valid plan =
    let F = has_canon s valid in
    let of = plan_is_canon s p F.0 valid plan F.1 in
    (F.0, F.1, sym of.total)

abbrev Counted : ℕ → ℕ → ℕ → ℕ → ℕ → ℕ → TrialNumbers
Counted seed n items bytes kept_items kept_bytes =
    record { seed = seed; n = n; items = items; bytes = bytes; kept_items = kept_items; kept_bytes = kept_bytes }

-- both stores and both plans, counted
pub counted : (seed n : ℕ) (s kept : ItemStore) (p q : Planned) → s ≡ trial_store_of seed n → kept ≡ redacted false s
    → Valid s → Valid kept → IsPlan s p → IsPlan kept q
    → AreNumbers seed n (Counted seed n (length s.items) p.total (length kept.items) q.total)
counted seed n s kept p q is left valid also plan more =
    let F = file_of_plan s p valid plan in
    let K = file_of_plan kept q also more in
    let left_of : kept ≡ kept_of seed n = left ∙ ap (redacted false) is in
    record {
      file = F.0;
      kept = K.0;
      files = record {
        canonical = subst (λ (t : ItemStore). Canon t F.0) is F.1;
        again = subst (λ (t : ItemStore). Denotes F.0 t) is (canon_denotes s F.0 valid F.1);
        redacted = subst (λ (t : ItemStore). Canon t K.0) left_of K.1;
      };
      told =
          ap (λ (t : ItemStore). Counted seed n (length t.items) p.total (length kept.items) q.total) is
          ∙ ap (λ (b : ℕ). Counted seed n (length (trial_store_of seed n).items) b (length kept.items) q.total) F.2
          ∙ ap (λ (t : ItemStore). Counted seed n (length (trial_store_of seed n).items) (length F.0) (length t.items) q.total) left_of
          ∙ ap (λ (b : ℕ). Counted seed n (length (trial_store_of seed n).items) (length F.0) (length (kept_of seed n).items) b) K.2;
    }

-- ---- what is due

where_none : (fs : Option Files) (P : Type 0) → P → WhereTold fs [] P
where_none None P p = p
where_none (Some files) P p = p

none_where : (fs : Option Files) (P : Type 0) → WhereTold fs [] P → P
none_where None P p = p
none_where (Some files) P p = p

-- a trial ends so, whatever files there are
pub ends_trial : (seed n : ℕ) (out : List ℕ) (r : Outcome) (old now : Outside) → Answers (IsDueOfTrial seed n out) r old now → Ends (Trial seed n out) r old now
ends_trial seed n out r old now a =
    let P = Answers (IsDue (Ok (Trial seed n out)) old.files) r old now in
    tells r (WhereTold old.files [] P) (where_none old.files P a)

pub one_trial : (seed n : ℕ) (out : List ℕ) (a b : Due) → IsDueOfTrial seed n out a → IsDueOfTrial seed n out b → a ≡ b
one_trial seed n out a b (F, K, is, e) (G, L, also, f) =
    let first : F ≡ G = one_canon (trial_store_of seed n) F G is.canonical also.canonical in
    let second : K ≡ L = one_canon (kept_of seed n) K L is.redacted also.redacted in
    e
    ∙ ap (λ (file : List ℕ). made_saying out file (trial_text (numbers_of seed n file K))) first
    ∙ ap (λ (kept : List ℕ). made_saying out G (trial_text (numbers_of seed n G kept))) second
    ∙ sym f

pub trial_due : (seed n : ℕ) (out : List ℕ) → 1 ≤ n → n ≤ 256 → (d : Due) × IsDueOfTrial seed n out d
trial_due seed n out some few =
    let valid = trial_stores_are_valid seed n some few in
    let F = has_canon (trial_store_of seed n) valid in
    let K = has_canon (kept_of seed n) (redaction_keeps_validity (trial_store_of seed n) false valid) in (
      made_saying out F.0 (trial_text (numbers_of seed n F.0 K.0)),
      (
        F.0,
        K.0,
        record { canonical = F.1; again = canon_denotes (trial_store_of seed n) F.0 valid F.1; redacted = K.1 },
        refl,
      ),
    )

-- ---- what is made and said

-- what was made before something was said, and what was said behind something that was made
module _ {old mid now : Outside} where
  made_before : {name bytes : List ℕ} → SaysOnly mid now → IsMade old name bytes mid → IsMade old name bytes now
  made_before only is = record { creating = only.creating ∙ is.creating; made = only.made ∙ is.made; mark = only.mark ∙ is.mark }

  said_behind : {text : List ℕ} → MakesOnly old mid → Said mid text now → Said old text now
  said_behind only is = record { said = rw only.said at is.said }

  front_behind : {text : List ℕ} → MakesOnly old mid → SaidFront mid text now → SaidFront old text now
  front_behind only is = record { front = is.front; rest = is.rest; whole = is.whole; said = said_behind only is.said }

-- the file of the trial
module _ (seed n : ℕ) (out : List ℕ) (s : ItemStore) (plan : Planned) (numbers : TrialNumbers) (trial : IsTrial seed n s plan numbers)
    (file : List ℕ) (canonical : Canon s file) where
  due : IsDueOfTrial seed n out (made_saying out file (trial_text numbers))
  due =
      let c = trial.counted in
      let is : Canon (trial_store_of seed n) file = subst (λ (t : ItemStore). Canon t file) trial.store canonical in
      let same : file ≡ c.file = one_canon (trial_store_of seed n) file c.file is c.files.canonical in (
        c.file,
        c.kept,
        c.files,
        ap (λ (bytes : List ℕ). made_saying out bytes (trial_text numbers)) same
            ∙ ap (λ (t : TrialNumbers). made_saying out c.file (trial_text t)) c.told,
      )

  module _ (old mid : Outside) (makes : MakesOnly old mid) where
    -- some front of it at most was made
    pub trial_unmade : IsUnmade old mid ⊎ IsMadeInPart old out file mid → Ends (Trial seed n out) WriteFault old mid
    trial_unmade made =
        ends_trial seed n out WriteFault old mid (
          made_saying out file (trial_text numbers),
          due,
          refl,
          (made, record { front = []; rest = trial_text numbers; whole = refl; said = unsaid old mid makes.said }),
        )

    -- it was made, and its line was said
    pub trial_done : (now : Outside) → IsMade old out file mid → SaysOnly mid now → Said mid (trial_text numbers) now → Ends (Trial seed n out) Done old now
    trial_done now made only is_said =
        ends_trial seed n out Done old now (
          made_saying out file (trial_text numbers),
          due,
          refl,
          (made_before only made, said_behind makes is_said),
        )

    -- it was made, and some front of its line was said
    pub trial_unsaid : (now : Outside) → IsMade old out file mid → SaysOnly mid now → SaidFront mid (trial_text numbers) now
        → Ends (Trial seed n out) WriteFault old now
    trial_unsaid now made only is_said =
        let whole : IsMadeInPart old out file now = record { front = file; rest = []; whole = append-nil file; made = made_before only made } in
        ends_trial seed n out WriteFault old now (
          made_saying out file (trial_text numbers),
          due,
          refl,
          (inr whole, front_behind makes is_said),
        )

-- a trial that is done was made and said
done_is : (seed n : ℕ) (out : List ℕ) (old new : Outside) → Answers (IsDueOfTrial seed n out) Done old new
    → (file : List ℕ) × (kept : List ℕ) × AreTrialFiles seed n file kept × IsMade old out file new × Said old (trial_text (numbers_of seed n file kept)) new
done_is seed n out old new (d, (file, kept, are, e), is, both) =
    (file, kept, are, subst (λ (d : Due). MadeDue d.makes old new) e both.0, subst (λ (d : Due). Said old d.says new) e both.1)

pub trial_makes : (seed n : ℕ) (out : List ℕ) (old new : Outside) → Ends (Trial seed n out) Done old new
    → (file : List ℕ) × (kept : List ℕ) × AreTrialFiles seed n file kept × IsMade old out file new × Said old (trial_text (numbers_of seed n file kept)) new
trial_makes seed n out old new ends = done_is seed n out old new (none_where old.files (Answers (IsDue (Ok (Trial seed n out)) old.files) Done old new) ends)
