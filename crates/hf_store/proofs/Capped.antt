-- Numbers that are capped add up.
use Rattle.std.proofs.Common.{◌≡◌, ℕ, zero, suc, ◌+◌, ◌*◌, ◌-◌, ◌^◌, ◌≤◌, ap, ◌∙◌, arith, inl, inr}
use Rattle.std.proofs.lemmas.Bool.{cases_lt}
use Rattle.hf_store.specs.Capped.{capped, capped_counts}
use Rattle.hf_store.specs.Counts.{Counts, plus}

pub capped-add : (m n : ℕ) → capped (capped m + capped n) ≡ capped (m + n)
capped-add m n = omega arith

pub capped-small : (n : ℕ) → n ≤ 2 ^ 62 → capped n ≡ n
capped-small n few = omega arith

pub capped-mul : (m k : ℕ) → capped (capped m * k) ≡ capped (m * k)
capped-mul m k =
    elim (cases_lt m (2 ^ 64)) [
      | inl small ↦ let same : capped m ≡ m = omega arith in ap (λ n. capped (n * k)) same
      | inr large ↦ let most : capped m ≡ 2 ^ 64 - 1 = omega arith in ap (λ n. capped (n * k)) most ∙ large_mul m k large
    ]
  where
    large_mul : (m k : ℕ) → 2 ^ 64 ≤ m → capped ((2 ^ 64 - 1) * k) ≡ capped (m * k)
    large_mul m zero large = omega arith
    large_mul m (suc k) large = omega arith

pub capped-plus : (a b : Counts) → capped_counts (plus (capped_counts a) (capped_counts b)) ≡ capped_counts (plus a b)
capped-plus a b = λ j. record {
  items = capped-add a.items b.items j;
  located = capped-add a.located b.located j;
  wide = capped-add a.wide b.wide j;
  strings = capped-add a.strings b.strings j;
  links = capped-add a.links b.links j;
  targets = capped-add a.targets b.targets j;
  holders = capped-add a.holders b.holders j;
  picks = capped-add a.picks b.picks j;
  idat = capped-add a.idat b.idat j;
  mdat = capped-add a.mdat b.mdat j;
  groups = capped-add a.groups b.groups j;
  entities = capped-add a.entities b.entities j;
  tails = capped-add a.tails b.tails j;
}

-- a product of which one factor is capped
pub times_capped : (r m k x y : ℕ) → r ≡ capped (x * y) → x ≡ capped m → y ≡ k → r ≡ capped (m * k)
times_capped r m k x y is e f = is ∙ ap (λ z. capped (z * y)) e ∙ ap (λ z. capped (capped m * z)) f ∙ capped-mul m k

-- sums of which parts are capped
pub plus_capped : (r m n x y : ℕ) → r ≡ capped (x + y) → x ≡ capped m → y ≡ capped n → r ≡ capped (m + n)
plus_capped r m n x y is e f = omega arith

pub plus_exact : (r m n x y : ℕ) → r ≡ capped (x + y) → x ≡ capped m → y ≡ n → r ≡ capped (m + n)
plus_exact r m n x y is e f = omega arith
