-- The limits of a store: their order, and the length that is told.
use Rattle.std.proofs.Common.{◌≡◌, ℕ, ◌^◌, ◌-◌, ◌≤◌, ◌<◌, Err, refl, ap, ◌∙◌, arith}
use Rattle.std.specs.Prelude.{min}
use Rattle.std.proofs.lemmas.Bool.{le-ltb, lt-ltb}
use Rattle.hf_base.specs.LocationFaults.{limited}
use Rattle.hf_base.specs.declared.fault.ReadRefusal.{ReadRefusal}
use Rattle.hf_base.specs.declared.fault.ReadRefusal.TheVariants.{MetaTooLong}
use Rattle.hf_base.specs.declared.limits.TheConstants.{META}
use Rattle.hf_store.specs.Store.{ItemStore}
use Rattle.hf_store.specs.Valid.{meta_len}
use Rattle.hf_store.specs.LimitFaults.{too_many_items_fault, too_many_links_fault, meta_too_long_fault, limits_fault}
use Rattle.hf_read.proofs.FirstFaults.{fine}

pub items_first : (s : ItemStore) (fault : ReadRefusal) → too_many_items_fault s.items ≡ Err fault → limits_fault s ≡ Err fault
unfolding limits_fault
items_first s fault h = rw h refl

pub links_next : (s : ItemStore) (fault : ReadRefusal) → too_many_items_fault s.items ≡ fine → too_many_links_fault s.items ≡ Err fault → limits_fault s ≡ Err fault
unfolding limits_fault
links_next s fault few h = rw (few, h) refl

pub meta_last : (s : ItemStore) → too_many_items_fault s.items ≡ fine → too_many_links_fault s.items ≡ fine → limits_fault s ≡ meta_too_long_fault s
unfolding limits_fault
meta_last s few short = rw (few, short) refl

pub short_meta : (s : ItemStore) → meta_len s ≤ META → meta_too_long_fault s ≡ fine
unfolding meta_too_long_fault
short_meta s h = let t = le-ltb META (meta_len s) h in rw t refl

told : (n : ℕ) → META < n → limited META (λ size. MetaTooLong size) n ≡ Err (MetaTooLong (min n (2 ^ 64 - 1)))
told n h = let t = lt-ltb META n h in rw t refl

less : (n : ℕ) → n < 2 ^ 64 → min n (2 ^ 64 - 1) ≡ n
less n h = grind arith

more : (n : ℕ) → 2 ^ 64 ≤ n → min n (2 ^ 64 - 1) ≡ 2 ^ 64 - 1
more n h = grind arith

pub long_meta : (s : ItemStore) → META < meta_len s → meta_len s < 2 ^ 64 → meta_too_long_fault s ≡ Err (MetaTooLong (meta_len s))
unfolding meta_too_long_fault
long_meta s h small = told (meta_len s) h ∙ ap (λ (n : ℕ). Err (MetaTooLong n)) (less (meta_len s) small)

pub greatest_meta : (s : ItemStore) → 2 ^ 64 ≤ meta_len s → meta_too_long_fault s ≡ Err (MetaTooLong (2 ^ 64 - 1))
unfolding meta_too_long_fault
greatest_meta s h = told (meta_len s) (omega (arith, h)) ∙ ap (λ (n : ℕ). Err (MetaTooLong n)) (more (meta_len s) h)
