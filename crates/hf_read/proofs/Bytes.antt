-- Worked files are lists of bytes, so what is read of them is what they denote.
use Rattle.std.proofs.Common.{◌≡◌, ℕ, zero, suc, ◌≤◌, Bool, true, ltb, List, [], ◌∷◌, length, refl, arith, Ok}
use Rattle.std.specs.List.{list_all}
use Rattle.std.proofs.lemmas.Bool.{and_parts, ltb-true}
use Rattle.hf_base.specs.Number.{IsBytes}
use Rattle.hf_base.specs.declared.limits.TheConstants.{FILE}
use Rattle.hf_store.specs.Store.{ItemStore}
use Rattle.hf_read.specs.Denotes.{DenotesWithin}
use Rattle.hf_read.specs.Reading.{reading}
use Rattle.hf_read.specs.WorkedStores.{store_of_all}
use Rattle.hf_read.specs.WorkedTables.{file_of_all}
use Rattle.hf_read.proofs.Opened.{reads}
use Rattle.hf_read.proofs.ReadingLaws.{reading_denotes}

abbrev are_small : List ℕ → Bool
are_small bytes = list_all (λ b. ltb b 256) bytes

is_bytes : (bytes : List ℕ) → are_small bytes ≡ true → IsBytes bytes
is_bytes [] small i = omega arith
is_bytes (b ∷ bs) small zero = ltb-true b 256 (and_parts (ltb b 256) (are_small bs) small).0
is_bytes (b ∷ bs) small (suc i) = is_bytes bs (and_parts (ltb b 256) (are_small bs) small).1 i

denoted : (F : List ℕ) (s : ItemStore) → are_small F ≡ true → length F ≤ FILE → reading F ≡ Ok s → DenotesWithin F s
denoted F s small short read = (reading_denotes F s (is_bytes F small) short).1 read

pub all_denotes : DenotesWithin file_of_all store_of_all
unfolding reads file_of_all store_of_all
all_denotes = denoted file_of_all store_of_all refl (omega arith) refl
