-- Worked files with offsets of eight bytes.
use Rattle.std.proofs.Common.{◌≡◌, ◌+◌, ◌^◌, ◌<◌, ◌≤◌, ℕ, List, length, sym, refl, arith}
use Rattle.hf_store.specs.Store.{ItemStore}
use Rattle.hf_store.specs.Layout.{own, idat_body, mdat_body, laid}
use Rattle.hf_store.specs.Valid.{Valid}
use Rattle.hf_worked.specs.WorkedStores.{one_picture, every_feature, every_feature_wide}
use Rattle.hf_worked.proofs.ValidStores.{layout, valid_one_picture, valid_every_feature, valid_every_feature_wide}
use Rattle.hf_plan.specs.Lay.{Lay}
use Rattle.hf_plan.specs.LongOffsets.{long_file_of_one_picture, long_file_of_every_feature, long_file_of_every_feature_wide}
use Rattle.hf_plan.proofs.Bounds.{own_homes, written_valid}

lay_laid : (s : ItemStore) (F : List ℕ) (n : ℕ) → Valid s → laid own 8 n s ≡ F → length F ≡ n → n < 256 ^ 8 → length (idat_body s.items) + length (mdat_body own s.items) ≤ n → Lay s 8 F
lay_laid s F n valid bytes len few room =
    record { numbers = rw len (written_valid own own_homes 8 n s valid few few room); bytes = rw len (sym bytes) }

pub long_one_picture : Lay one_picture 8 long_file_of_one_picture
unfolding layout one_picture long_file_of_one_picture
long_one_picture = lay_laid one_picture long_file_of_one_picture 201 valid_one_picture refl refl (omega arith) (omega arith)

pub long_every_feature : Lay every_feature 8 long_file_of_every_feature
unfolding layout every_feature long_file_of_every_feature
long_every_feature = lay_laid every_feature long_file_of_every_feature 1193 valid_every_feature refl refl (omega arith) (omega arith)

pub long_every_feature_wide : Lay every_feature_wide 8 long_file_of_every_feature_wide
unfolding layout every_feature_wide long_file_of_every_feature_wide
long_every_feature_wide = lay_laid every_feature_wide long_file_of_every_feature_wide 1346 valid_every_feature_wide refl refl (omega arith) (omega arith)
