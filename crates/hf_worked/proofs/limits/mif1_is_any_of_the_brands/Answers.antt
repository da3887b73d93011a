use Rattle.hf_worked.proofs.KeptLimits.{valid_mif1_second, valid_mif1_third, valid_mif1_major, valid_mif1_alone}
use Rattle.hf_worked.proofs.limits.mif1_is_any_of_the_brands.Goals as goal

pub returns : goal.returns
returns c = record { second = valid_mif1_second; third = valid_mif1_third; major = valid_mif1_major; alone = valid_mif1_alone }
