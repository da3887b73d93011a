-- The plans of worked stores.
use Rattle.std.proofs.Common.{◌≡◌, true, refl}
use Rattle.hf_worked.specs.WorkedStores.{tile, tiles, thumbnail, photograph, every_feature}
use Rattle.hf_worked.proofs.ValidStores.{layout}
use Rattle.hf_plan.specs.Plan.{sizes_of, IsPlan}
use Rattle.hf_plan.proofs.Numbers.{first_use}
use Rattle.hf_plan.specs.WorkedPlans.{plan_of_photograph, plan_of_every_feature, long_sizes_of_every_feature}

pub planned_photograph : IsPlan photograph plan_of_photograph
unfolding layout photograph plan_of_photograph sizes_of
planned_photograph =
    record {
      wide = refl;
      long = refl;
      total = refl;
      starts = refl;
      sizes = refl;
      firsts = (
        first_use photograph 0 0 (tile 1) _ refl refl refl,
        (
          first_use photograph 0 1 (tile 1) _ refl refl refl,
          (
            first_use photograph 48 0 tiles _ refl refl refl,
            (
              first_use photograph 48 1 tiles _ refl refl refl,
              (
                first_use photograph 49 0 thumbnail _ refl refl refl,
                (first_use photograph 49 1 thumbnail _ refl refl refl, tt),
              ),
            ),
          ),
        ),
      );
      numbers = refl;
    }

pub planned_every_feature : IsPlan every_feature plan_of_every_feature
unfolding layout every_feature plan_of_every_feature sizes_of
planned_every_feature = record {
  wide = refl;
  long = refl;
  total = refl;
  starts = refl;
  sizes = refl;
  firsts = (
    first_use every_feature 0 0 _ _ refl refl refl,
    (first_use every_feature 0 1 _ _ refl refl refl, (first_use every_feature 1 2 _ _ refl refl refl, tt)),
  );
  numbers = refl;
}

pub long_sized_every_feature : sizes_of true every_feature ≡ long_sizes_of_every_feature
unfolding layout every_feature long_sizes_of_every_feature sizes_of
long_sized_every_feature = refl
