use Rattle.hf_worked.proofs.RefusedStores.{refused_identity_of_none, refused_grid_of_two_with_one, refused_grid_cut_short, refused_grid_of_long_sides_cut_short, refused_overlay_cut_short, refused_cycle, refused_made_of_itself}
use Rattle.hf_worked.proofs.broken.bad_derived_are_refused.Goals as goal

pub returns : goal.returns
returns c = record { not_identity_of_none = refused_identity_of_none; not_grid_of_two_with_one = refused_grid_of_two_with_one; not_grid_cut_short = refused_grid_cut_short; not_grid_of_long_sides_cut_short = refused_grid_of_long_sides_cut_short; not_overlay_cut_short = refused_overlay_cut_short; not_cycle = refused_cycle; not_made_of_itself = refused_made_of_itself }
