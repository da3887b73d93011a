use Rattle.hf_worked.proofs.RefusedStores.{refused_groups_of_one_id, refused_group_of_none, refused_group_of_others, refused_group_of_wide_flags, refused_group_type_of_five_bytes, refused_group_of_wide_version, refused_group_of_wide_id}
use Rattle.hf_worked.proofs.broken.bad_groups_are_refused.Goals as goal

pub returns : goal.returns
returns c = record { not_groups_of_one_id = refused_groups_of_one_id; not_group_of_none = refused_group_of_none; not_group_of_others = refused_group_of_others; not_group_of_wide_flags = refused_group_of_wide_flags; not_group_type_of_five_bytes = refused_group_type_of_five_bytes; not_group_of_wide_version = refused_group_of_wide_version; not_group_of_wide_id = refused_group_of_wide_id }
