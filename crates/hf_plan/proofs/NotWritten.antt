-- Stores with a number that its field cannot say.
use Rattle.std.proofs.Common.{◌≡◌, ◌≤◌, ◌<◌, ◌+◌, ◌*◌, ◌^◌, ℕ, zero, suc, Bool, true, false, List, length, map, refl, subst, arith}
use Rattle.std.specs.Prelude.{if◌then◌else◌}
use Rattle.std.specs.List.{AllByRecursion, range_with_len}
use Rattle.hf_box.specs.Written.{id_width}
use Rattle.hf_prop.specs.Iprp.{is_long_table}
use Rattle.hf_store.specs.Store.{Prop, Item}
use Rattle.hf_store.specs.Table.{table_of}
use Rattle.hf_store.specs.Layout.{own, is_wide, with_bytes}
use Rattle.hf_worked.specs.BadStores.{minor_of_five_bytes, id_of_five_bytes, group_of_wide_version, group_of_wide_flags, group_of_wide_id, properties_256}
use Rattle.hf_worked.specs.LargeStores.{picture_of, referring_to}
use Rattle.hf_worked.specs.LimitStores.{numbered, holder, holders}
use Rattle.hf_store.proofs.Finds.{some_has}
use Rattle.hf_worked.proofs.Holders.{kind, holders-table, number-kind, from_on}
use Rattle.hf_plan.specs.Lay.{IsWrittenNumber, IsWrittenItem, IsWrittenExtent}
use Rattle.hf_plan.specs.Unwritten.{HasNoFile, wide_primary, wide_reference, wide_entity, group_of, ItemsAreCounted, ReferencesAreCounted, EntitiesAreCounted, PropertiesAreNumbered, LengthsFit}

pub no_minor : HasNoFile minor_of_five_bytes
unfolding minor_of_five_bytes
no_minor w F lay = let field = lay.numbers.minor in omega arith

pub no_id : HasNoFile id_of_five_bytes
unfolding id_of_five_bytes is_wide
no_id w F lay = let field = lay.numbers.items.0.id in omega arith

pub no_primary : HasNoFile wide_primary
unfolding wide_primary is_wide
no_primary w F lay = let field = lay.numbers.primary in omega arith

pub no_props : HasNoFile properties_256
unfolding properties_256
no_props w F lay = let field = lay.numbers.items.0.props in omega arith

pub no_version : HasNoFile group_of_wide_version
unfolding group_of_wide_version
no_version w F lay = let field = lay.numbers.groups.0.version in omega arith

pub no_flags : HasNoFile group_of_wide_flags
unfolding group_of_wide_flags
no_flags w F lay = let field = lay.numbers.groups.0.flags in omega arith

pub no_group_id : HasNoFile group_of_wide_id
unfolding group_of_wide_id
no_group_id w F lay = let field = lay.numbers.groups.0.id in omega arith

pub no_entity : HasNoFile wide_entity
unfolding wide_entity
no_entity w F lay = let field = lay.numbers.groups.0.entities in omega arith

pub no_reference : HasNoFile wide_reference
unfolding wide_reference referring_to is_wide
no_reference w F lay = let field = lay.numbers.items.0.refs.0.1.0 in omega (arith, field)

pub items_are_counted : ItemsAreCounted
items_are_counted s narrow count w F lay =
    let fits : length s.items < 256 ^ id_width false = subst (λ b. length s.items < 256 ^ id_width b) narrow lay.numbers.count in
    omega (arith, count, fits)

pub references_are_counted : ReferencesAreCounted
unfolding referring_to
references_are_counted ids count w F lay = let field = lay.numbers.items.0.refs.0.0 in omega (arith, count, field)

pub entities_are_counted : EntitiesAreCounted
unfolding group_of
entities_are_counted ids count w F lay = let field = lay.numbers.groups.0.count in omega (arith, count, field)

last_written : (wide : Bool) (table : List Prop) (each a n last rest : ℕ) → AllByRecursion (IsWrittenItem wide table) (from_on each a n last rest)
    → IsWrittenItem wide table (holder (last + 1) (each * last) rest)
last_written wide table each a zero last rest all = all.0
last_written wide table each a (suc n) last rest all = last_written wide table each (a + 1) n last rest all.1

last_number : (table : List Prop) (first n k : ℕ) → k ≡ first + n → AllByRecursion (IsWrittenNumber table) (map numbered (range_with_len first (suc n)))
    → IsWrittenNumber table (numbered k)
last_number table first zero k e all = let same : k ≡ first = omega arith in rw same all.0
last_number table first (suc n) k e all = last_number table (first + 1) n k (omega (arith, e)) all.1

fifteen_bits : (long : Bool) → (if long then 2 ^ 15 else 2 ^ 7) ≤ 2 ^ 15
fifteen_bits true = omega arith
fifteen_bits false = omega arith

-- the number of the last of so many distinct properties is their count
many_numbers : (count each rest k : ℕ) → k ≡ each * count + rest → 2 ^ 15 ≤ k + 1 → HasNoFile (holders count each (suc rest))
unfolding holders
many_numbers count each rest k e many w F lay =
    let s = holders count each (suc rest) in
    let last = last_written (is_wide s.items) (table_of s) each 0 count count (suc rest) lay.numbers.items in
    let table = holders-table count each (suc rest) (k + 1) (omega (arith, e)) in
    let kinds = map kind (range_with_len 0 (k + 1)) in
    let number = last_number (table_of s) (each * count) rest k e last.numbers in
    let fits : IsWrittenNumber kinds (numbered k) = subst (λ (t : List Prop). IsWrittenNumber t (numbered k)) table number in
    omega (arith, many, fits, number-kind k 0 (k + 1) (omega arith) (omega arith), fifteen_bits (is_long_table kinds))

pub properties_are_numbered : PropertiesAreNumbered
properties_are_numbered = many_numbers 128 255 127 32767 refl (omega arith)

pub lengths_fit : LengthsFit
unfolding picture_of
lengths_fit bytes F count lay =
    let some : with_bytes (picture_of bytes).items ≡ (picture_of bytes).items = rw (some_has bytes (omega (arith, count))) refl in
    let field = (subst (λ (is : List Item). AllByRecursion (IsWrittenExtent own 4 (length F) (picture_of bytes).items) is) some lay.numbers.extents).0.length in
    omega (arith, count, field)
