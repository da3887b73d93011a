use Rattle.std.proofs.Common.{◌≡◌, ℕ, ◌<◌, List, Result, Ok, Err, sym, ap, subst, ◌∙◌}
use Rattle.hf_base.specs.Members.{Rises}
use Rattle.hf_base.specs.Reading.{MatchOpen}
use Rattle.hf_base.specs.declared.fault.ReadRefusal.{ReadRefusal}
use Rattle.hf_info.specs.Iinf.{iinf_at, info_ids}
use Rattle.hf_info.specs.Infe.{Info, infos_of}
use Rattle.hf_info.specs.declared.infe.Info.{Info as View}
use Rattle.hf_read.specs.Faults.{no_primary_fault, dangling_need_fault, bad_property_fault}
use Rattle.hf_read.specs.Reading.{links_for, props_for, tables_at, tables_of}
use Rattle.hf_read.specs.Seen.{AreTablesOf, parts_seen}
use Rattle.hf_read.specs.Tables.{Tables, infos_by_id, item_ids, locs_in, links_in, iprp_in}
use Rattle.hf_read.specs.TopLevel.{Parts}
use Rattle.hf_read.proofs.Steps.{joined, same_steps}
use Rattle.hf_read.proofs.tables.read_tables.Goals as goal

-- the ids beside the entries by rising id
are : (infos : List Info) {sorted slice : List View} {ids : List ℕ}
    → infos_of sorted ≡ infos_by_id infos → slice ≡ sorted → ids ≡ info_ids (infos_of slice) → ids ≡ item_ids infos
are infos by same ids = ids ∙ ap (λ (l : List View). info_ids (infos_of l)) same ∙ ap info_ids by

-- what is left of the program behind the entries on items and the primary item
whole : (primary : ℕ) (parts : Parts) (infos : List Info) → iinf_at parts.iinf ≡ Ok infos → no_primary_fault (item_ids infos) primary ≡ Ok tt
    → tables_of infos (item_ids infos) parts ≡ tables_at primary parts
unfolding tables_at tables_of links_for props_for
whole primary parts infos read there =
    let ids = item_ids infos in
    rw (read, there) (same_steps (locs_in parts.iloc) _ _ (λ locs.
    joined (links_in parts.iref) _ _ ∙ same_steps (links_in parts.iref) _ _ (λ links.
    joined (dangling_need_fault ids links) _ _ ∙ same_steps (dangling_need_fault ids links) _ _ (λ needs.
    joined (iprp_in parts.iprp) _ _ ∙ same_steps (iprp_in parts.iprp) _ _ (λ iprp. joined (bad_property_fault ids iprp) _ _)))))

pub check_primary-requires : goal.check_primary-requires
check_primary-requires c =
    let x = c.in_ok-infos.ensures in
    let ids = are x.0 x.2 c.deref.ensures.value c.in_ok-ids.ensures in
    subst (λ (l : List ℕ). Rises ◌<◌ l) (sym (c.deref-2.ensures.value ∙ ids)) x.3

pub tables_with-requires-clause-rise : goal.tables_with-requires-clause-rise
tables_with-requires-clause-rise c =
    let x = c.in_ok-infos.ensures in
    let ids = are x.0 x.2 c.deref.ensures.value c.in_ok-ids.ensures in
    subst (λ (l : List ℕ). Rises ◌<◌ l) (sym ids) x.3

pub returns-clause-exact : goal.returns-clause-exact
returns-clause-exact c =
    let parts = parts_seen c.args.parts.now in
    let x = c.in_ok-infos.ensures in
    let ids : c.in_ok-ids.ids.items ≡ item_ids x.0 = are x.0 x.2 c.deref.ensures.value c.in_ok-ids.ensures in
    let there : no_primary_fault (item_ids x.0) c.args.primary ≡ Ok tt =
    ap (λ (l : List ℕ). no_primary_fault l c.args.primary) (sym (c.deref-2.ensures.value ∙ ids)) ∙ c.in_ok-check_primary.ensures in
    let all = ap (λ (l : List ℕ). tables_of x.0 l parts) ids ∙ whole c.args.primary parts x.0 x.1 there in
    subst (λ (read : Result Tables ReadRefusal). MatchOpen c.tables_with.result (λ m. (t : Tables) × (read ≡ Ok t) × AreTablesOf m t) (λ why. read ≡ Err why))
    all (c.tables_with.ensures.exact x.0 x.2 ids)
