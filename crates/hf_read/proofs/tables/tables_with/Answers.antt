use Rattle.std.proofs.Common.{◌≡◌, ◌<◌, ℕ, List, Ok, refl, sym, ap, subst, ◌∙◌}
use Rattle.hf_base.specs.Members.{Rises}
use Rattle.hf_links.specs.Grpl.{groups_of}
use Rattle.hf_read.specs.Reading.{links_for, props_for, tables_of}
use Rattle.hf_read.specs.Seen.{parts_seen}
use Rattle.hf_read.specs.Tables.{Tables, locs_in, groups_in}
use Rattle.hf_read.specs.TopLevel.{Parts}
use Rattle.hf_read.proofs.tables.tables_with.Goals as goal

made : (ids : List ℕ) (parts : Parts) (t : Tables) → locs_in parts.iloc ≡ Ok t.locs → links_for ids parts.iref ≡ Ok t.links
    → props_for ids parts.iprp ≡ Ok t.iprp → groups_in parts.grpl ≡ Ok t.groups → tables_of t.infos ids parts ≡ Ok t
unfolding tables_of
made ids parts t locs links iprp groups = rw (locs, links, iprp, groups) refl

pub needs_of-requires-clause-rise : goal.needs_of-requires-clause-rise
needs_of-requires-clause-rise c = subst (λ (l : List ℕ). Rises ◌<◌ l) (sym c.deref.ensures.value) c.requires.rise

pub picks_of-requires-clause-rise : goal.picks_of-requires-clause-rise
picks_of-requires-clause-rise c = subst (λ (l : List ℕ). Rises ◌<◌ l) (sym c.deref-2.ensures.value) c.requires.rise

pub returns-clause-exact : goal.returns-clause-exact
returns-clause-exact c = λ entries by ids.
    let parts = parts_seen c.args.parts.now in
    let t : Tables = record { infos = entries; locs = c.in_ok-locs.locs.items; links = c.in_ok-links.links.items; iprp = c.in_ok-iprp.iprp; groups = groups_of c.in_ok-groups.groups.items } in
    let links : links_for c.args.ids.items parts.iref ≡ Ok t.links = ap (λ (l : List ℕ). links_for l parts.iref) (sym c.deref.ensures.value) ∙ c.in_ok-links.ensures in
    let props : props_for c.args.ids.items parts.iprp ≡ Ok t.iprp = ap (λ (l : List ℕ). props_for l parts.iprp) (sym c.deref-2.ensures.value) ∙ c.in_ok-iprp.ensures.exact in
    let read = made c.args.ids.items parts t c.in_ok-locs.ensures.exact links props c.in_ok-groups.ensures.exact in
    (t, read, record { infos = by; ids = ids; locs = refl; links = refl; iprp = refl; groups = refl })
