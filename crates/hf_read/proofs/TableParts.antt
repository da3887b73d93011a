-- The tables of `meta`, where a box may be missing: what is read of them is what stands in them.
use Rattle.std.proofs.Common.{◌≡◌, ◌≤◌, List, [], Option, Some, None, Ok, refl, sym, ap, subst, arith}
use Rattle.hf_base.specs.Number.{IsBytes}
use Rattle.hf_base.specs.ReadingLaws.{ok_is}
use Rattle.hf_base.specs.declared.limits.TheConstants.{ROWS}
use Rattle.hf_base.specs.declared.loc.Loc.{Loc}
use Rattle.hf_base.specs.declared.loc.RefBox.{RefBox}
use Rattle.hf_box.specs.Boxes.{BoxAt}
use Rattle.hf_links.specs.Grpl.{Group}
use Rattle.hf_links.proofs.GrplLemmas.{grpl_again, grpl_take}
use Rattle.hf_links.proofs.IrefLemmas.{iref_again, iref_take}
use Rattle.hf_loc.specs.Iloc.{loc_rows}
use Rattle.hf_loc.proofs.IlocLemmas.{iloc_again, iloc_take}
use Rattle.hf_prop.specs.declared.iprp.Iprp.{Iprp}
use Rattle.hf_prop.proofs.IprpLemmas.{iprp_again, iprp_take}
use Rattle.hf_read.specs.Denotes.{LinksWithin, PropsWithin, GroupsWithin}
use Rattle.hf_read.specs.Tables.{AreLocs, AreLinks, AreProps, AreGroups, no_iprp, locs_in, links_in, iprp_in, groups_in}

-- the box that may be missing has bytes
abbrev pub HasBytes : Option BoxAt → Type 0
HasBytes o = (b : BoxAt) → o ≡ Some b → IsBytes b.body

pub locs_take : (o : Option BoxAt) (locs : List Loc) → HasBytes o → locs_in o ≡ Ok locs → AreLocs o locs × (loc_rows locs ≤ ROWS)
locs_take None locs fits e = let none = ok_is [] locs e in (sym none, subst (λ (l : List Loc). loc_rows l ≤ ROWS) none (omega arith))
locs_take (Some b) locs fits e = iloc_take ROWS b.at b.body locs (fits b refl) e

pub locs_again : (o : Option BoxAt) (locs : List Loc) → AreLocs o locs → loc_rows locs ≤ ROWS → locs_in o ≡ Ok locs
locs_again None locs are few = ap (λ (l : List Loc). Ok l) (sym are)
locs_again (Some b) locs are few = iloc_again ROWS b.at b.body locs are few

pub links_take : (o : Option BoxAt) (links : List RefBox) → HasBytes o → links_in o ≡ Ok links → AreLinks o links × LinksWithin o links
links_take None links fits e = (sym (ok_is [] links e), tt)
links_take (Some b) links fits e = let within = iref_take b links (fits b refl) e in (within.0, within)

pub links_again : (o : Option BoxAt) (links : List RefBox) → AreLinks o links → LinksWithin o links → links_in o ≡ Ok links
links_again None links are within = ap (λ (l : List RefBox). Ok l) (sym are)
links_again (Some b) links are within = iref_again b links within

pub iprp_in_take : (o : Option BoxAt) (v : Iprp) → HasBytes o → iprp_in o ≡ Ok v → AreProps o v × PropsWithin o v
iprp_in_take None v fits e = (sym (ok_is no_iprp v e), tt)
iprp_in_take (Some b) v fits e = let within = iprp_take ROWS b v (fits b refl) e in (within.stands, within)

pub iprp_in_again : (o : Option BoxAt) (v : Iprp) → AreProps o v → PropsWithin o v → iprp_in o ≡ Ok v
iprp_in_again None v are within = ap (λ (x : Iprp). Ok x) (sym are)
iprp_in_again (Some b) v are within = iprp_again ROWS b v within

pub groups_take : (o : Option BoxAt) (groups : List Group) → HasBytes o → groups_in o ≡ Ok groups → AreGroups o groups × GroupsWithin o groups
groups_take None groups fits e = (sym (ok_is [] groups e), tt)
groups_take (Some b) groups fits e = let within = grpl_take b groups (fits b refl) e in (within.0, within)

pub groups_again : (o : Option BoxAt) (groups : List Group) → AreGroups o groups → GroupsWithin o groups → groups_in o ≡ Ok groups
groups_again None groups are within = ap (λ (l : List Group). Ok l) (sym are)
groups_again (Some b) groups are within = grpl_again b groups within
