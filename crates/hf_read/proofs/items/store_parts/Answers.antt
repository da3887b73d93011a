use Rattle.std.specs.Option.{option_copied}
use Rattle.hf_head.specs.Ftyp.{brands_of}
use Rattle.hf_links.specs.Grpl.{groups_of}
use Rattle.hf_store.specs.Seen.{items_of}
use Rattle.hf_read.proofs.MadeItems.{store_is}
use Rattle.hf_read.proofs.items.store_parts.Goals as goal

pub returns : goal.returns
returns c = λ t are.
    let idat = option_copied c.args.idat in
    let found = c.in_ok-items.ensures t are in (
      found.0,
      store_is c.args.file.now idat (brands_of c.args.brands) c.args.primary t c.args.tables (items_of c.in_ok-items.items) (groups_of c.in_ok-groups.groups)
          are found.1 c.in_ok-groups.ensures,
    )
