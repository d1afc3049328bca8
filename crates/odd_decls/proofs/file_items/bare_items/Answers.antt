use Rattle.std.proofs.Common.{sym, subst}
use Rattle.odd_items.specs.Searching.{AreKept}
use Rattle.odd_decls.proofs.ItemsListed.{bare_are}
use Rattle.odd_decls.proofs.file_items.bare_items.Goals as goal

pub returns : goal.returns
returns c =
    let f = c.in_ok-levels.ensures in
    bare_are c.args.tree.now f.0 c.in_ok-levels.field-0.levels.items c.in_ok-items.items.items f.1
    (c.in_ok-items.ensures c.in_ok-levels.field-0.levels.items f.0 (subst (λ ks. AreKept c.in_ok-levels.field-0.levels.items ks f.0) (sym c.as_slice.ensures.value) f.2))
