use Rattle.std.proofs.Common.{sym, subst}
use Rattle.odd_items.specs.Searching.{AreKept}
use Rattle.odd_decls.proofs.SchemasFirst.{none_offends, schemas_first}
use Rattle.odd_decls.proofs.faults.schemas_fault.Goals as goal

pub returns-in_default : goal.returns-in_default
returns-in_default c t first end formed are =
    let levels = c.args.of.now.levels.items in
    none_offends levels c.as_slice.result.now are.schemas c.in_default.len_below (subst (λ ks. AreKept levels ks are.schemas) (sym c.as_slice.ensures.value) are.kept)

pub returns : goal.returns
returns c t first end formed are =
    let levels = c.args.of.now.levels.items in
    schemas_first first end t levels c.as_slice.result.now are.schemas c.first-item.result _ _ _ formed are.finds
    (subst (λ ks. AreKept levels ks are.schemas) (sym c.as_slice.ensures.value) are.kept) c.in-len1-up.len_at_least c.first-item.is
    (λ found kept. c.in_ok-itself.ensures found (rw c.as_slice-2.ensures.value kept)) c.second_fault.ensures c.lesser.ensures
