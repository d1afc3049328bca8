-- A file declares one doc, with `aside` or without.
use Rattle.std.proofs.Common.{◌≡◌, Bool, subst}
use Rattle.odd_decls.proofs.OneDoc.{one_doc_whole}
use Rattle.odd_decls.proofs.ReadWith.{one_read}
use Rattle.odd_decls.specs.Declares.{Declares, DeclaresWhole}
use Rattle.odd_library.specs.declared.odd.OddDoc.{OddDoc}
use Rattle.odd_tree.specs.declared.tree.Tree.{Tree}

pub one_doc : (t : Tree) {aside : Bool} (d e : OddDoc) → Declares t aside d → Declares t aside e → d ≡ e
one_doc t {aside = aside} d e p q =
    let same = one_read t p.read q.read aside d.asides e.asides p.is_read q.is_read in
    one_doc_whole q.read d e (subst (λ u. DeclaresWhole u d) same.0 p.declares) q.declares same.1
