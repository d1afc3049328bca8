use Rattle.std.proofs.Common.{◌∷◌, [], codes}
use Rattle.std.proofs.lemmas.Result.{on_ok_weaker}
use Rattle.odd_forms.specs.Names.{tei_namespace}
use Rattle.odd_emit.specs.Attributes.{ident_said}
use Rattle.odd_emit.specs.Saying.{a_text, says, some_names}
use Rattle.odd_emit.proofs.Put.{said_put}
use Rattle.odd_emit.proofs.printing.add_schema_said.Goals as goal

pub returns : goal.returns
returns c =
    let o = c.args.out.now in
    let root = says (codes "xmlns") (a_text tei_namespace) in
    let ident = ident_said c.args.library.now.ident in
    let start = says (codes "start") (some_names c.args.library.now.start) in
    on_ok_weaker c.add_names.result
    (said_put o (root ∷ ident ∷ []) (start ∷ []) c.add_ident.new.out c.add_names.new.out
    (said_put o (root ∷ []) (ident ∷ []) c.add_root_namespace.new.out c.add_ident.new.out c.in_ok-add_root_namespace.ensures c.in_ok-add_ident.ensures))
    c.add_names.ensures
