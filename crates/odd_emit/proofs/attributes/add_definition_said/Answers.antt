use Rattle.std.proofs.Common.{◌∷◌, ◌∙◌, ◌++◌, [], ap, codes}
use Rattle.std.proofs.lemmas.Result.{on_ok_weaker}
use Rattle.odd_emit.specs.Attributes.{ident_said, ns_said, usage_value}
use Rattle.odd_emit.specs.Contents.{mode_said}
use Rattle.odd_emit.specs.Saying.{said_printed, says}
use Rattle.odd_emit.proofs.Put.{said_put}
use Rattle.odd_emit.proofs.attributes.add_definition_said.Goals as goal

pub returns : goal.returns
returns c =
    let o = c.args.out.now in
    let ident = ident_said c.args.ident.now in
    let mode = mode_said (codes "add") in
    let usage = says (codes "usage") (usage_value c.args.def.now.needed) in
    let ns = ns_said c.args.def.now.ns in
    on_ok_weaker c.add_ns.result
    (λ e. said_put o (ident ∷ mode ∷ usage ∷ []) (ns ∷ []) c.add_usage.new.out c.add_ns.new.out
    (said_put o (ident ∷ mode ∷ []) (usage ∷ []) c.add_mode.new.out c.add_usage.new.out
    (said_put o (ident ∷ []) (mode ∷ []) c.add_ident.new.out c.add_mode.new.out c.in_ok-add_ident.ensures c.in_ok-add_mode.ensures) c.in_ok-add_usage.ensures)
    (e ∙ ap (λ v. c.add_usage.new.out ++ said_printed (ns_said v ∷ [])) c.as_ref.ensures.value))
    c.add_ns.ensures
