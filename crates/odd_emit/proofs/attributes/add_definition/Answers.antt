use Rattle.std.proofs.Common.{◌∷◌, ◌∙◌, ◌++◌, [], ap, codes, sym}
use Rattle.std.proofs.lemmas.Bool.{false≢true}
use Rattle.std.proofs.lemmas.Result.{on_ok_weaker}
use Rattle.std.specs.Option.{option_map}
use Rattle.odd_emit.specs.Attributes.{alt_markup, datatype_markup, ident_said, ns_said, usage_value}
use Rattle.odd_emit.specs.Contents.{list_markup, mode_said}
use Rattle.odd_emit.specs.Saying.{elements_printed, present, says}
use Rattle.odd_emit.proofs.Put.{full_put, present_put}
use Rattle.odd_emit.proofs.attributes.add_definition.Goals as goal

pub returns : goal.returns
returns c =
    let first = alt_markup c.args.def.now.alt in
    let second = option_map datatype_markup c.args.def.now.datatype in
    let third = option_map list_markup c.args.def.now.vals in
    on_ok_weaker c.add_end_tag.result
    (full_put c.args.out.now (codes "attDef") (ident_said c.args.ident.now ∷ mode_said (codes "add") ∷ says (codes "usage") (usage_value c.args.def.now.needed) ∷ ns_said c.args.def.now.ns ∷ []) (present (first ∷ second ∷ third ∷ []))
    (λ none. false≢true (sym c.if-is_bare_definition.false ∙ c.is_bare_definition.ensures.1 none)) c.begin_tag.new.out c.add_definition_said.new.out c.end_start_tag.new.out c.add_values.new.out c.add_end_tag.new.out
    c.in_ok-begin_tag.ensures.ok c.in_ok-add_definition_said.ensures c.in_ok-end_start_tag.ensures.ok
    (present_put c.end_start_tag.new.out first (second ∷ third ∷ []) c.add_alt.new.out c.add_values.new.out (c.in_ok-add_alt.ensures ∙ ap (λ v. c.end_start_tag.new.out ++ elements_printed (present (alt_markup v ∷ []))) c.as_ref.ensures.value)
    (present_put c.add_alt.new.out second (third ∷ []) c.add_datatype.new.out c.add_values.new.out (c.in_ok-add_datatype.ensures ∙ ap (λ v. c.add_alt.new.out ++ elements_printed (present (option_map datatype_markup v ∷ []))) c.as_ref-2.ensures.value)
    (c.in_ok-add_values.ensures ∙ ap (λ v. c.add_datatype.new.out ++ elements_printed (present (option_map list_markup v ∷ []))) c.as_ref-3.ensures.value))))
    c.add_end_tag.ensures.ok
