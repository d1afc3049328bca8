use Rattle.std.proofs.Common.{◌∷◌, ◌∙◌, ◌++◌, [], Some, ap, codes}
use Rattle.std.proofs.lemmas.Result.{on_ok_weaker}
use Rattle.odd_emit.specs.Attributes.{alt_markup, edits_markup, ident_said}
use Rattle.odd_emit.specs.Components.{classes_markup, module_said, ns_value}
use Rattle.odd_emit.specs.Contents.{content_markup, mode_said}
use Rattle.odd_emit.specs.Saying.{elements_printed, present, says_if}
use Rattle.odd_emit.proofs.Put.{content_there, full_put, present_put, said_put, there_put}
use Rattle.odd_emit.proofs.components.add_element.Goals as goal

pub returns : goal.returns
returns c =
    let part = c.args.part.now in
    let alt = alt_markup part.alt in
    let classes = classes_markup part.classes in
    let content = content_markup part.content in
    let edits = edits_markup part.atts in
    let declared = ident_said c.args.ident.now ∷ module_said part.«module» ∷ mode_said (codes "add") ∷ [] in
    let ns = says_if (codes "ns") (ns_value part.ns) ∷ [] in
    on_ok_weaker c.add_end_tag.result
    (full_put c.args.out.now (codes "elementSpec") (ident_said c.args.ident.now ∷ module_said part.«module» ∷ mode_said (codes "add") ∷ says_if (codes "ns") (ns_value part.ns) ∷ [])
    (present (alt ∷ classes ∷ Some content ∷ edits ∷ [])) (content_there alt classes content edits) c.begin_tag.new.out c.add_namespace.new.out c.end_start_tag.new.out c.add_edits.new.out
    c.add_end_tag.new.out c.in_ok-begin_tag.ensures.ok
    (said_put c.begin_tag.new.out declared ns c.add_declared.new.out c.add_namespace.new.out c.in_ok-add_declared.ensures c.in_ok-add_namespace.ensures) c.in_ok-end_start_tag.ensures.ok
    (present_put c.end_start_tag.new.out alt (classes ∷ Some content ∷ edits ∷ []) c.add_alt.new.out c.add_edits.new.out
    (c.in_ok-add_alt.ensures ∙ ap (λ v. c.end_start_tag.new.out ++ elements_printed (present (alt_markup v ∷ []))) c.as_ref.ensures.value)
    (present_put c.add_alt.new.out classes (Some content ∷ edits ∷ []) c.add_classes.new.out c.add_edits.new.out c.in_ok-add_classes.ensures
    (present_put c.add_classes.new.out (Some content) (edits ∷ []) c.add_content.new.out c.add_edits.new.out
    (there_put c.add_classes.new.out c.add_content.new.out content c.in_ok-add_content.ensures) c.in_ok-add_edits.ensures))))
    c.add_end_tag.ensures.ok
