use Rattle.std.proofs.Common.{◌∷◌, ◌∙◌, [], codes, sym}
use Rattle.std.proofs.lemmas.Bool.{false≢true}
use Rattle.std.proofs.lemmas.Result.{on_ok_weaker}
use Rattle.odd_emit.specs.Attributes.{edits_markup, ident_said}
use Rattle.odd_emit.specs.Components.{classes_markup, module_said, type_word}
use Rattle.odd_emit.specs.Contents.{mode_said}
use Rattle.odd_emit.specs.Saying.{a_word, present, says}
use Rattle.odd_emit.proofs.Put.{full_put, present_put}
use Rattle.odd_emit.proofs.components.add_class.Goals as goal

pub returns : goal.returns
returns c =
    let part = c.args.part.now in
    let first = classes_markup part.classes in
    let second = edits_markup part.atts in
    on_ok_weaker c.add_end_tag.result
    (full_put c.args.out.now (codes "classSpec")
    (ident_said c.args.ident.now ∷ says (codes "type") (a_word (type_word part.gives)) ∷ module_said part.«module» ∷ mode_said (codes "add") ∷ []) (present (first ∷ second ∷ []))
    (λ none. false≢true (sym c.if-is_bare_class.false ∙ c.is_bare_class.ensures.1 none)) c.begin_tag.new.out c.add_class_said.new.out c.end_start_tag.new.out c.add_edits.new.out
    c.add_end_tag.new.out c.in_ok-begin_tag.ensures.ok c.in_ok-add_class_said.ensures c.in_ok-end_start_tag.ensures.ok
    (present_put c.end_start_tag.new.out first (second ∷ []) c.add_classes.new.out c.add_edits.new.out c.in_ok-add_classes.ensures c.in_ok-add_edits.ensures))
    c.add_end_tag.ensures.ok
