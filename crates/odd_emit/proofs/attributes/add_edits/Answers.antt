use Rattle.std.proofs.Common.{◌≡◌, ℕ, List, [], ◌∷◌, ◌++◌, ◌∙◌, append-nil, codes, map, refl, sym}
use Rattle.std.proofs.lemmas.Bool.{false≢true}
use Rattle.std.proofs.lemmas.Result.{on_ok_weaker}
use Rattle.odd_tree.specs.Markup.{printed}
use Rattle.odd_attributes.specs.declared.att_edit.AttEdit.{AttEdit}
use Rattle.odd_printing.proofs.Shapes.{some_made}
use Rattle.odd_emit.specs.Attributes.{edit_markup, edits_markup}
use Rattle.odd_emit.specs.Saying.{elements_printed, present, spoken}
use Rattle.odd_emit.proofs.Put.{full_put, there_put}
use Rattle.odd_emit.proofs.attributes.add_edits.Goals as goal

-- edits that are some are there
edits_put : (o new : List ℕ) (es : List (List ℕ × AttEdit)) → (es ≡ [] → ⊥) → new ≡ o ++ printed (spoken (codes "attList") [] (map edit_markup es))
    → new ≡ o ++ elements_printed (present (edits_markup es ∷ []))
edits_put o new [] some e = absurd (some refl)
edits_put o new (x ∷ es) some e = there_put o new (spoken (codes "attList") [] (map edit_markup (x ∷ es))) e

pub returns : goal.returns
returns c =
    let edits = c.args.edits.now in
    on_ok_weaker c.add_end_tag.result
    (λ e. edits_put c.args.out.now c.add_end_tag.new.out edits (λ none. false≢true (sym c.if-is_empty.false ∙ c.is_empty.ensures.1 none))
    (full_put c.args.out.now (codes "attList") [] (map edit_markup edits) (some_made edit_markup edits c.is_empty.result c.is_empty.ensures.1 c.if-is_empty.false)
    c.begin_tag.new.out c.begin_tag.new.out c.end_start_tag.new.out c.add_each_edit.new.out c.add_end_tag.new.out c.in_ok-begin_tag.ensures.ok (sym (append-nil c.begin_tag.new.out))
    c.in_ok-end_start_tag.ensures.ok c.in_ok-add_each_edit.ensures e))
    c.add_end_tag.ensures.ok
