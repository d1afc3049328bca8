use Rattle.std.proofs.Common.{◌≡◌, ℕ, List, [], ◌∷◌, ◌++◌, ◌∙◌, codes, map, refl, sym}
use Rattle.std.proofs.lemmas.Bool.{false≢true}
use Rattle.std.proofs.lemmas.Result.{on_ok_weaker}
use Rattle.odd_tree.specs.Markup.{printed}
use Rattle.odd_printing.proofs.Shapes.{some_made}
use Rattle.odd_emit.specs.Components.{classes_markup, member_markup}
use Rattle.odd_emit.specs.Contents.{mode_said}
use Rattle.odd_emit.specs.Saying.{elements_printed, present, spoken}
use Rattle.odd_emit.proofs.Put.{full_put, there_put}
use Rattle.odd_emit.proofs.components.add_classes.Goals as goal

-- classes that are some are there
classes_put : (o new : List ℕ) (ws : List (List ℕ)) → (ws ≡ [] → ⊥) → new ≡ o ++ printed (spoken (codes "classes") (mode_said (codes "replace") ∷ []) (map member_markup ws))
    → new ≡ o ++ elements_printed (present (classes_markup ws ∷ []))
classes_put o new [] some e = absurd (some refl)
classes_put o new (w ∷ ws) some e = there_put o new (spoken (codes "classes") (mode_said (codes "replace") ∷ []) (map member_markup (w ∷ ws))) e

pub returns : goal.returns
returns c =
    let words = c.args.classes.now in
    on_ok_weaker c.add_end_tag.result
    (λ e. classes_put c.args.out.now c.add_end_tag.new.out words (λ none. false≢true (sym c.if-is_empty.false ∙ c.is_empty.ensures.1 none))
    (full_put c.args.out.now (codes "classes") (mode_said (codes "replace") ∷ []) (map member_markup words)
    (some_made member_markup words c.is_empty.result c.is_empty.ensures.1 c.if-is_empty.false) c.begin_tag.new.out c.add_mode.new.out c.end_start_tag.new.out c.add_members.new.out
    c.add_end_tag.new.out c.in_ok-begin_tag.ensures.ok c.in_ok-add_mode.ensures c.in_ok-end_start_tag.ensures.ok c.in_ok-add_members.ensures e))
    c.add_end_tag.ensures.ok
