use Rattle.std.proofs.Common.{◌≡◌, ap, sym, subst, ◌∙◌}
use Rattle.std.proofs.lemmas.Bool.{ltb-true}
use Rattle.std.specs.Cmp.Lexicographic.{same_text}
use Rattle.std.specs.FinMap.{find, is_sorted}
use Rattle.std.specs.Prelude.{IsTrue}
use Rattle.odd_text.specs.Text.{text_cmp}
use Rattle.rng_grammar.proofs.Counting.{find_here}
use Rattle.rng_grammar.proofs.nodes.place_at.Goals as goal

pub returns-in-Some : goal.returns-in-Some
returns-in-Some c = λ place e.
    let es = c.entries.result.now in
    let entry = c.in-Some.field-0.now in
    let same : entry.0 ≡ c.args.name.now = same_text _ _ (sym c.if-eq.true ∙ c.eq.ensures) in
    let up = subst (λ entries. IsTrue (is_sorted text_cmp entries)) (sym c.entries.ensures.all) c.entries.ensures.rising in
    let here = find_here es c.args.at entry up (ltb-true _ _ (sym c.in-Some.ensures.lookup.0)) c.in-Some.ensures.lookup.1 in
    sym (sym here ∙ ap (λ key. find text_cmp key es) same ∙ ap (find text_cmp c.args.name.now) c.entries.ensures.all) ∙ e
