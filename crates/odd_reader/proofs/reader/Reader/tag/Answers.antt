use Rattle.std.proofs.Common.{refl, sym, ap, ◌∙◌, subst}
use Rattle.odd_tree.specs.Spelled.{DepthPlace, IsNotXml}
use Rattle.odd_reader.specs.Building.{build, kept_of}
use Rattle.odd_reader.specs.Stepping.{Refuses}
use Rattle.odd_reader.specs.Tagging.{IsTokenFirst}
use Rattle.odd_reader.proofs.Refusals.{misplaced_so, too_deep_so}
use Rattle.odd_reader.proofs.Stepping.{token_advances, token_misplaced, token_too_deep}
use Rattle.odd_reader.proofs.reader.Reader.tag.Goals as goal

pub returns-in-Ok-clause-ok : goal.returns-in-Ok-clause-ok
returns-in-Ok-clause-ok c =
    let f : IsTokenFirst c.args.at c.args.text.now c.in-Ok-Some.token c.in-Ok-Some.rest.now = rw c.in-Ok-Some.field-0-is at c.in-Ok-Some.ensures in
    token_advances c.args.self.now _ c.args.at c.args.text.now c.in-Ok-Some.rest.now c.requires.inside refl f.token f.is_lexed f.parts f.shorter
    (ap (build (kept_of c.args.self.now.builder)) (sym f.is_made) ∙ c.in-Ok.ensures)

pub returns-in-Err-take-clause-not_xml : goal.returns-in-Err-take-clause-not_xml
returns-in-Err-take-clause-not_xml c = λ place n.
    let f : IsTokenFirst c.args.at c.args.text.now c.in-Ok-Some.token c.in-Ok-Some.rest.now = rw c.in-Ok-Some.field-0-is at c.in-Ok-Some.ensures in
    let m = misplaced_so c.args.at place c.in-Err-take.misfit _ (sym c.of_misfit.ensures ∙ n) c.in-Err-take.ensures in
    subst (Refuses IsNotXml c.args.self.now c.args.at c.args.text.now) m.1
    (token_misplaced c.args.self.now c.args.at c.args.text.now c.in-Ok-Some.rest.now c.requires.inside f.token f.is_lexed f.parts
    (ap (build (kept_of c.args.self.now.builder)) (sym f.is_made) ∙ m.0))

pub returns-in-Err-take-clause-too_deep : goal.returns-in-Err-take-clause-too_deep
returns-in-Err-take-clause-too_deep c = λ place n.
    let f : IsTokenFirst c.args.at c.args.text.now c.in-Ok-Some.token c.in-Ok-Some.rest.now = rw c.in-Ok-Some.field-0-is at c.in-Ok-Some.ensures in
    let m = too_deep_so c.args.at place c.in-Err-take.misfit _ (sym c.of_misfit.ensures ∙ n) c.in-Err-take.ensures in
    subst (Refuses DepthPlace c.args.self.now c.args.at c.args.text.now) m.1
    (token_too_deep c.args.self.now c.args.at c.args.text.now c.in-Ok-Some.rest.now c.requires.inside f.token f.is_lexed f.parts
    (ap (build (kept_of c.args.self.now.builder)) (sym f.is_made) ∙ m.0))
