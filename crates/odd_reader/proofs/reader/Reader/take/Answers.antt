use Rattle.std.proofs.Common.{◌≡◌, ℕ, sym, ◌∙◌, subst}
use Rattle.odd_tokens.specs.declared.lexer.Fault.{Fault}
use Rattle.odd_tokens.specs.declared.lexer.Fault.TheVariants as fault
use Rattle.odd_reader.specs.Reading.{refusal_of_fault}
use Rattle.odd_tree.specs.Spelled.{DepthPlace, IsNotXml}
use Rattle.odd_reader.specs.declared.reader.ReadRefusal.TheVariants as refusal
use Rattle.odd_reader.proofs.Refusals.{misplaced_so, too_deep_so}
use Rattle.odd_reader.proofs.Taken.{place_between, goes_on, token_taken, malformed_place, misplaced_place, too_deep_place}
use Rattle.odd_reader.proofs.reader.Reader.take.Goals as goal

fault_so : (at place : ℕ) (f : Fault) → refusal_of_fault at f ≡ refusal.NotXml place → (f ≡ fault.Malformed) × (at ≡ place)
fault_so at place fault.Malformed e = (cc, cc)
fault_so at place fault.NoMemory e = cc

pub returns-in-Ok-None-clause-ok : goal.returns-in-Ok-None-clause-ok
returns-in-Ok-None-clause-ok c = λ cs e h. goes_on h c.args.c ((rw c.in-Ok-None.field-0-is at c.in-Ok-None.ensures.unfinished) _ _ h.unfinished h.read (λ n. place_between h n ∙ sym e))

pub returns-in-Err-clause-not_xml : goal.returns-in-Err-clause-not_xml
returns-in-Err-clause-not_xml c = λ place n cs rest e h.
    let f = fault_so c.place-place.result place c.in-Err.fault (sym c.of_fault.ensures ∙ n) in
    subst (IsNotXml _) (sym (c.place-place.ensures cs e h) ∙ f.1)
    (malformed_place h c.args.c rest (c.in-Err.ensures.malformed f.0 _ _ h.unfinished h.read (λ n. place_between h n ∙ sym e)))

pub returns-in-Ok-clause-ok : goal.returns-in-Ok-clause-ok
returns-in-Ok-clause-ok c = λ cs e h.
    token_taken h c.args.c c.in-Ok-Some.token _ ((rw c.in-Ok-Some.field-0-is at c.in-Ok-Some.ensures.ended) _ _ h.unfinished h.read (λ n. place_between h n ∙ sym e)) c.in-Ok.ensures

pub returns-in-Err-take-clause-not_xml : goal.returns-in-Err-take-clause-not_xml
returns-in-Err-take-clause-not_xml c = λ place n cs rest e h.
    let w = (rw c.in-Ok-Some.field-0-is at c.in-Ok-Some.ensures.ended) _ _ h.unfinished h.read (λ n. place_between h n ∙ sym e) in
    let f = misplaced_so c.place-place.result place c.in-Err-take.misfit _ (sym c.of_misfit.ensures ∙ n) c.in-Err-take.ensures in
    subst (IsNotXml _) (sym (c.place-place.ensures cs e h) ∙ f.1) (misplaced_place h c.args.c rest c.in-Ok-Some.token w.0 w.1 f.0)

pub returns-in-Err-take-clause-too_deep : goal.returns-in-Err-take-clause-too_deep
returns-in-Err-take-clause-too_deep c = λ place n cs rest e h.
    let w = (rw c.in-Ok-Some.field-0-is at c.in-Ok-Some.ensures.ended) _ _ h.unfinished h.read (λ n. place_between h n ∙ sym e) in
    let f = too_deep_so c.place-place.result place c.in-Err-take.misfit _ (sym c.of_misfit.ensures ∙ n) c.in-Err-take.ensures in
    subst (DepthPlace _) (sym (c.place-place.ensures cs e h) ∙ f.1) (too_deep_place h c.args.c rest c.in-Ok-Some.token w.0 w.1 f.0)
