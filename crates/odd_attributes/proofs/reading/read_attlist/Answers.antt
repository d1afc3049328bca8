use Rattle.std.proofs.Common.{◌≡◌, None, Some, [], subst}
use Rattle.odd_forms.specs.Deep.{DeepFault}
use Rattle.odd_text.specs.Least.{IsLeast}
use Rattle.odd_forms.specs.declared.element.Element.TheVariants as element
use Rattle.odd_attributes.specs.Giving.{AttListFault}
use Rattle.odd_attributes.proofs.EditsSaid.{edits_said}
use Rattle.odd_attributes.proofs.FormedReading.{read_formed}
use Rattle.odd_attributes.proofs.ReadLists.{least_read, list_read}
use Rattle.odd_attributes.proofs.reading.read_attlist.Goals as goal

pub returns-in_ok-edits_in-in-None-clause-each : goal.returns-in_ok-edits_in-in-None-clause-each
returns-in_ok-edits_in-in-None-clause-each c = edits_said c.args.tree.now c.in_ok-edits_in-in-None.field-0 c.in_ok-edits_in-in-None.ensures

pub returns-in_ok-edits_in-in-None-clause-sound : goal.returns-in_ok-edits_in-in-None-clause-sound
returns-in_ok-edits_in-in-None-clause-sound c = λ ok first end formed.
    let list = c.args.tree.now in
    let h = c.in_ok-rule.ensures first end formed in
    least_read list h.0 c.args.aside None h.1 (subst (IsLeast (DeepFault element.AttList 60 [] h.0)) c.in-None.is h.2)

pub returns-in_ok-edits_in-in-None-clause-formed : goal.returns-in_ok-edits_in-in-None-clause-formed
returns-in_ok-edits_in-in-None-clause-formed c = λ first end formed.
    let list = c.args.tree.now in
    let h = c.in_ok-rule.ensures first end (λ aside. formed) in
    read_formed list h.0 c.in_ok-edits_in-in-None.field-0 (list_read list h.0 c.args.aside h.1) (subst (IsLeast (DeepFault element.AttList 60 [] h.0)) c.in-None.is h.2) formed
    c.in_ok-edits_in-in-None.ensures

pub returns-in-Some-clause-rule : goal.returns-in-Some-clause-rule
returns-in-Some-clause-rule c = λ rule refused first end formed.
    let list = c.args.tree.now in
    let h = c.in_ok-rule.ensures first end formed in
    let least = least_read list h.0 c.args.aside (Some c.in-Some.rule) h.1 (subst (IsLeast (DeepFault element.AttList 60 [] h.0)) c.in-Some.is h.2) in
    let same : c.in-Some.rule ≡ rule = cc in
    subst (λ n. IsLeast (AttListFault list c.args.aside) (Some n)) same least
