use Rattle.std.proofs.Common.{◌≡◌, ◌↔◌, ◌++◌, IsTrue, ap, sym, subst, ◌∙◌}
use Rattle.std.specs.Prelude.{codes}
use Rattle.odd_tokens.specs.Characters.{IsNCName}
use Rattle.odd_forms.proofs.Colon.{xml_named}
use Rattle.odd_forms.proofs.attributes.is_attribute_name.Goals as goal

pub returns-in_ok-from_str-in-Some : goal.returns-in_ok-from_str-in-Some
returns-in_ok-from_str-in-Some c =
    let value = c.args.value.now in
    let local = c.in-Some.local.now in
    let found = c.in-Some.ensures.cases in
    let is : value ≡ codes "xml:" ++ local = sym c.as_str.ensures ∙ found.1.1 ∙ ap (λ rest. codes "xml:" ++ rest) (sym found.2) in
    let named : IsTrue c.is_ncname-in-Some.result ↔ IsNCName local = subst (λ t. IsTrue c.is_ncname-in-Some.result ↔ IsNCName t) c.in_ok-from_str-in-Some.ensures c.is_ncname-in-Some.ensures in
    let told = xml_named value local is in
    (λ h. told.0 (named.0 h), λ a. named.1 (told.1 a))
