-- The attribute law: attributes are those that an element offers and needs where they meet the rules of its define.
use Rattle.std.proofs.Common.{◌↔◌, ℕ, List, map, sym, subst, ◌∙◌, ap}
use Rattle.std.proofs.lemmas.List.Elements.{All-contains}
use Rattle.std.specs.Prelude.{IsTrue}
use Rattle.compile_defines.proofs.Standing.{each_stands}
use Rattle.compile_defines.specs.Data.{value_pattern}
use Rattle.compile_defines.specs.Compiled.{rule_of}
use Rattle.odd_meaning.specs.Offering.{OffersOne, offer_cmp}
use Rattle.odd_attributes.specs.declared.att_def.AttDef.{AttDef}
use Rattle.odd_text.specs.Sorted.{IsSet}
use Rattle.odd_library.specs.declared.library.Library.{Library}
use Rattle.odd_meaning.specs.Attributed.{AreAdmittedAttributes, IsAdmittedAttribute}
use Rattle.odd_meaning.specs.Values.{IsAdmittedValue}
use Rattle.odd_text.proofs.InList.{contained, map_stands, stands_map}
use Rattle.odd_text.specs.Standing.{StandsIn}
use Rattle.odd_tree.specs.declared.tree.Attr.{Attr}
use Rattle.rng_grammar.specs.Acceptance.{AreRuled, HasRule, IsThere, IsValueOf}
use Rattle.rng_grammar.specs.declared.grammar.AttrRule.{AttrRule}
use Rattle.rng_grammar.specs.declared.grammar.Grammar.{Grammar}

module _ (library : Library) (g : Grammar) (element : List ℕ) (offers : List (List ℕ × AttDef)) (all : IsSet offer_cmp (OffersOne library element) offers)
    (kept : (ident : List ℕ) (def : AttDef) → StandsIn offers (ident, def) → (text : List ℕ) → IsAdmittedValue library def text ↔ IsValueOf g (value_pattern def) text)
    (attrs : List Attr) where
  -- the rules of what is offered
  abbrev rules : List AttrRule
  rules = map rule_of offers

  -- an attribute that is admitted has a rule
  has_rule : (a : Attr) → IsAdmittedAttribute library element a → HasRule g rules a
  has_rule a h =
      let stands = all.each (h.ident, h.def) (h.giver, h.offered) in
      (rule_of (h.ident, h.def), map_stands rule_of offers (h.ident, h.def) stands, sym h.named, (kept h.ident h.def stands a.value).0 h.value)

  -- and one that has a rule is admitted
  is_admitted : (a : Attr) → HasRule g rules a → IsAdmittedAttribute library element a
  is_admitted a (rule, among, named, value) =
      let o = stands_map rule_of offers rule among in
      let given = all.none_else o.0 o.1 in
      record {
        ident = o.0.0;
        def = o.0.1;
        giver = given.0;
        offered = given.1;
        named = sym named ∙ ap (λ (r : AttrRule). r.name) o.2;
        value = (kept o.0.0 o.0.1 o.1 a.value).1 (subst (λ (r : AttrRule). IsValueOf g r.value a.value) o.2 value);
      }

  -- so both are of the same attributes
  pub attribute_law : AreAdmittedAttributes library element attrs ↔ AreRuled g rules attrs
  attribute_law = (
    λ h. record {
      ruled = each_stands (HasRule g rules) attrs (λ a s. has_rule a (All-contains (IsAdmittedAttribute library element) attrs a h.admitted (contained attrs a s)));
      complete = each_stands (λ (r : AttrRule). IsTrue r.needed → IsThere attrs r) rules (λ r s.
          let o = stands_map rule_of offers r s in
          let given = all.none_else o.0 o.1 in
          subst (λ (q : AttrRule). IsTrue q.needed → IsThere attrs q) (sym o.2) (h.complete o.0.0 o.0.1 given.0 given.1));
    },
    λ m. record {
      admitted = each_stands (IsAdmittedAttribute library element) attrs (λ a s. is_admitted a (All-contains (HasRule g rules) attrs a m.ruled (contained attrs a s)));
      complete = λ ident def giver offered.
          let stands = map_stands rule_of offers (ident, def) (all.each (ident, def) (giver, offered)) in
          All-contains (λ (r : AttrRule). IsTrue r.needed → IsThere attrs r) rules (rule_of (ident, def)) m.complete (contained rules (rule_of (ident, def)) stands);
    },
  )
