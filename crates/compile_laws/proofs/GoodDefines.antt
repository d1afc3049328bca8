-- And of each pattern of a library's grammar, where it holds of references to its defines.
use Rattle.std.specs.Prelude.{All}
use Rattle.compile_defines.specs.Conditions.{conditions_in, conditions_of}
use Rattle.compile_defines.specs.Contents.{content_pattern, holds_element, reference, condition_name, references_pattern}
use Rattle.compile_defines.proofs.NamedDefines.{entry_stands, listed_is}
use Rattle.compile_defines.specs.Compiled as compiled
use Rattle.odd_content.specs.declared.content.Condition.{Condition}
use Rattle.odd_content.specs.declared.content.Content.{Content}
use Rattle.odd_library.specs.Formed.{IsFormedLibrary}
use Rattle.odd_library.specs.Library.{content_of}
use Rattle.odd_library.specs.Odd.{element_key}
use Rattle.odd_library.specs.declared.library.Component.{Component}
use Rattle.odd_library.specs.declared.library.Component.TheVariants as component
use Rattle.odd_library.specs.declared.library.Library.{Library}
use Rattle.odd_text.specs.declared.key.Key.{Key}
use Rattle.odd_text.specs.Standing.{StandsIn}
use Rattle.rng_grammar.specs.declared.grammar.Define.{Define}
use Rattle.rng_grammar.specs.declared.grammar.Expr.{Expr}
use Rattle.rng_grammar.specs.declared.grammar.Expr.TheVariants as expr
use Rattle.compile_laws.proofs.Closed.{IsClosed, references_good, throughout_good}
use Rattle.compile_laws.proofs.ConditionClass.{IsElementBody, IsEmptyBody, body_kind}
use Rattle.odd_content.specs.Formed.{IsFormedContent}
use Rattle.odd_meaning.specs.Links.{IsHeld, datatype_key, macro_key, named_by, named_by_edits, named_in}
use Rattle.odd_text.proofs.InList.{stands_map}
use Rattle.compile_defines.proofs.Standing.{each_stands, stands_left, HoldsElementAt, element_found, macro_found}
use Rattle.std.proofs.lemmas.List.Elements.{All-nil, All-cons, All-map}
use Rattle.rng_grammar.specs.declared.grammar.AttrPart.TheVariants as attributes
use Rattle.rng_grammar.specs.declared.grammar.AttrRule.{AttrRule}
use Rattle.rng_grammar.specs.declared.grammar.Grammar.{Grammar}
use Rattle.rng_grammar.specs.Linked.{patterns_of, values_of}
use Rattle.compile_defines.specs.Compiled.{HoldsStart, IsDefineOf, IsGrammarOf, class_define, condition_body, condition_define, content_throughout, element_define, macro_define, rule_of}
use Rattle.std.specs.FinMap.{find}
use Rattle.odd_text.specs.Key.{key_cmp}
use Rattle.std.proofs.Common.{◌≡◌, ℕ, Bool, true, false, List, [], Some, map, refl, sym, subst, ⊎_elim, ◌∷◌}
use Rattle.compile_laws.proofs.DatatypeLaw.{data_is}
use Rattle.compile_laws.proofs.MacroLaw.{BreaksNone}
use Rattle.compile_laws.proofs.OfferLaw.{named_held, offer_sound}
use Rattle.compile_laws.proofs.Good.{IsGoodFor, content_good, data_in}
use Rattle.compile_laws.proofs.GoodData.{IsGoodOfData, data_good, value_good}

module _ (library : Library) (start : List (List ℕ)) (g : Grammar) (is : IsGrammarOf library start g) (f : IsFormedLibrary library) (none : BreaksNone library) (Good : Expr → Type 0)
    (closed : IsClosed Good) (text : Good expr.Text) (of_data : IsGoodOfData Good (λ key. IsHeld library (datatype_key key)))
    (defined : (d : Define) → IsDefineOf library is.conditions is.members is.offers d → Good (expr.Ref d.name)) where
  -- a reference to a held element
  held_good : (ident : List ℕ) → HoldsElementAt library ident → Good (reference ident)
  held_good ident at = defined (element_define library is.conditions is.members (is.offers ident) ident at.0) (compiled.of_element ident at.0 at.1 refl)

  -- a reference to a member of a class
  member_good : (class : List ℕ) (idents : List (List ℕ)) (ident : List ℕ) → is.members class ≡ Some idents → StandsIn idents ident → Good (reference ident)
  member_good class idents ident e s = let m = (listed_is library is.members class idents is.are_members e).1.none_else ident s in held_good ident (m.part, m.held)

  -- all that a formed content refers to, where its conditions are the library's and the datatypes that it names are held
  references_in : (c : Content) → IsFormedContent c → ((k : Condition) → StandsIn (conditions_in c) k → StandsIn is.conditions k)
      → ((key : List ℕ) → StandsIn (named_in c) (datatype_key key) → IsHeld library (datatype_key key)) → IsGoodFor Good library is.conditions is.members (named_in c) (conditions_in c) (data_in c)
  references_in c formed among held = record {
    elements = λ key h. held_good key (element_found library key h);
    classes = λ key idents e. defined (class_define key idents) (compiled.of_class key idents e refl);
    each_member = member_good;
    macros = λ key s h. let at = macro_found library key h in defined (macro_define library is.conditions is.members key at.0) (compiled.of_macro key at.0 at.1 refl);
    each_condition = λ k s. defined (condition_define is.conditions k) (compiled.of_condition k (among k s) refl);
    each_data = data_good Good closed text library is.conditions is.members (λ key. IsHeld library (datatype_key key)) of_data 60 c formed held;
  }

  -- the content of a held component
  entry_good : (key : Key) (part : Component) → find key_cmp key library.parts ≡ Some part → (c : Content) → content_of part ≡ Some c → IsFormedContent c
      → ((k : Key) → StandsIn (named_in c) k → StandsIn (named_by part) k) → Good (content_pattern library is.conditions is.members c)
  entry_good key part there c e formed named =
      content_good Good closed text library is.conditions is.members c
      (references_in c formed
      (λ k t. is.are_conditions.each k (record { entry = (key, part); among = entry_stands library key part there; holds = subst (λ o. StandsIn (conditions_of o) k) (sym e) t }))
      (λ ident s. named_held library none key part there ident (named (datatype_key ident) s)))

  -- one pattern alone
  alone : (p : Expr) → Good p → All Good (p ∷ [])
  alone p h = All-cons Good p [] h (All-nil Good)

  -- the body of a condition's define
  condition_good : (c : Condition) → StandsIn is.conditions c → All Good (patterns_of (condition_body (condition_name is.conditions c) c))
  condition_good c s =
      let name = condition_name is.conditions c in
      let refers = defined (condition_define is.conditions c) (compiled.of_condition c s refl) in
      ⊎_elim (λ (h : IsEmptyBody c (condition_body name c)). subst (λ b. All Good (patterns_of b)) (sym h.is) (alone expr.NotAllowed closed.not_allowed))
      (λ (h : IsElementBody c name (condition_body name c)).
      subst (λ b. All Good (patterns_of b)) (sym h.is) (alone (content_throughout name) (throughout_good Good closed text name refers)))
      (body_kind name c)

  -- the values of the attributes that an element offers
  rules_good : (ident : List ℕ) → All Good (values_of (attributes.Listed (map rule_of (is.offers ident))))
  rules_good ident =
      All-map Good (λ (rule : AttrRule). rule.value) (map rule_of (is.offers ident))
      (each_stands (λ (rule : AttrRule). Good rule.value) (map rule_of (is.offers ident)) (λ rule s.
      let o = stands_map rule_of (is.offers ident) rule s in
      let given = (is.are_offers ident).none_else o.0 o.1 in
      let sound = offer_sound library none f (element_key ident) o.0.0 o.0.1 given.0 given.1 in
      subst (λ (r : AttrRule). Good r.value) (sym o.2)
      (value_good Good closed text library is.conditions is.members (λ key. IsHeld library (datatype_key key)) of_data o.0.1 sound.formed sound.held)))

  -- each pattern of each define
  pub pattern_good : (d : Define) → IsDefineOf library is.conditions is.members is.offers d → All Good (patterns_of d.body)
  pattern_good d (compiled.of_condition c s e) = subst (λ (x : Define). All Good (patterns_of x.body)) (sym e) (condition_good c s)
  pattern_good d (compiled.of_class ident idents listed e) =
      subst (λ (x : Define). All Good (patterns_of x.body)) (sym e)
      (alone (references_pattern idents) (references_good Good closed idents (λ member s. member_good ident idents member listed s)))
  pattern_good d (compiled.of_datatype ident part held e) =
      subst (λ (x : Define). All Good (patterns_of x.body)) (sym e)
      (let formed = (f.formed (datatype_key ident) (component.Datatype part) held).1.content in
      alone _ (subst Good (data_is library is.conditions is.members part.content formed.1) (entry_good (datatype_key ident) (component.Datatype part) held part.content refl formed.0 (λ k s. s))))
  pattern_good d (compiled.of_element ident part held e) =
      subst (λ (x : Define). All Good (patterns_of x.body)) (sym e)
      (All-cons Good _ _
      (entry_good (element_key ident) (component.Element part) held part.content refl (f.formed (element_key ident) (component.Element part) held).1.content (λ k s. stands_left (named_in part.content) (named_by_edits part.atts) k s))
      (rules_good ident))
  pattern_good d (compiled.of_macro ident part held e) =
      subst (λ (x : Define). All Good (patterns_of x.body)) (sym e)
      (alone _ (entry_good (macro_key ident) (component.Macro part) held part.content refl (f.formed (macro_key ident) (component.Macro part) held).1.content (λ k s. s)))

  -- a start word
  word_good : HoldsStart library start → (word : List ℕ) → StandsIn start word → Good (reference word)
  word_good h word s = by (holds_element library word) refl
    where
      by : (b : Bool) → holds_element library word ≡ b → Good (reference word)
      by true e = held_good word (element_found library word e)
      by false e = absurd (h word s e)

  -- the start
  pub start_good : HoldsStart library start → Good (references_pattern start)
  start_good h = references_good Good closed start (word_good h)
