-- The value law for macros of data content, and for data content that names such.
use Rattle.std.proofs.Common.{◌≡◌, ◌↔◌, ℕ, zero, suc, cond, List, [], ◌++◌, Some, ⊎_elim, refl, sym, ap, subst, ◌∙◌}
use Rattle.std.specs.FinMap.{find}
use Rattle.compile_defines.proofs.Standing.{IsMacroAt, macro_held, stands_either, stands_left, stands_right}
use Rattle.compile_defines.specs.Contents.{content_pattern, macro_name, macro_pattern, part_patterns}
use Rattle.compile_defines.specs.Compiled as compiled
use Rattle.compile_defines.specs.Compiled.{IsGrammarOf, macro_define}
use Rattle.odd_content.specs.Formed.{IsFormedContent}
use Rattle.odd_content.specs.declared.content.Content.{Content, Empty, Text, Value, Vals, Element, Class, Macro, Any, Sequence', Alternate', Row_of-Content, end_of-Content, more_of-Content}
use Rattle.odd_library.specs.Formed.{IsFormedLibrary}
use Rattle.odd_library.specs.declared.library.Component.{Component}
use Rattle.odd_library.specs.declared.library.Component.TheVariants as component
use Rattle.odd_library.specs.declared.library.Library.{Library}
use Rattle.odd_library.specs.declared.library.OtherPart.{OtherPart}
use Rattle.odd_meaning.specs.Data.{AreDataBy, IsDataBy, IsDataContent, IsWithin, OfMacros}
use Rattle.odd_meaning.specs.Links.{datatype_key, macro_key, named_by, named_in, named_in_parts}
use Rattle.odd_meaning.specs.Rules.{Breaks}
use Rattle.odd_text.specs.Key.{key_cmp}
use Rattle.odd_text.specs.declared.key.Key.{Key}
use Rattle.odd_text.specs.declared.key.Kind.TheVariants as kind
use Rattle.odd_text.proofs.InList.{first_or_later, nothing_stands, only_item, stands_first}
use Rattle.odd_text.specs.Standing.{StandsIn}
use Rattle.rng_grammar.specs.Patterns.{IsAllowed}
use Rattle.rng_grammar.specs.Sorts as sorts
use Rattle.rng_grammar.specs.Sorts.{IsOfWord}
use Rattle.rng_grammar.specs.declared.grammar.Expr.{Expr}
use Rattle.rng_grammar.specs.declared.grammar.Expr.TheVariants as expr
use Rattle.rng_grammar.specs.declared.grammar.Grammar.{Grammar}
use Rattle.rng_types.specs.declared.item.Item.TheVariants as items
use Rattle.compile_laws.proofs.AttributeValueLaw.{list_word}
use Rattle.compile_laws.proofs.ConditionClass.{one_body}
use Rattle.compile_laws.proofs.DatatypeLaw.{IsDatatypeKept, choice_word, datatype_kept, referred_law}
use Rattle.compile_laws.proofs.OfferLaw.{named_held}
use Rattle.compile_laws.proofs.ValueLaw.{HasDataForm, HaveDataForm, content_value_law}
use Rattle.compile_laws.proofs.WithinLevels.{value_into, within}
use Rattle.odd_meaning.specs.Values.{IsDataValue, IsOfDatatype, IsValueBy, IsValueOfMacro, MacroHasValue}

-- data content has the form of data, and the macros that it names are such
module _ (macros : OfMacros) where
  mutual
    data_form : (c : Content) → IsDataBy macros c → HasDataForm c
    data_form (Value i) d = tt
    data_form (Vals list) d = tt
    data_form (Macro key b) d = d.0
    data_form (Alternate' shape parts b) d = (d.0, data_forms parts d.2)
    data_form Empty d = absurd d
    data_form Text d = absurd d
    data_form (Element key b) d = absurd d
    data_form (Class key p b) d = absurd d
    data_form (Any c b) d = absurd d
    data_form (Sequence' shape parts b) d = absurd d

    data_forms : {n : _} (parts : Row_of-Content n) → AreDataBy macros parts → HaveDataForm parts
    data_forms end_of-Content d = tt
    data_forms (more_of-Content part parts) d = (data_form part d.0, data_forms parts d.1)

  mutual
    named_data : (c : Content) → IsDataBy macros c → (key : List ℕ) → StandsIn (named_in c) (macro_key key) → macros key
    named_data (Value (items.Key other)) d key s = let e = ap (λ (x : Key). x.kind) (only_item _ _ s) in let k : kind.Macro ≡ kind.Datatype = e in cc
    named_data (Value (items.Typed k facets)) d key s = absurd (nothing_stands _ s)
    named_data (Vals list) d key s = absurd (nothing_stands _ s)
    named_data (Macro other b) d key s = subst macros (sym (ap (λ (x : Key). x.ident) (only_item _ _ s))) d.1
    named_data (Alternate' shape parts b) d key s = names_data parts d.2 key s
    named_data Empty d key s = absurd d
    named_data Text d key s = absurd d
    named_data (Element k b) d key s = absurd d
    named_data (Class k p b) d key s = absurd d
    named_data (Any c b) d key s = absurd d
    named_data (Sequence' shape parts b) d key s = absurd d

    names_data : {n : _} (parts : Row_of-Content n) → AreDataBy macros parts → (key : List ℕ) → StandsIn (named_in_parts parts) (macro_key key) → macros key
    names_data end_of-Content d key s = absurd (nothing_stands _ s)
    names_data (more_of-Content part parts) d key s =
        ⊎_elim (λ a. named_data part d.0 key a) (λ b. names_data parts d.1 key b) (stands_either (named_in part) (named_in_parts parts) (macro_key key) s)

-- a held macro admits as values what its content does
opened : (library : Library) (key : List ℕ) (part : OtherPart) → IsMacroAt library key part → (cs : List ℕ) → IsValueOfMacro library key cs ↔ IsDataValue library part.content cs
opened library key part held cs = (
  λ h. from h.0 h.1,
  λ v.
      let h = within (IsOfDatatype library) (IsValueOfMacro library) (λ levels. IsOfDatatype library) (λ levels. MacroHasValue levels library) (λ other ds x. (zero, x)) (λ other ds x. x) part.content cs v in
      (suc h.0, (part, held, h.1)),
)
  where
    from : (levels : ℕ) → MacroHasValue levels library key cs → IsDataValue library part.content cs
    from zero a = absurd a
    from (suc levels) a =
        let both : Some (component.Macro a.0) ≡ Some (component.Macro part) = sym a.1 ∙ held in
        let same : a.0 ≡ part = cc in
        value_into (IsOfDatatype library) (IsOfDatatype library) (MacroHasValue levels library) (IsValueOfMacro library) (λ other ds x. x) (λ other ds x. (levels, x)) part.content cs
        (subst (λ (p : OtherPart). IsValueBy (IsOfDatatype library) (MacroHasValue levels library) p.content cs) same a.2)

module _ (library : Library) (start : List (List ℕ)) (g : Grammar)
    (is : IsGrammarOf library start g) (f : IsFormedLibrary library) (none : (key : Key) (rule : ℕ) → Breaks library key rule → ⊥) where
  abbrev pattern : Content → Expr
  pattern = content_pattern library is.conditions is.members

  -- a macro admits as values what its pattern allows, and that is of one word
  pub record IsMacroKept (key : List ℕ) : Type 0 where
    pub law : (cs : List ℕ) → IsValueOfMacro library key cs ↔ IsAllowed g (macro_pattern library key) cs
    pub word : IsOfWord g (macro_pattern library key)

  -- what a content names is such
  record AreNamedKept (named : List Key) : Type 0 where
    datatypes : (key : List ℕ) → StandsIn named (datatype_key key) → IsDatatypeKept library start g is f none key
    macros : (key : List ℕ) → StandsIn named (macro_key key) → IsMacroKept key

  first_named : (names others : List Key) → AreNamedKept (names ++ others) → AreNamedKept names
  first_named names others a = record {
    datatypes = λ key s. a.datatypes key (stands_left names others (datatype_key key) s);
    macros = λ key s. a.macros key (stands_left names others (macro_key key) s);
  }

  rest_named : (names others : List Key) → AreNamedKept (names ++ others) → AreNamedKept others
  rest_named names others a = record {
    datatypes = λ key s. a.datatypes key (stands_right names others (datatype_key key) s);
    macros = λ key s. a.macros key (stands_right names others (macro_key key) s);
  }

  mutual
    -- so its pattern is of one word
    content_word : (c : Content) → HasDataForm c → AreNamedKept (named_in c) → IsOfWord g (pattern c)
    content_word (Value (items.Typed k facets)) d kept = sorts.typed
    content_word (Value (items.Key key)) d kept = (kept.datatypes key (stands_first (datatype_key key) [])).word
    content_word (Vals list) d kept = list_word g list
    content_word (Macro key b) d kept = subst (λ x. IsOfWord g (pattern (Macro key x))) (sym d) (kept.macros key (stands_first (macro_key key) [])).word
    content_word (Alternate' shape parts b) d kept =
        subst (λ x. IsOfWord g (pattern (Alternate' shape parts x))) (sym d.0) (choice_word g (part_patterns library is.conditions is.members parts) (parts_word parts d.1 kept))
    content_word Empty d kept = absurd d
    content_word Text d kept = absurd d
    content_word (Element key b) d kept = absurd d
    content_word (Class key p b) d kept = absurd d
    content_word (Any c b) d kept = absurd d
    content_word (Sequence' shape parts b) d kept = absurd d

    parts_word : {n : _} (parts : Row_of-Content n) → HaveDataForm parts → AreNamedKept (named_in_parts parts) → (p : Expr) → StandsIn (part_patterns library is.conditions is.members parts) p → IsOfWord g p
    parts_word end_of-Content d kept p s = absurd (nothing_stands p s)
    parts_word (more_of-Content part parts) d kept p s =
        ⊎_elim (λ e. subst (IsOfWord g) (sym e) (content_word part d.0 (first_named (named_in part) (named_in_parts parts) kept)))
        (λ later. parts_word parts d.1 (rest_named (named_in part) (named_in_parts parts) kept) p later)
        (first_or_later (pattern part) p (part_patterns library is.conditions is.members parts) s)

  -- data content admits as one value what its pattern allows
  named_law : (c : Content) → IsFormedContent c → HasDataForm c → AreNamedKept (named_in c) → (cs : List ℕ) → IsDataValue library c cs ↔ IsAllowed g (pattern c) cs
  named_law c formed d kept =
      content_value_law library is.conditions is.members g (IsOfDatatype library) (IsValueOfMacro library) 60 c formed d
      (record { datatypes_kept = λ key s. (kept.datatypes key s).law; macros_kept = λ key s. (kept.macros key s).law })

  -- the datatypes that a held component's content names are kept
  datatypes_named : (key : Key) (part : Component) → find key_cmp key library.parts ≡ Some part → (named : List Key) → ((k : Key) → StandsIn named k → StandsIn (named_by part) k)
      → (ident : List ℕ) → StandsIn named (datatype_key ident) → IsDatatypeKept library start g is f none ident
  datatypes_named key part held named all ident s =
      datatype_kept library start g is f none ident (named_held library none key part held ident (all (datatype_key ident) s))

  -- a macro of data content is kept
  macro_value_kept : (levels : ℕ) (key : List ℕ) → IsWithin IsDataBy levels library key → IsMacroKept key
  macro_value_kept zero key w = absurd w
  macro_value_kept (suc levels) key (part, held, d) =
      let inner : OfMacros = IsWithin IsDataBy levels library in
      let formed = (f.formed (macro_key key) (component.Macro part) held).1.content in
      let form = data_form inner part.content d in
      let kept : AreNamedKept (named_in part.content) = record {
        datatypes = datatypes_named (macro_key key) (component.Macro part) held (named_in part.content) (λ k s. s);
        macros = λ other s. macro_value_kept levels other (named_data inner part.content d other s);
      } in
      let defined = is.are_defines.each (macro_define library is.conditions is.members key part) (compiled.of_macro key part held refl) in
      let is_held = macro_held library key part held in
      let pattern_is : (P : Expr → Type 0) → P (expr.Ref (macro_name key)) → P (macro_pattern library key) =
      λ P h. subst (λ holds. P (cond holds (expr.Ref (macro_name key)) expr.NotAllowed)) (sym is_held) h in
      record {
        law = λ cs.
            let open_law = opened library key part held cs in
            let content = named_law part.content formed form kept cs in
            let refer = referred_law g (one_body library start g is) (macro_name key) (pattern part.content) defined cs in
            pattern_is (λ p. IsValueOfMacro library key cs ↔ IsAllowed g p cs) (λ h. refer.0 (content.0 (open_law.0 h)), λ m. open_law.1 (content.1 (refer.1 m)));
        word = pattern_is (IsOfWord g) (sorts.part (pattern part.content) defined (content_word part.content form kept));
      }

  -- and so is data content of a held component
  data_kept : (key : Key) (part : Component) → find key_cmp key library.parts ≡ Some part → (c : Content) → ((k : Key) → StandsIn (named_in c) k → StandsIn (named_by part) k)
      → IsDataContent library c → AreNamedKept (named_in c)
  data_kept key part held c all d = record {
    datatypes = datatypes_named key part held (named_in c) all;
    macros = λ other s. let w = named_data _ c d other s in macro_value_kept w.0 other w.1;
  }

  pub data_law : (key : Key) (part : Component) → find key_cmp key library.parts ≡ Some part → (c : Content) → ((k : Key) → StandsIn (named_in c) k → StandsIn (named_by part) k)
      → IsFormedContent c → IsDataContent library c → (cs : List ℕ) → IsDataValue library c cs ↔ IsAllowed g (pattern c) cs
  data_law key part held c all formed d = named_law c formed (data_form _ c d) (data_kept key part held c all d)

  pub data_word : (key : Key) (part : Component) → find key_cmp key library.parts ≡ Some part → (c : Content) → ((k : Key) → StandsIn (named_in c) k → StandsIn (named_by part) k)
      → IsDataContent library c → IsOfWord g (pattern c)
  data_word key part held c all d = content_word c (data_form _ c d) (data_kept key part held c all d)
