-- The value law for datatypes: each held one admits the texts that its define allows, and its define is of one word.
use Rattle.std.proofs.Common.{◌≡◌, ◌↔◌, ℕ, zero, suc, true, List, [], ◌∷◌, Some, ⊎_elim, refl, sym, ap, subst, ◌∙◌}
use Rattle.std.specs.FinMap.{find}
use Rattle.compile_defines.proofs.Standing.{filter_passed, stands_either, stands_filter, stands_left, stands_right}
use Rattle.compile_defines.specs.Contents.{content_pattern, part_patterns}
use Rattle.compile_defines.specs.Data.{data_pattern, data_patterns, datatype_name, item_pattern}
use Rattle.compile_defines.specs.Repeating.{choice_pattern, repeated}
use Rattle.odd_classes.proofs.Linked.{held}
use Rattle.compile_defines.specs.Compiled as compiled
use Rattle.compile_defines.specs.Compiled.{IsGrammarOf, datatype_define}
use Rattle.odd_content.specs.Formed.{AreOfData, IsOfData}
use Rattle.odd_content.specs.declared.content.Condition.{Condition}
use Rattle.odd_content.specs.declared.content.Content.{Content, Empty, Text, Value, Vals, Element, Class, Macro, Any, Sequence', Alternate', Row_of-Content, end_of-Content, more_of-Content}
use Rattle.odd_library.specs.Formed.{IsFormedLibrary}
use Rattle.odd_library.specs.declared.library.Component.{Component}
use Rattle.odd_library.specs.declared.library.Component.TheVariants as component
use Rattle.odd_library.specs.declared.library.Library.{Library}
use Rattle.odd_library.specs.declared.library.OtherPart.{OtherPart}
use Rattle.odd_meaning.specs.Classes.{Members}
use Rattle.odd_meaning.specs.Links.{IsHeld, datatype_key, datatypes_of, is_datatype, macro_key, named_by, named_in, named_in_parts}
use Rattle.odd_meaning.specs.Rules.{Breaks, datatype_reaches_itself}
use Rattle.odd_text.specs.Key.{key_cmp}
use Rattle.odd_text.specs.declared.key.Key.{Key}
use Rattle.odd_text.specs.declared.key.Kind.{Kind}
use Rattle.odd_text.specs.declared.key.Kind.TheVariants as kind
use Rattle.odd_text.proofs.InList.{first_or_later, nothing_stands, only_item, stands_first}
use Rattle.odd_text.specs.Standing.{StandsIn}
use Rattle.rng_grammar.proofs.OnePattern.{ref_shown}
use Rattle.rng_grammar.proofs.SortLaws.{DefinesOnce}
use Rattle.rng_grammar.specs.Patterns as patterns
use Rattle.rng_grammar.specs.Patterns.{IsAllowed, IsDefined}
use Rattle.rng_grammar.specs.Sorts as sorts
use Rattle.rng_grammar.specs.Sorts.{IsOfWord}
use Rattle.rng_grammar.specs.declared.grammar.Body.TheVariants as body
use Rattle.rng_grammar.specs.declared.grammar.Expr.{Expr}
use Rattle.rng_grammar.specs.declared.grammar.Expr.TheOpen as shape
use Rattle.rng_grammar.specs.declared.grammar.Expr.TheVariants as expr
use Rattle.rng_grammar.specs.declared.grammar.Grammar.{Grammar}
use Rattle.rng_types.specs.declared.item.Item.{Item}
use Rattle.rng_types.specs.declared.item.Item.TheVariants as items
use Rattle.compile_laws.proofs.AttributeValueLaw.{list_word}
use Rattle.compile_laws.proofs.ConditionClass.{one_body}
use Rattle.compile_laws.proofs.OfferLaw.{named_held}
use Rattle.compile_laws.proofs.Ranked.{each_ranked}
use Rattle.compile_laws.proofs.ValueLaw.{HasDataForm, HaveDataForm, allowed_told, content_value_law}
use Rattle.compile_laws.proofs.WithinLevels.{value_into, within}
use Rattle.odd_meaning.specs.Values.{DatatypeAdmits, IsOfDatatype, IsValueBy, no_macros}

-- the content of a datatype has the form of data
mutual
  of_data_form : (c : Content) → IsOfData c → HasDataForm c
  of_data_form (Value i) d = tt
  of_data_form (Vals list) d = tt
  of_data_form (Alternate' shape parts b) d = (d.0, of_data_forms parts d.1)
  of_data_form Empty d = absurd d
  of_data_form Text d = absurd d
  of_data_form (Element key b) d = absurd d
  of_data_form (Class key p b) d = absurd d
  of_data_form (Macro key b) d = absurd d
  of_data_form (Any c b) d = absurd d
  of_data_form (Sequence' shape parts b) d = absurd d

  of_data_forms : {n : _} (parts : Row_of-Content n) → AreOfData parts → HaveDataForm parts
  of_data_forms end_of-Content d = tt
  of_data_forms (more_of-Content part parts) d = (of_data_form part d.0, of_data_forms parts d.1)

-- and names no macro
key_apart : {R : Type 0} (key other : List ℕ) → macro_key key ≡ datatype_key other → R
key_apart key other e = let k : kind.Macro ≡ kind.Datatype = ap (λ (x : Key). x.kind) e in cc

mutual
  pub names_no_macro : (c : Content) → IsOfData c → (key : List ℕ) → StandsIn (named_in c) (macro_key key) → ⊥
  names_no_macro (Value (items.Key other)) d key s = key_apart key other (only_item _ _ s)
  names_no_macro (Value (items.Typed k facets)) d key s = nothing_stands _ s
  names_no_macro (Vals list) d key s = nothing_stands _ s
  names_no_macro (Alternate' shape parts b) d key s = name_no_macro parts d.1 key s
  names_no_macro Empty d key s = d
  names_no_macro Text d key s = d
  names_no_macro (Element k b) d key s = d
  names_no_macro (Class k p b) d key s = d
  names_no_macro (Macro k b) d key s = d
  names_no_macro (Any c b) d key s = d
  names_no_macro (Sequence' shape parts b) d key s = d

  name_no_macro : {n : _} (parts : Row_of-Content n) → AreOfData parts → (key : List ℕ) → StandsIn (named_in_parts parts) (macro_key key) → ⊥
  name_no_macro end_of-Content d key s = nothing_stands _ s
  name_no_macro (more_of-Content part parts) d key s =
      ⊎_elim (λ a. names_no_macro part d.0 key a) (λ b. name_no_macro parts d.1 key b) (stands_either (named_in part) (named_in_parts parts) (macro_key key) s)

module _ (library : Library) where
  -- so a held datatype admits what its content does
  opened : (key : List ℕ) (part : OtherPart) → find key_cmp (datatype_key key) library.parts ≡ Some (component.Datatype part) → (cs : List ℕ)
      → IsOfDatatype library key cs ↔ IsValueBy (IsOfDatatype library) no_macros part.content cs
  opened key part held cs = (
    λ h. from h.0 h.1,
    λ v.
        let h = within (IsOfDatatype library) no_macros (λ levels. DatatypeAdmits levels library) (λ levels. no_macros) (λ other ds x. x) (λ other ds x. absurd x) part.content cs v in
        (suc h.0, (part, held, h.1)),
  )
    where
      from : (levels : ℕ) → DatatypeAdmits levels library key cs → IsValueBy (IsOfDatatype library) no_macros part.content cs
      from zero a = absurd a
      from (suc levels) a =
          let both : Some (component.Datatype a.0) ≡ Some (component.Datatype part) = sym a.1 ∙ held in
          let same : a.0 ≡ part = cc in
          value_into (DatatypeAdmits levels library) (IsOfDatatype library) no_macros no_macros (λ other ds x. (levels, x)) (λ other ds x. x) part.content cs
          (subst (λ (p : OtherPart). IsValueBy (DatatypeAdmits levels library) no_macros p.content cs) same a.2)

-- the kinds of what datatypes name
of_datatypes : (part : Component) (other : Key) → StandsIn (datatypes_of part) other → other ≡ datatype_key other.ident
of_datatypes part other s =
    let same : other.kind ≡ kind.Datatype = by other.kind (filter_passed (λ key. is_datatype key.kind) (named_by part) other s) in
    λ i. record { kind = same i; ident = other.ident }
  where
    by : (k : Kind) → is_datatype k ≡ true → k ≡ kind.Datatype
    by kind.Element e = cc
    by kind.Class e = cc
    by kind.Macro e = cc
    by kind.Datatype e = refl

-- the pattern of a datatype's content is that of the content
module _ (library : Library) (conditions : List Condition) (members : Members) where
  mutual
    pub data_is : (c : Content) → IsOfData c → content_pattern library conditions members c ≡ data_pattern c
    data_is (Value item) d = refl
    data_is (Vals list) d = refl
    data_is (Alternate' shape parts b) d = ap (λ x. repeated (choice_pattern (part_patterns library conditions members parts)) x) d.0 ∙ ap choice_pattern (data_are parts d.1)
    data_is Empty d = absurd d
    data_is Text d = absurd d
    data_is (Element key b) d = absurd d
    data_is (Class key p b) d = absurd d
    data_is (Macro key b) d = absurd d
    data_is (Any c b) d = absurd d
    data_is (Sequence' shape parts b) d = absurd d

    data_are : {n : _} (parts : Row_of-Content n) → AreOfData parts → part_patterns library conditions members parts ≡ data_patterns parts
    data_are end_of-Content d = refl
    data_are (more_of-Content part parts) d = λ i. data_is part d.0 i ∷ data_are parts d.1 i

module _ (g : Grammar) (defines_once : DefinesOnce g) where
  -- a reference to a define without an `element` allows what that holds
  pub referred_law : (name : List ℕ) (inner : Expr) → IsDefined g name (body.Part inner) → (cs : List ℕ) → IsAllowed g inner cs ↔ IsAllowed g (expr.Ref name) cs
  referred_law name inner d cs = (
    λ m. patterns.part d m,
    λ m. ⊎_elim (λ t. absurd t)
        (λ x.
        let two : body.Part inner ≡ body.Part x.0 = defines_once name _ _ d x.1 in
        let same : x.0 ≡ inner = cc in
        subst (λ y. IsAllowed g y cs) same x.2)
        (allowed_told g (expr.Ref name) (shape.Ref name) cs (ref_shown name) m),
  )

-- a choice of patterns of one word is one
pub choice_word : (g : Grammar) (ps : List Expr) → ((p : Expr) → StandsIn ps p → IsOfWord g p) → IsOfWord g (choice_pattern ps)
choice_word g [] each = sorts.not_allowed
choice_word g (p ∷ []) each = each p (stands_first p [])
choice_word g (p ∷ q ∷ ps) each = sorts.choice (p ∷ q ∷ ps) refl each

module _ (library : Library) (start : List (List ℕ)) (g : Grammar)
    (is : IsGrammarOf library start g) (f : IsFormedLibrary library) (none : (key : Key) (rule : ℕ) → Breaks library key rule → ⊥) where
  -- the pattern of a content
  abbrev pattern : Content → Expr
  pattern = content_pattern library is.conditions is.members

  -- a datatype admits what a reference to it allows, and that is of one word
  pub record IsDatatypeKept (key : List ℕ) : Type 0 where
    pub law : (cs : List ℕ) → IsOfDatatype library key cs ↔ IsAllowed g (expr.Ref (datatype_name key)) cs
    pub word : IsOfWord g (expr.Ref (datatype_name key))

  -- so is an item that names such, and a content
  pub item_word : (i : Item) → ((key : List ℕ) → i ≡ items.Key key → IsDatatypeKept key) → IsOfWord g (item_pattern i)
  item_word (items.Typed k facets) kept = sorts.typed
  item_word (items.Key key) kept = (kept key refl).word

  mutual
    content_word : (c : Content) → ((key : List ℕ) → StandsIn (named_in c) (datatype_key key) → IsDatatypeKept key) → IsOfWord g (data_pattern c)
    content_word (Value (items.Typed k facets)) kept = sorts.typed
    content_word (Value (items.Key key)) kept = (kept key (stands_first (datatype_key key) [])).word
    content_word (Vals list) kept = list_word g list
    content_word (Alternate' shape parts b) kept = choice_word g (data_patterns parts) (parts_word parts kept)
    content_word Empty kept = sorts.not_allowed
    content_word Text kept = sorts.not_allowed
    content_word (Element key b) kept = sorts.not_allowed
    content_word (Class key p b) kept = sorts.not_allowed
    content_word (Macro key b) kept = sorts.not_allowed
    content_word (Any c b) kept = sorts.not_allowed
    content_word (Sequence' shape parts b) kept = sorts.not_allowed

    parts_word : {n : _} (parts : Row_of-Content n) → ((key : List ℕ) → StandsIn (named_in_parts parts) (datatype_key key) → IsDatatypeKept key)
        → (p : Expr) → StandsIn (data_patterns parts) p → IsOfWord g p
    parts_word end_of-Content kept p s = absurd (nothing_stands p s)
    parts_word (more_of-Content part parts) kept p s =
        ⊎_elim
        (λ e. subst (IsOfWord g) (sym e) (content_word part (λ key t. kept key (stands_left (named_in part) (named_in_parts parts) (datatype_key key) t))))
        (λ later. parts_word parts (λ key t. kept key (stands_right (named_in part) (named_in_parts parts) (datatype_key key) t)) p later)
        (first_or_later (data_pattern part) p (data_patterns parts) s)

  -- one whose content names such is such
  next_kept : (ident : List ℕ) (part : Component) → find key_cmp (datatype_key ident) library.parts ≡ Some part
      → ((other : List ℕ) → StandsIn (datatypes_of part) (datatype_key other) → IsHeld library (datatype_key other) → IsDatatypeKept other) → IsDatatypeKept ident
  next_kept ident (component.Datatype part) there others =
      let formed = (f.formed (datatype_key ident) (component.Datatype part) there).1.content in
      let kept : (key : List ℕ) → StandsIn (named_in part.content) (datatype_key key) → IsDatatypeKept key =
      λ key s. others key (stands_filter (λ k. is_datatype k.kind) (named_in part.content) (datatype_key key) s refl) (named_held library none (datatype_key ident) (component.Datatype part) there key s) in
      let own = is.are_defines.each (datatype_define ident part) (compiled.of_datatype ident part there refl) in
      let defined = subst (λ p. IsDefined g (datatype_name ident) (body.Part p)) (sym (data_is library is.conditions is.members part.content formed.1)) own in
      let content = content_value_law library is.conditions is.members g (IsOfDatatype library) no_macros 60 part.content formed.0 (of_data_form part.content formed.1) (record {
        datatypes_kept = λ key s. (kept key s).law;
        macros_kept = λ key s. absurd (names_no_macro part.content formed.1 key s);
      }) in
      record {
        law = λ cs.
            let open_law = opened library ident part there cs in
            let refer = referred_law g (one_body library start g is) (datatype_name ident) (pattern part.content) defined cs in
            (λ h. refer.0 ((content cs).0 (open_law.0 h)), λ m. open_law.1 ((content cs).1 (refer.1 m)));
        word = sorts.part (data_pattern part.content) own (content_word part.content kept);
      }
  next_kept ident part there others = absurd (f.formed (datatype_key ident) part there).1

  -- so each held datatype is
  pub datatype_kept : (ident : List ℕ) → IsHeld library (datatype_key ident) → IsDatatypeKept ident
  datatype_kept ident h =
      let there = held (datatype_key ident) library h in
      each_ranked library datatypes_of datatype_key of_datatypes (λ other loop. none (datatype_key other) 14 (datatype_reaches_itself other loop)) (λ levels. IsDatatypeKept) (λ levels. next_kept) ident there.0 there.1

  -- and the pattern of its content is of one word
  pub datatype_word : (ident : List ℕ) (part : OtherPart) → find key_cmp (datatype_key ident) library.parts ≡ Some (component.Datatype part) → IsOfWord g (data_pattern part.content)
  datatype_word ident part there =
      content_word part.content (λ key s. datatype_kept key (named_held library none (datatype_key ident) (component.Datatype part) there key s))
