-- The grammar of a formed library is plain, so its text denotes it: no name reaches itself outside elements.
use Rattle.std.proofs.Common.{◌≡◌, ◌<◌, ◌-◌, ℕ, Bool, true, false, cond, length, take, drop, map, List, [], ◌∷◌, ◌++◌, ◌==◌, sym, ap, subst, ◌∙◌, arith, Option, Some, None, refl}
use Rattle.std.proofs.lemmas.List.Elements.{All-append, All-cons, All-contains, All-head, All-nil}
use Rattle.std.specs.Prelude.{All}
use Rattle.std.specs.FinMap.{find}
use Rattle.std.specs.Option.{is_some}
use Rattle.compile_defines.proofs.Standing.{stands_filter, macro_found, each_stands, found}
use Rattle.compile_defines.specs.Conditions.{conditions_in, conditions_in_parts, conditions_of}
use Rattle.compile_defines.specs.Contents.{macro_name, class_name, condition_name, content_pattern, define_name, references_pattern}
use Rattle.compile_core.proofs.PlainClass.{IsBodyOf, condition_body_is, element, nothing}
use Rattle.compile_laws.proofs.Closed.{references_good}
use Rattle.compile_defines.proofs.NamedDefines.{listed_is}
use Rattle.compile_defines.specs.Compiled as compiled
use Rattle.compile_defines.specs.Compiled.{AllOffers, IsDefineOf, IsGrammarOf, datatype_define, rule_of, class_define, condition_body, content_throughout, element_define, macro_define, HoldsStart}
use Rattle.odd_meaning.specs.Offering.{OffersOne, offer_cmp}
use Rattle.odd_content.specs.Formed.{AreFormedWithin, IsFormedCondition, IsFormedWithin}
use Rattle.odd_library.specs.Formed.{IsFormedLibrary, IsFormedPart}
use Rattle.odd_content.specs.declared.content.Condition.{Condition}
use Rattle.odd_content.specs.declared.content.Content.{Content, Any, Sequence', Alternate', Row_of-Content, end_of-Content, more_of-Content}
use Rattle.odd_graph.proofs.Chains.{chained_on}
use Rattle.odd_graph.specs.Graph as graph
use Rattle.odd_library.specs.Library.{content_of}
use Rattle.odd_library.specs.Odd.{element_key}
use Rattle.odd_library.specs.declared.library.Component.{Component}
use Rattle.odd_library.specs.declared.library.Component.TheVariants as component
use Rattle.odd_library.specs.declared.library.Library.{Library}
use Rattle.odd_library.specs.declared.library.OtherPart.{OtherPart}
use Rattle.odd_meaning.specs.Classes.{Members}
use Rattle.odd_meaning.specs.Links.{IsHeld, IsLinked, datatype_key, datatypes_of, is_datatype, macro_key, macros_of, is_macro, named_in, class_key}
use Rattle.odd_meaning.specs.Rules.{Breaks, datatype_reaches_itself, reaches_itself, shares_name}
use Rattle.odd_text.specs.Key.{key_cmp}
use Rattle.odd_text.specs.KeyOrder.{key_total, key_exact}
use Rattle.odd_text.specs.declared.key.Key.{Key}
use Rattle.odd_text.specs.declared.key.Kind.{Kind}
use Rattle.odd_text.specs.declared.key.Kind.TheVariants as kind
use Rattle.odd_tokens.proofs.Characters.{none_twice}
use Rattle.odd_tokens.specs.Characters.{IsNCName}
use Rattle.odd_text.proofs.InList.{contained, map_stands, nothing_stands}
use Rattle.odd_text.specs.Standing.{StandsIn}
use Rattle.rng_emit.proofs.Plain.{printable_plain}
use Rattle.rng_emit.proofs.Printable as plain_form
use Rattle.rng_emit.proofs.Printable.{IsPlainBody, IsPlainDefine, IsPlainPattern, IsPlainRule}
use Rattle.rng_emit.specs.Plain.{IsPlain}
use Rattle.rng_grammar.specs.Linked.{Reaches, at_once, through, names_of, patterns_of}
use Rattle.rng_grammar.specs.declared.grammar.Body.{Body}
use Rattle.rng_grammar.specs.declared.grammar.Body.TheVariants as body
use Rattle.rng_grammar.specs.declared.grammar.Define.{Define}
use Rattle.rng_grammar.specs.declared.grammar.Expr.{Expr}
use Rattle.rng_grammar.specs.declared.grammar.Expr.TheVariants as expr
use Rattle.rng_grammar.specs.declared.grammar.Grammar.{Grammar}
use Rattle.compile_core.proofs.OneGrammarOf.{offer_total, rising_sorted}
use Rattle.compile_laws.proofs.Good.{content_good}
use Rattle.std.proofs.lemmas.Cmp.{nat_list_cmp_total}
use Rattle.std.specs.Option.{IfSome}
use Rattle.std.specs.Prelude.{unwrap_or}
use Rattle.std.specs.declared.cmp.Ordering.TheVariants.{Less}
use Rattle.compile_defines.specs.Data.{data_pattern, datatype_name}
use Rattle.odd_attributes.specs.Formed.{IsFormedDef}
use Rattle.odd_attributes.specs.declared.att_def.AttDef.{AttDef}
use Rattle.odd_classes.proofs.Linked.{held}
use Rattle.odd_text.proofs.SetOf.{first_below, not_below, rest_rising}
use Rattle.odd_forms.proofs.Colon.{xml_named}
use Rattle.odd_forms.specs.Form as attribute
use Rattle.std.proofs.lemmas.List.{take-append-drop}
use Rattle.std.specs.Cmp.Lexicographic.{same_text}
use Rattle.odd_tokens.proofs.Ascii.{ascii_legal}
use Rattle.std.proofs.lemmas.Bool.{false≢true}
use Rattle.odd_forms.specs.Form.{IsAttributeName}
use Rattle.odd_text.specs.Sorted.{AreRising}
use Rattle.odd_graph.specs.Graph.{Chained}
use Rattle.odd_meaning.specs.Naming.{attribute_name, name_written, xml_prefix}
use Rattle.odd_text.specs.Text.{text_cmp}
use Rattle.odd_tokens.proofs.Characters.{Distinct, Lacks}
use Rattle.odd_tokens.specs.Characters.{IsLegal}
use Rattle.odd_text.specs.Same.{is_same}
use Rattle.odd_tokens.specs.Tokens.{NoneTwice}
use Rattle.odd_tree.specs.Names.{xml_namespace}
use Rattle.odd_text.proofs.InList.{stands_first, stands_later, stands_map}
use Rattle.rng_emit.proofs.Printable.{IsPlainName}
use Rattle.rng_grammar.specs.declared.grammar.AttrRule.{AttrRule}
use Rattle.rng_types.specs.declared.item.Item.TheVariants as items
use Rattle.compile_laws.proofs.GoodData.{value_good}
use Rattle.compile_laws.proofs.GoodDefines.{pattern_good, start_good}
use Rattle.compile_laws.proofs.OfferLaw.{named_held, offer_sound}
use Rattle.compile_laws.proofs.Sorted.{sorted}
use Rattle.compile_core.proofs.PlainParts.{RefersOnly, content_refers, leaf_refers, refers_closed, refers_data, refers_known, refers_text, class_ncname, condition_ncname, datatype_ncname, define_ncname, macro_ncname, plain_closed, plain_data}

-- macros are above datatypes, these above classes, and classes above elements and conditions, by the first letter of a name
abbrev pub level : List ℕ → ℕ
level [] = 0
level (c ∷ cs) = cond (c == 0x6D) 3 (cond (c == 0x64) 2 (cond (c == 0x63) 1 0))

-- what refers to others of its kind outside an `element`
pub data Kindred : Type 0 where
  macros : Kindred
  datatypes : Kindred

abbrev pub key_of : Kindred → List ℕ → Key
key_of macros = macro_key
key_of datatypes = datatype_key

abbrev pub name_of : Kindred → List ℕ → List ℕ
name_of macros = macro_name
name_of datatypes = datatype_name

abbrev pub keys_of : Kindred → Component → List Key
keys_of macros = macros_of
keys_of datatypes = datatypes_of

-- one reaches the other along what they name
abbrev pub ReachesKindred : Library → Kindred → List ℕ → List ℕ → Type 0
ReachesKindred library k one other = Chained (IsLinked (keys_of k) library) (key_of k one) (key_of k other)

-- a macro and a datatype lead to those of their kind that they reach, and any name to those below it
pub data Leads (library : Library) (name other : List ℕ) : Type 0 where
  reached : (k : Kindred) (one two : List ℕ) → ReachesKindred library k one two → name ≡ name_of k one → other ≡ name_of k two → Leads library name other
  lower : level other < level name → Leads library name other

-- the level of each kind
abbrev height : Kindred → ℕ
height macros = 3
height datatypes = 2

kindred_level : (k : Kindred) (name ident : List ℕ) → name ≡ name_of k ident → level name ≡ height k
kindred_level macros name ident e = ap level e
kindred_level datatypes name ident e = ap level e

-- names tell their kind and their idents
data IsOneName (k j : Kindred) (a b : List ℕ) : Type 0 where
  one_name : k ≡ j → a ≡ b → IsOneName k j a b

told_by_name : (k j : Kindred) (a b : List ℕ) → name_of k a ≡ name_of j b → IsOneName k j a b
told_by_name macros macros a b e = one_name refl cc
told_by_name datatypes datatypes a b e = one_name refl cc
told_by_name macros datatypes a b e = absurd (let h : 3 ≡ 2 = ap level e in omega arith)
told_by_name datatypes macros a b e = absurd (let h : 2 ≡ 3 = ap level e in omega arith)

module _ (library : Library) where
  -- one leads on to where another leads that it leads to
  pub led_on : (a b c : List ℕ) → Leads library a b → Leads library b c → Leads library a c
  led_on a b c (reached k one two r e f) (reached j three four s g h) = by (told_by_name j k three two (sym g ∙ f))
    where
      by : IsOneName j k three two → Leads library a c
      by (one_name kinds idents) =
          reached k one four
          (chained_on (IsLinked (keys_of k) library) (key_of k one) (key_of k two) (key_of k four) r
          (subst (λ x. ReachesKindred library k x four) idents (subst (λ x. ReachesKindred library x three four) kinds s))) e (h ∙ ap (λ x. name_of x four) kinds)
  led_on a b c (reached k one two r e f) (lower less) = let p = kindred_level k a one e in let q = kindred_level k b two f in lower (omega arith)
  led_on a b c (lower more) (reached k three four s g h) = let p = kindred_level k b three g in let q = kindred_level k c four h in lower (omega arith)
  led_on a b c (lower more) (lower less) = lower (omega arith)

  -- none leads to itself, where no macro and no datatype reaches itself
  pub none_led : ((key : Key) (rule : ℕ) → Breaks library key rule → ⊥) → (name : List ℕ) → Leads library name name → ⊥
  none_led whole name (reached k one two r e f) = by k one two r (told_by_name k k two one (sym f ∙ e))
    where
      by : (k : Kindred) (one two : List ℕ) → ReachesKindred library k one two → IsOneName k k two one → ⊥
      by macros one two r (one_name kinds idents) = whole (macro_key one) 14 (reaches_itself one (subst (λ x. ReachesKindred library macros one x) idents r))
      by datatypes one two r (one_name kinds idents) = whole (datatype_key one) 14 (datatype_reaches_itself one (subst (λ x. ReachesKindred library datatypes one x) idents r))
  none_led whole name (lower less) = omega arith

module _ (library : Library) (conditions : List Condition) (members : Members) (offers : AllOffers) (whole : (key : Key) (rule : ℕ) → Breaks library key rule → ⊥) where
  -- the define of a condition refers to nothing but in an `element`
  condition_leads : (name : List ℕ) (c : Condition) (b : Body) → IsBodyOf name c b → (p : Expr) → b ≡ body.Part p → RefersOnly (Leads library name) p
  condition_leads name c b (nothing e) p is =
      let same : expr.NotAllowed ≡ p = cc in
      subst (RefersOnly (Leads library name)) same (refers_closed (Leads library name)).not_allowed
  condition_leads name c b (element which h e) p is = cc

  -- a macro leads to what its content refers to
  macro_leads : (ident : List ℕ) (part : OtherPart) → find key_cmp (macro_key ident) library.parts ≡ Some (component.Macro part)
      → RefersOnly (Leads library (macro_name ident)) (content_pattern library conditions members part.content)
  macro_leads ident part held =
      let Known = Leads library (macro_name ident) in
      let below : (name : List ℕ) → level name < 3 → RefersOnly Known (expr.Ref name) = λ name less. refers_known Known name (lower less) in
      content_good (RefersOnly Known) (refers_closed Known) (refers_text Known) library conditions members part.content (record {
        elements = λ key h. below (define_name key) (omega arith);
        classes = λ key idents e. below (class_name key) (omega arith);
        each_member = λ key idents member e s. below (define_name member) (omega arith);
        macros = λ key s h.
            let at = macro_found library key h in
            let linked : IsLinked macros_of library (macro_key ident) (macro_key key) = record {
              part = component.Macro part;
              held = held;
              among = stands_filter (λ k. is_macro k.kind) (named_in part.content) (macro_key key) s refl;
              other_held = ap is_some at.1;
            } in
            refers_known Known (macro_name key) (reached macros ident key (graph.at_once linked) refl refl);
        each_condition = λ c s. below (condition_name conditions c) (omega arith);
        each_data = leaf_refers Known library conditions members (λ key. lower (omega arith)) part.content;
      })

  -- and so does a datatype
  datatype_leads : (ident : List ℕ) (part : OtherPart) → find key_cmp (datatype_key ident) library.parts ≡ Some (component.Datatype part)
      → RefersOnly (Leads library (datatype_name ident)) (data_pattern part.content)
  datatype_leads ident part held =
      content_refers (Leads library (datatype_name ident)) part.content (λ key s.
      let linked : IsLinked datatypes_of library (datatype_key ident) (datatype_key key) = record {
        part = component.Datatype part;
        held = held;
        among = stands_filter (λ k. is_datatype k.kind) (named_in part.content) (datatype_key key) s refl;
        other_held = named_held library whole (datatype_key ident) (component.Datatype part) held key s;
      } in
      reached datatypes ident key (graph.at_once linked) refl refl)

  -- so does a define, where it is one whose pattern leads there
  one_leads : (d e : Define) (p q : Expr) → d ≡ e → e.body ≡ body.Part q → d.body ≡ body.Part p → RefersOnly (Leads library e.name) q → RefersOnly (Leads library d.name) p
  one_leads d e p q same has is leads =
      let bodies : body.Part q ≡ body.Part p = sym has ∙ sym (ap (λ (x : Define). x.body) same) ∙ is in
      let patterns : q ≡ p = cc in
      subst (λ (x : Define). RefersOnly (Leads library x.name) p) (sym same) (subst (RefersOnly (Leads library e.name)) patterns leads)

  -- each define that is no `element` leads to what it refers to
  define_leads : (d : Define) (p : Expr) → IsDefineOf library conditions members offers d → d.body ≡ body.Part p → RefersOnly (Leads library d.name) p
  define_leads d p (compiled.of_condition c s e) is =
      let name = condition_name conditions c in
      subst (λ (x : Define). RefersOnly (Leads library x.name) p) (sym e)
      (condition_leads name c (condition_body name c) (condition_body_is name c) p (sym (ap (λ (x : Define). x.body) e) ∙ is))
  define_leads d p (compiled.of_class ident idents listed e) is =
      let Known = Leads library (class_name ident) in
      let leads = references_good (RefersOnly Known) (refers_closed Known) idents (λ member s. refers_known Known (define_name member) (lower (omega arith))) in
      one_leads d (class_define ident idents) p (references_pattern idents) e refl is leads
  define_leads d p (compiled.of_datatype ident part held e) is =
      one_leads d (datatype_define ident part) p (data_pattern part.content) e refl is (datatype_leads ident part held)
  define_leads d p (compiled.of_element ident part held e) is =
      let bodies : (element_define library conditions members (offers ident) ident part).body ≡ body.Part p = sym (ap (λ (x : Define). x.body) e) ∙ is in cc
  define_leads d p (compiled.of_macro ident part held e) is =
      one_leads d (macro_define library conditions members ident part) p (content_pattern library conditions members part.content) e refl is (macro_leads ident part held)

module _ (library : Library) (start : List (List ℕ)) (g : Grammar) (whole : (key : Key) (rule : ℕ) → Breaks library key rule → ⊥) (is : IsGrammarOf library start g) where
  -- a name leads to each name that it reaches
  reach_leads : (name other : List ℕ) → Reaches g name other → Leads library name other
  reach_leads name other (at_once {p = p} defined r) =
      let d : Define = record { name = name; body = body.Part p } in
      define_leads library is.conditions is.members is.offers whole d p (is.are_defines.none_else d defined) refl other r
  reach_leads name other (through {between = between} r s) = led_on library name between other (reach_leads name between r) (reach_leads between other s)

  -- so no name reaches itself
  pub apart : (name : List ℕ) → Reaches g name name → ⊥
  apart name r = none_led library whole name (reach_leads name name r)

-- an `altIdent` or an ident is a name
name_plain : (ident : List ℕ) (alt : Option (List ℕ)) → IsNCName ident → IfSome alt IsNCName → IsNCName (unwrap_or alt ident)
name_plain ident None n h = n
name_plain ident (Some other) n h = h

-- a formed attribute's name in documents is plain
written_plain : (ns text : List ℕ) → IsLegal ns → IsAttributeName text → IsPlainName (name_written ns text)
written_plain ns text legal n = by (is_same (take (length xml_prefix) text) xml_prefix) refl n
  where
    by : (b : Bool) → is_same (take (length xml_prefix) text) xml_prefix ≡ b → IsAttributeName text → IsPlainName (cond b (record { ns = xml_namespace; local = drop (length xml_prefix) text }) (record { ns = ns; local = text }))
    by true e named =
        let parts : text ≡ xml_prefix ++ drop (length xml_prefix) text =
        sym (take-append-drop (length xml_prefix) text) ∙ ap (λ front. front ++ drop (length xml_prefix) text) (same_text (take (length xml_prefix) text) xml_prefix (sym e)) in
        record { named = (xml_named text (drop (length xml_prefix) text) parts).1 named; legal = ascii_legal xml_namespace refl }
    by false e (attribute.plain named) = record { named = named; legal = legal }
    by false e (attribute.of_xml local is named) = absurd (false≢true (sym e ∙ ap (λ t. is_same (take (length xml_prefix) t) xml_prefix) is))

attribute_plain : (ident : List ℕ) (def : AttDef) → IsAttributeName ident → IsFormedDef def → IsPlainName (attribute_name ident def)
attribute_plain ident def n f = written_plain (unwrap_or def.ns []) (unwrap_or def.alt ident) (ns_legal def.ns f.ns) (text_named def.alt f.alt)
  where
    ns_legal : (ns : Option (List ℕ)) → IfSome ns IsLegal → IsLegal (unwrap_or ns [])
    ns_legal None h = ascii_legal [] refl
    ns_legal (Some ns) h = h

    text_named : (alt : Option (List ℕ)) → IfSome alt IsAttributeName → IsAttributeName (unwrap_or alt ident)
    text_named None h = n
    text_named (Some alt) h = h

mutual
  -- each condition in a formed content is formed
  conditions_formed : (left : ℕ) (c : Content) → IsFormedWithin left c → All IsFormedCondition (conditions_in c)
  conditions_formed left (Any c b) f = All-cons IsFormedCondition c [] f.0 (All-nil IsFormedCondition)
  conditions_formed left (Sequence' shape parts b) f = all_formed (left - 1) parts f.1
  conditions_formed left (Alternate' shape parts b) f = all_formed (left - 1) parts f.1
  conditions_formed left c f = All-nil IsFormedCondition

  -- and so in formed parts
  all_formed : {n : _} (left : ℕ) (parts : Row_of-Content n) → AreFormedWithin left parts → All IsFormedCondition (conditions_in_parts parts)
  all_formed left end_of-Content f = All-nil IsFormedCondition
  all_formed left (more_of-Content part parts) f =
      All-append IsFormedCondition (conditions_in part) (conditions_in_parts parts) (conditions_formed left part f.0) (all_formed left parts f.1)

-- a condition in a formed component is formed
condition_formed : (k : Kind) (part : Component) (c : Condition) → IsFormedPart k part → StandsIn (conditions_of (content_of part)) c → IsFormedCondition c
condition_formed kind.Element (component.Element part) c f s = All-contains IsFormedCondition (conditions_in part.content) c (conditions_formed 60 part.content f.content) (contained (conditions_in part.content) c s)
condition_formed kind.Macro (component.Macro part) c f s = All-contains IsFormedCondition (conditions_in part.content) c (conditions_formed 60 part.content f.content) (contained (conditions_in part.content) c s)
condition_formed kind.Class (component.Class part) c f s = absurd (nothing_stands c s)
condition_formed kind.Datatype (component.Datatype part) c f s = All-contains IsFormedCondition (conditions_in part.content) c (conditions_formed 60 part.content f.content.0) (contained (conditions_in part.content) c s)
condition_formed k part c f s = absurd f

module _ (library : Library) (start : List (List ℕ)) (g : Grammar) (f : IsFormedLibrary library) (none : (key : Key) (rule : ℕ) → Breaks library key rule → ⊥) (is : IsGrammarOf library start g) where
  -- what is a define of the library
  abbrev Is : Define → Type 0
  Is = IsDefineOf library is.conditions is.members is.offers

  -- a condition of the library is formed
  formed_here : (c : Condition) → StandsIn is.conditions c → IsFormedCondition c
  formed_here c s =
      let at = is.are_conditions.none_else c s in
      let there = found key_cmp key_total key_exact at.entry.0 at.entry.1 library.parts f.rising at.among in
      condition_formed at.entry.0.kind at.entry.1 c (f.formed at.entry.0 at.entry.1 there).1 at.holds

  -- the name of each define is a name
  named : (d : Define) → Is d → IsNCName d.name
  named d (compiled.of_condition c s e) = subst (λ (x : Define). IsNCName x.name) (sym e) (condition_ncname is.conditions c)
  named d (compiled.of_class ident idents listed e) =
      let held = (listed_is library is.members ident idents is.are_members listed).0 in
      subst (λ (x : Define). IsNCName x.name) (sym e) (class_ncname ident (f.formed (class_key ident) (component.Class held.part) held.held).0)
  named d (compiled.of_datatype ident part held e) = subst (λ (x : Define). IsNCName x.name) (sym e) (datatype_ncname ident (f.formed (datatype_key ident) (component.Datatype part) held).0)
  named d (compiled.of_element ident part held e) = subst (λ (x : Define). IsNCName x.name) (sym e) (define_ncname ident (f.formed (element_key ident) (component.Element part) held).0)
  named d (compiled.of_macro ident part held e) = subst (λ (x : Define). IsNCName x.name) (sym e) (macro_ncname ident (f.formed (macro_key ident) (component.Macro part) held).0)

  -- its patterns are plain
  patterns_plain : (d : Define) → Is d → All IsPlainPattern (patterns_of d.body)
  patterns_plain = pattern_good library start g is f none IsPlainPattern plain_closed plain_form.text (plain_data (λ key. IsHeld library (datatype_key key)))
      (λ d h. plain_form.reference (named d h))

  -- a rule of what is offered has a plain name
  rule_plain : (ident : List ℕ) (rule : AttrRule) → StandsIn (map rule_of (is.offers ident)) rule → IsPlainRule rule
  rule_plain ident rule s =
      let o = stands_map rule_of (is.offers ident) rule s in
      let given = (is.are_offers ident).none_else o.0 o.1 in
      let sound = offer_sound library none f (element_key ident) o.0.0 o.0.1 given.0 given.1 in
      subst IsPlainRule (sym o.2) (record {
        named = attribute_plain o.0.0 o.0.1 sound.named sound.formed;
        value = value_good IsPlainPattern plain_closed plain_form.text library is.conditions is.members (λ key. IsHeld library (datatype_key key))
            (plain_data (λ key. IsHeld library (datatype_key key))) o.0.1 sound.formed sound.held;
      })

  -- and no two of one name
  names_apart : (ident : List ℕ) → NoneTwice (map (λ (rule : AttrRule). rule.name) (map rule_of (is.offers ident)))
  names_apart ident = none_twice (map (λ (rule : AttrRule). rule.name) (map rule_of (is.offers ident))) (distinct (is.offers ident) (is.are_offers ident).rising (is.are_offers ident).none_else)
    where
      -- a later attribute of the same name would break a rule
      apart_from : (o : List ℕ × AttDef) (os : List (List ℕ × AttDef)) → OffersOne library ident o → ((p : List ℕ × AttDef) → StandsIn os p → OffersOne library ident p)
          → ((p : List ℕ × AttDef) → StandsIn os p → offer_cmp o p ≡ Less) → Lacks (rule_of o).name (map (λ (rule : AttrRule). rule.name) (map rule_of os))
      apart_from o [] one all below = tt
      apart_from o (p ∷ ps) one all below = (
        λ same.
            let here = stands_first p ps in
            let less : text_cmp o.0 p.0 ≡ Less = below p here in
            none (element_key ident) 16 (shares_name ident (record {
              one = o.0;
              other = p.0;
              def = o.1;
              other_def = p.1;
              giver = one.0;
              other_giver = (all p here).0;
              offered = one.1;
              other_offered = (all p here).1;
              apart = λ e. not_below text_cmp nat_list_cmp_total o.0 (subst (λ x. text_cmp o.0 x ≡ Less) (sym e) less);
              same = sym same;
            })),
        apart_from o ps one (λ q s. all q (stands_later p q ps s)) (λ q s. below q (stands_later p q ps s)),
      )

      distinct : (os : List (List ℕ × AttDef)) → AreRising offer_cmp os → ((p : List ℕ × AttDef) → StandsIn os p → OffersOne library ident p)
          → Distinct (map (λ (rule : AttrRule). rule.name) (map rule_of os))
      distinct [] rising all = tt
      distinct (o ∷ os) rising all = (
        apart_from o os (all o (stands_first o os)) (λ q s. all q (stands_later o q os s)) (first_below offer_cmp offer_total o os rising),
        distinct os (rest_rising offer_cmp offer_total o os rising) (λ q s. all q (stands_later o q os s)),
      )

  -- so is the body of a condition's define
  condition_plain : (name : List ℕ) (c : Condition) (b : Body) → IsFormedCondition c → IsBodyOf name c b → All IsPlainPattern (patterns_of b) → IsPlainBody b
  condition_plain name c b formed (nothing e) all = subst IsPlainBody (sym e) (All-head IsPlainPattern expr.NotAllowed [] (subst (λ x. All IsPlainPattern (patterns_of x)) e all))
  condition_plain name c b formed (element which h e) all =
      subst IsPlainBody (sym e) (h formed, tt, All-head IsPlainPattern (content_throughout name) [] (subst (λ x. All IsPlainPattern (patterns_of x)) e all))

  -- and of each define
  body_plain : (d : Define) → Is d → IsPlainBody d.body
  body_plain d (compiled.of_condition c s e) =
      let name = condition_name is.conditions c in
      let own = compiled.of_condition c s refl in
      subst (λ (x : Define). IsPlainBody x.body) (sym e) (condition_plain name c (condition_body name c) (formed_here c s) (condition_body_is name c) (patterns_plain _ own))
  body_plain d (compiled.of_class ident idents listed e) =
      subst (λ (x : Define). IsPlainBody x.body) (sym e) (All-head IsPlainPattern _ [] (patterns_plain (class_define ident idents) (compiled.of_class ident idents listed refl)))
  body_plain d (compiled.of_datatype ident part held e) =
      subst (λ (x : Define). IsPlainBody x.body) (sym e)
      (All-head IsPlainPattern _ [] (patterns_plain (datatype_define ident part) (compiled.of_datatype ident part held refl)))
  body_plain d (compiled.of_element ident part held e) =
      let at = f.formed (element_key ident) (component.Element part) held in
      subst (λ (x : Define). IsPlainBody x.body) (sym e) (
        record { named = name_plain ident part.alt at.0 at.1.alt; legal = at.1.ns },
        (each_stands IsPlainRule (map rule_of (is.offers ident)) (rule_plain ident), names_apart ident),
        All-head IsPlainPattern _ _ (patterns_plain (element_define library is.conditions is.members (is.offers ident) ident part) (compiled.of_element ident part held refl)),
      )
  body_plain d (compiled.of_macro ident part held e) =
      subst (λ (x : Define). IsPlainBody x.body) (sym e) (All-head IsPlainPattern _ [] (patterns_plain (macro_define library is.conditions is.members ident part) (compiled.of_macro ident part held refl)))

  -- a reference to one of the defines is to a name that is defined
  abbrev IsKnown : List ℕ → Type 0
  IsKnown = StandsIn (names_of g.defines)

  known : (d : Define) → Is d → RefersOnly IsKnown (expr.Ref d.name)
  known d h = refers_known IsKnown d.name (map_stands (λ (x : Define). x.name) g.defines d (is.are_defines.each d h))

  -- a held datatype is defined
  datatype_defined : (key : List ℕ) (part : Component) → find key_cmp (datatype_key key) library.parts ≡ Some part → IsKnown (datatype_name key)
  datatype_defined key (component.Datatype part) there =
      let d = datatype_define key part in
      map_stands (λ (x : Define). x.name) g.defines d (is.are_defines.each d (compiled.of_datatype key part there refl))
  datatype_defined key part there = absurd (f.formed (datatype_key key) part there).1

-- so the start and the defines are plain, the defines rise, and the references are to defines
pub plain : (library : Library) (start : List (List ℕ)) (g : Grammar) → IsFormedLibrary library → ((key : Key) (rule : ℕ) → Breaks library key rule → ⊥) → HoldsStart library start
    → IsGrammarOf library start g → IsPlain g
plain library start g f whole holds is =
    let Known = IsKnown library start g f whole is in
    let Held : List ℕ → Type 0 = λ key. IsHeld library (datatype_key key) in
    let names = named library start g f whole is in
    let refers = known library start g f whole is in
    let datatype_known : (key : List ℕ) → Held key → Known (datatype_name key) = λ key h. let at = held (datatype_key key) library h in datatype_defined library start g f whole is key at.0 at.1 in
    let patterns = pattern_good library start g is f whole (RefersOnly Known) (refers_closed Known) (refers_text Known) (refers_data Known Held datatype_known) refers in
    printable_plain g (record {
      start = subst IsPlainPattern (sym is.start_is) (start_good library start g is f whole IsPlainPattern plain_closed plain_form.text (plain_data Held) (λ d h. plain_form.reference (names d h)) holds);
      defines = each_stands IsPlainDefine g.defines (λ d s. let h = is.are_defines.none_else d s in record { named = names d h; body = body_plain library start g f whole is d h });
      rising = rising_sorted g.defines is.are_defines.rising;
      linked = record {
        start = subst (RefersOnly Known) (sym is.start_is) (start_good library start g is f whole (RefersOnly Known) (refers_closed Known) (refers_text Known) (refers_data Known Held datatype_known) refers holds);
        patterns = λ name d p s k.
            All-contains (RefersOnly Known) (patterns_of d.body) p (patterns d (is.are_defines.none_else d s)) (contained (patterns_of d.body) p k) name;
        apart = apart library start g whole is;
      };
      sorted = sorted library start g is f whole holds;
    })
