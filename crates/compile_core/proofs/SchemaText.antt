-- A library's grammar has the text of the library's schema, which is one text.
use Rattle.std.proofs.Common.{◌≡◌, ℕ, zero, suc, Bool, true, false, List, [], ◌∷◌, ◌++◌, ◌-◌, Option, Some, None, if◌then◌else◌, codes, filter, map, replicate, refl, sym, ap, subst, ◌∙◌}
use Rattle.std.proofs.lemmas.Cmp.{nat_list_cmp_total, on_total}
use Rattle.std.proofs.lemmas.List.{map-append}
use Rattle.std.proofs.lemmas.Simd.{map-map}
use Rattle.compile_defines.specs.Conditions.{IsConditionOf}
use Rattle.compile_defines.specs.Contents.{class_name, condition_name, content_pattern, define_name, element_pattern, holds_element, holds_macro, macro_name, macro_pattern, members_pattern, part_patterns, reference, references_pattern}
use Rattle.compile_defines.specs.Data.{data_pattern, data_patterns, datatype_name, item_pattern, listed_pattern, piece_pattern, pieces_pattern, value_pattern, values_pattern}
use Rattle.compile_defines.specs.Repeating as repeating
use Rattle.compile_defines.specs.Repeating.{choice_pattern, group_pattern, repeated, repeated_within}
use Rattle.compile_core.proofs.OneGrammarOf.{one_members, one_offers}
use Rattle.compile_core.specs.SchemaText as text
use Rattle.compile_core.specs.SchemaText.{Defines, Held, IsSchemaText, choice, datatype_markup, element_markup, item_markup, listed_markup, offer_markup, piece_markup, pieces_markup, condition_markup, content_markup, data_markup, data_parts_markup, element_throughout, further, group, held_cmp, members_markup, often, often_within, parts_markup, refs, schema_markup, within_spaces}
use Rattle.compile_defines.proofs.NamedDefines.{define_total}
use Rattle.compile_defines.specs.Compiled as compiled
use Rattle.compile_defines.specs.Compiled.{AllOffers, IsDefineOf, IsGrammarOf, element_define, rule_of, body_requiring, body_within, content_throughout, define_cmp, space_part, spaces_left}
use Rattle.odd_content.specs.ConditionOrder.{condition_cmp, condition_total}
use Rattle.odd_content.specs.Picking.{is_picked}
use Rattle.odd_content.specs.declared.content.Condition.{Condition}
use Rattle.odd_content.specs.declared.content.Content.{Content, Empty, Text, Value, Vals, Element, Class, Macro, Any, Sequence', Alternate', Row_of-Content, end_of-Content, more_of-Content}
use Rattle.odd_content.specs.declared.content.Pick.{Pick}
use Rattle.odd_content.specs.declared.content.Pick.TheVariants as pick
use Rattle.odd_text.proofs.SetOf.{first_below, none_rising, one_set, rest_rising, rising_more}
use Rattle.odd_text.specs.Sorted.{AreRising, IsSet}
use Rattle.odd_attributes.specs.declared.att_def.AttDef.{AttDef}
use Rattle.odd_attributes.specs.declared.att_def.Datatype.{Datatype}
use Rattle.odd_library.specs.declared.library.ElementPart.{ElementPart}
use Rattle.odd_library.specs.declared.library.Library.{Library}
use Rattle.odd_meaning.specs.Naming.{attribute_name, element_name}
use Rattle.odd_meaning.specs.Values.{bounds_of}
use Rattle.odd_text.specs.Same.{is_same}
use Rattle.rng_grammar.specs.Denoting.{read_as}
use Rattle.rng_types.specs.declared.data_type.DataType.{DataType}
use Rattle.rng_types.specs.declared.data_type.DataType.TheVariants as datatypes
use Rattle.rng_types.specs.declared.item.Item.{Item}
use Rattle.rng_types.specs.declared.item.Item.TheVariants as items
use Rattle.rng_types.specs.declared.val_list.ListKind.{ListKind}
use Rattle.rng_types.specs.declared.val_list.ListKind.TheVariants as listing
use Rattle.rng_types.specs.declared.val_list.ValList.{ValList}
use Rattle.odd_meaning.specs.Classes.{Members}
use Rattle.odd_text.proofs.InList.{map_stands, stands_map}
use Rattle.odd_text.specs.Standing.{StandsIn}
use Rattle.odd_tree.specs.Markup.{Markup, element, file_printed, line, none}
use Rattle.rng_emit.proofs.Shapes.{choice_is, empty_is, group_is, list_is, same_is, typed_is, not_allowed_is, one_or_more_is, optional_is, ref_is, text_is, zero_or_more_is}
use Rattle.rng_emit.specs.Grammar.{all_of, any_attributes, body_markup, param_markup, rule_markup, type_name, grammar_markup, grammar_text, named, part_markup, pattern_markup, plain}
use Rattle.rng_grammar.specs.declared.grammar.Define.{Define}
use Rattle.rng_grammar.specs.declared.grammar.Expr.{Expr}
use Rattle.rng_grammar.specs.declared.grammar.Expr.TheVariants as expr
use Rattle.rng_grammar.specs.declared.grammar.Grammar.{Grammar}
use Rattle.rng_grammar.specs.declared.grammar.NsPart.{NsPart}
use Rattle.rng_types.specs.declared.bounds.Bounds.{Bounds}
use Rattle.std.specs.declared.cmp.Ordering.TheVariants.{Less}

-- the images of copies are copies of the image
copies : {A B : Type 0} (f : A → B) (n : ℕ) (x : A) → map f (replicate n x) ≡ replicate n (f x)
copies f zero x = refl
copies f (suc n) x = ap (λ ys. f x ∷ ys) (copies f n x)

-- the element of a group, a choice and a repetition, by those of its parts

group_markup : (ps : List Expr) → pattern_markup (group_pattern ps) ≡ group (map pattern_markup ps)
group_markup [] = empty_is
group_markup (p ∷ []) = refl
group_markup (p ∷ q ∷ ps) = group_is (p ∷ q ∷ ps)

choice_markup : (ps : List Expr) → pattern_markup (choice_pattern ps) ≡ choice (map pattern_markup ps)
choice_markup [] = not_allowed_is
choice_markup (p ∷ []) = refl
choice_markup (p ∷ q ∷ ps) = choice_is (p ∷ q ∷ ps)

further_markup : (p : Expr) (min : ℕ) (max : Option ℕ) → map pattern_markup (repeating.further p min max) ≡ further (pattern_markup p) min max
further_markup p min None = ap (λ m. m ∷ []) (zero_or_more_is p)
further_markup p min (Some max) = copies pattern_markup (max - min) (expr.Optional p) ∙ ap (λ m. replicate (max - min) m) (optional_is p)

repeated_markup : (p : Expr) (min : ℕ) (max : Option ℕ) → pattern_markup (repeated_within p min max) ≡ often_within (pattern_markup p) min max
repeated_markup p (suc zero) None = one_or_more_is p
repeated_markup p min max =
    group_markup (replicate min p ++ repeating.further p min max)
    ∙ ap group (map-append pattern_markup (replicate min p) (repeating.further p min max) ∙ (λ i. copies pattern_markup min p i ++ further_markup p min max i))

often_is : (p : Expr) (m : Markup) (b : Bounds) → pattern_markup p ≡ m → pattern_markup (repeated p b) ≡ often m b
often_is p m b e = repeated_markup p b.min b.max ∙ ap (λ x. often x b) e

-- the words of a list
several : (p : Expr) (min : ℕ) (max : Option ℕ) → pattern_markup (expr.List (repeated_within p min max)) ≡ plain (codes "list") (often_within (pattern_markup p) min max ∷ [])
several p min max = list_is (repeated_within p min max) ∙ ap (λ m. plain (codes "list") (m ∷ [])) (repeated_markup p min max)

-- references to elements
refs_is : (idents : List (List ℕ)) → pattern_markup (references_pattern idents) ≡ refs idents
refs_is idents = choice_markup (map reference idents) ∙ ap choice (map-map pattern_markup reference idents ∙ (λ i. map (λ ident. ref_is (define_name ident) i) idents))

-- what is held, and else nothing
if_held : (p : Expr) (m : Markup) (held : Bool) → pattern_markup p ≡ m → pattern_markup (if held then p else expr.NotAllowed) ≡ (if held then m else plain (codes "notAllowed") [])
if_held p m true e = e
if_held p m false e = not_allowed_is

-- the members of a class, by what is listed
members_is : (key : List ℕ) (p : Pick) (listed : Option (List (List ℕ))) → pattern_markup (members_pattern key p listed) ≡ members_markup key p listed
members_is key p None = not_allowed_is
members_is key pick.All (Some idents) = ref_is (class_name key)
members_is key (pick.Include words) (Some idents) = refs_is (filter (is_picked (pick.Include words)) idents)
members_is key (pick.Except words) (Some idents) = refs_is (filter (is_picked (pick.Except words)) idents)

-- what is read of a datatype has its name
read_name : (k : DataType) → type_name (read_as k) ≡ type_name k
read_name datatypes.Id = refl
read_name datatypes.Idref = refl
read_name k = refl

item_is : (i : Item) → pattern_markup (item_pattern i) ≡ item_markup i
item_is (items.Typed k facets) = typed_is (read_as k) facets ∙ ap (λ name. element (codes "data") ((codes "type", name) ∷ []) (all_of (map param_markup facets))) (read_name k)
item_is (items.Key key) = ref_is (datatype_name key)

values_are : (values : List (List ℕ)) → pattern_markup (values_pattern values) ≡ choice (map (line (codes "value") []) values)
values_are values = choice_markup (map expr.Same values) ∙ ap choice (map-map pattern_markup expr.Same values ∙ (λ i. map (λ value. same_is value i) values))

listed_is_markup : (k : ListKind) (values : List (List ℕ)) → pattern_markup (listed_pattern k values) ≡ listed_markup k values (element (codes "data") ((codes "type", codes "string") ∷ []) none)
listed_is_markup listing.Closed values = values_are values
listed_is_markup listing.Semi values = typed_is datatypes.String []
listed_is_markup listing.Open values = typed_is datatypes.String []

-- a piece of an attribute's value
datatype_is : (o : Option Datatype) → pattern_markup (piece_pattern o None) ≡ datatype_markup o
datatype_is None = text_is
datatype_is (Some d) = item_is d.item

piece_is : (o : Option Datatype) (vals : Option ValList) → pattern_markup (piece_pattern o vals) ≡ piece_markup o vals
piece_is o None = datatype_is o
piece_is o (Some list) = by list.kind
  where
    by : (k : ListKind) → pattern_markup (piece_pattern o (Some (record { kind = k; values = list.values }))) ≡ listed_markup k list.values (datatype_markup o)
    by listing.Closed = values_are list.values
    by listing.Semi = datatype_is o
    by listing.Open = datatype_is o

pieces_are : (p : Expr) (min : ℕ) (max : Option ℕ) → pattern_markup (pieces_pattern p (record { min = min; max = max })) ≡ pieces_markup (pattern_markup p) min max
pieces_are p zero max = several p zero max
pieces_are p (suc zero) None = several p (suc zero) None
pieces_are p (suc zero) (Some zero) = several p (suc zero) (Some zero)
pieces_are p (suc zero) (Some (suc zero)) = refl
pieces_are p (suc zero) (Some (suc (suc n))) = several p (suc zero) (Some (suc (suc n)))
pieces_are p (suc (suc n)) max = several p (suc (suc n)) max

-- what an element offers
value_is : (def : AttDef) → pattern_markup (value_pattern def) ≡ pieces_markup (piece_markup def.datatype def.vals) (bounds_of def.datatype).min (bounds_of def.datatype).max
value_is def =
    pieces_are (piece_pattern def.datatype def.vals) (bounds_of def.datatype).min (bounds_of def.datatype).max
    ∙ ap (λ m. pieces_markup m (bounds_of def.datatype).min (bounds_of def.datatype).max) (piece_is def.datatype def.vals)

offer_is : (offer : List ℕ × AttDef) → rule_markup (rule_of offer) ≡ offer_markup offer
offer_is (ident, def) = ap (λ m.
    let attribute = element (codes "attribute")
    ((codes "name", (attribute_name ident def).local) ∷ (if is_same (attribute_name ident def).ns [] then [] else (codes "ns", (attribute_name ident def).ns) ∷ [])) (all_of (m ∷ [])) in
    if def.needed then attribute else plain (codes "optional") (attribute ∷ [])) (value_is def)

mutual
  -- the content of a datatype, by what it is made of
  data_is : (c : Content) → pattern_markup (data_pattern c) ≡ data_markup c
  data_is (Value i) = item_is i
  data_is (Vals list) = listed_is_markup list.kind list.values
  data_is (Alternate' shape parts b) = choice_markup (data_patterns parts) ∙ ap choice (data_are parts)
  data_is Empty = not_allowed_is
  data_is Text = not_allowed_is
  data_is (Element key b) = not_allowed_is
  data_is (Class key p b) = not_allowed_is
  data_is (Macro key b) = not_allowed_is
  data_is (Any c b) = not_allowed_is
  data_is (Sequence' shape parts b) = not_allowed_is

  -- and each of its parts
  data_are : {n : _} (parts : Row_of-Content n) → map pattern_markup (data_patterns parts) ≡ data_parts_markup parts
  data_are end_of-Content = refl
  data_are (more_of-Content part parts) = λ i. data_is part i ∷ data_are parts i

module _ (library : Library) (conditions : List Condition) (members : Members) where
  mutual
    -- a content, by what it is made of
    content_is : (c : Content) → pattern_markup (content_pattern library conditions members c) ≡ content_markup library conditions members c
    content_is Empty = empty_is
    content_is Text = text_is
    content_is (Value i) = item_is i
    content_is (Vals list) = listed_is_markup list.kind list.values
    content_is (Element key b) = often_is (element_pattern library key) _ b (if_held (reference key) _ (holds_element library key) (ref_is (define_name key)))
    content_is (Class key p b) = often_is (members_pattern key p (members key)) _ b (members_is key p (members key))
    content_is (Macro key b) = often_is (macro_pattern library key) _ b (if_held (expr.Ref (macro_name key)) _ (holds_macro library key) (ref_is (macro_name key)))
    content_is (Any c b) = often_is (expr.Ref (condition_name conditions c)) _ b (ref_is (condition_name conditions c))
    content_is (Sequence' shape parts b) = often_is _ _ b (group_markup (part_patterns library conditions members parts) ∙ ap group (parts_are parts))
    content_is (Alternate' shape parts b) = often_is _ _ b (choice_markup (part_patterns library conditions members parts) ∙ ap choice (parts_are parts))

    -- and each of its parts
    parts_are : {n : _} (parts : Row_of-Content n) → map pattern_markup (part_patterns library conditions members parts) ≡ parts_markup library conditions members parts
    parts_are end_of-Content = refl
    parts_are (more_of-Content part parts) = λ i. content_is part i ∷ parts_are parts i

-- an element with any attributes, over texts and such elements
throughout_is : (name : List ℕ) (m : Markup) → plain (codes "element") (m ∷ any_attributes ∷ pattern_markup (content_throughout name) ∷ []) ≡ element_throughout name m
throughout_is name m = simp (zero_or_more_is, choice_is, text_is, ref_is)

-- in one of some namespaces
within_is : (name : List ℕ) (parts : List NsPart) → body_markup (body_within name parts) ≡ within_spaces name (map part_markup parts)
within_is name [] = not_allowed_is
within_is name (part ∷ []) = throughout_is name _
within_is name (part ∷ other ∷ parts) = throughout_is name _

-- that meets a condition
condition_is : (name : List ℕ) (c : Condition) (spaces : List (List ℕ)) → body_markup (body_requiring name c spaces) ≡ condition_markup name c spaces
condition_is name c [] = throughout_is name _
condition_is name c (space ∷ spaces) = within_is name (map (space_part c) (spaces_left c)) ∙ ap (within_spaces name) (map-map part_markup (space_part c) (spaces_left c))

-- what the text says of a define
abbrev held : Define → Held
held d = (d.name, body_markup d.body)

-- this of defines that rise rises
held_rise : (ds : List Define) → AreRising define_cmp ds → AreRising held_cmp (map held ds)
held_rise [] r = none_rising held_cmp
held_rise (d ∷ ds) r =
    rising_more held_cmp (held d) (map held ds)
    (λ h s. let at = stands_map held ds h s in subst (λ x. held_cmp (held d) x ≡ Less) (sym at.2) (first_below define_cmp define_total d ds r at.0 at.1))
    (held_rise ds (rest_rising define_cmp define_total d ds r))

module _ (library : Library) (conditions : List Condition) (members : Members) (offers : AllOffers) where
  -- what the text says of an element
  element_is : (ident : List ℕ) (part : ElementPart) → held (element_define library conditions members (offers ident) ident part) ≡ (define_name ident, element_markup library conditions members (offers ident) ident part)
  element_is ident part = λ i. (define_name ident, element (codes "element") ((codes "name", (element_name ident part).local) ∷ (codes "ns", part.ns) ∷ []) (all_of ((map-map rule_markup rule_of (offers ident) ∙ (λ j. map (λ offer. offer_is offer j) (offers ident))) i ++ content_is library conditions members part.content i ∷ [])))

  -- the text says each define of the grammar
  held_is : (d : Define) → IsDefineOf library conditions members offers d → Defines library conditions members offers (held d)
  held_is d (compiled.of_condition c s e) = text.of_condition c s (ap held e ∙ rw (condition_is (condition_name conditions c) c c.require))
  held_is d (compiled.of_class ident idents listed e) = text.of_class ident idents listed (ap held e ∙ rw (refs_is idents))
  held_is d (compiled.of_datatype ident part at e) = text.of_datatype ident part at (ap held e ∙ rw (data_is part.content))
  held_is d (compiled.of_element ident part at e) = text.of_element ident part at (ap held e ∙ element_is ident part)
  held_is d (compiled.of_macro ident part at e) = text.of_macro ident part at (ap held e ∙ rw (content_is library conditions members part.content))

  -- and nothing else
  is_held : (h : Held) → Defines library conditions members offers h → (d : Define) × IsDefineOf library conditions members offers d × (h ≡ held d)
  is_held h (text.of_condition c s e) = (_, compiled.of_condition c s refl, e ∙ rw (condition_is (condition_name conditions c) c c.require))
  is_held h (text.of_class ident idents listed e) = (_, compiled.of_class ident idents listed refl, e ∙ rw (refs_is idents))
  is_held h (text.of_datatype ident part at e) = (_, compiled.of_datatype ident part at refl, e ∙ rw (data_is part.content))
  is_held h (text.of_element ident part at e) = (_, compiled.of_element ident part at refl, e ∙ sym (element_is ident part))
  is_held h (text.of_macro ident part at e) = (_, compiled.of_macro ident part at refl, e ∙ rw (content_is library conditions members part.content))

  -- so it says the set of them
  held_set : (ds : List Define) → IsSet define_cmp (IsDefineOf library conditions members offers) ds → IsSet held_cmp (Defines library conditions members offers) (map held ds)
  held_set ds set = record {
    rising = held_rise ds set.rising;
    none_else = λ h s. let at = stands_map held ds h s in subst (Defines library conditions members offers) (sym at.2) (held_is at.0 (set.none_else at.0 at.1));
    each = λ h is. let of = is_held h is in subst (StandsIn (map held ds)) (sym of.2) (map_stands held ds of.0 (set.each of.0 of.1));
  }

-- the text of the grammar of a library and a list of start words is that of their schema
pub schema_text : (library : Library) (start : List (List ℕ)) (g : Grammar) → IsGrammarOf library start g → IsSchemaText library start (grammar_text g)
schema_text library start g is = record {
  conditions = is.conditions;
  are_conditions = is.are_conditions;
  members = is.members;
  are_members = is.are_members;
  offers = is.offers;
  are_offers = is.are_offers;
  defines = map held g.defines;
  are_defines = held_set library is.conditions is.members is.offers g.defines is.are_defines;
  text_is =
      let begin = ap pattern_markup is.start_is ∙ refs_is start in
      let defines = sym (map-map (λ (d : Held). named (codes "define") d.0 (d.1 ∷ [])) held g.defines) in
      λ i. file_printed (grammar_markup (begin i) (defines i));
}

-- and that is one text
pub one_schema_text : (library : Library) (start : List (List ℕ)) (text other : List ℕ) → IsSchemaText library start text → IsSchemaText library start other → text ≡ other
one_schema_text library start text other p q =
    let conditions : p.conditions ≡ q.conditions = one_set condition_cmp condition_total (IsConditionOf library) p.conditions q.conditions p.are_conditions q.are_conditions in
    let members : p.members ≡ q.members = one_members library p.members q.members p.are_members q.are_members in
    let offers : p.offers ≡ q.offers = one_offers library p.offers q.offers p.are_offers q.are_offers in
    let same : Defines library p.conditions p.members p.offers ≡ Defines library q.conditions q.members q.offers = λ i. Defines library (conditions i) (members i) (offers i) in
    let set : IsSet held_cmp (Defines library q.conditions q.members q.offers) p.defines = subst (λ (Is : Held → Type 0). IsSet held_cmp Is p.defines) same p.are_defines in
    let defines : p.defines ≡ q.defines = one_set held_cmp (on_total (λ (d : Held). d.0) nat_list_cmp_total) (Defines library q.conditions q.members q.offers) p.defines q.defines set q.are_defines in
    p.text_is ∙ ap (λ ds. file_printed (schema_markup (refs start) ds)) defines ∙ sym q.text_is
