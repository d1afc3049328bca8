-- Parts of a plain grammar: names, patterns and references.
use Rattle.std.proofs.Common.{◌≡◌, ℕ, true, false, List, [], ◌++◌, refl, subst, ◌<◌, ◌/◌, ◌%◌, ◌==◌, zero, suc, cond, ◌∷◌, ◌∙◌, arith, inl, inr, ⊎_elim, map, sym, rules}
use Rattle.std.proofs.lemmas.Bool.{and_from, and_parts}
use Rattle.std.proofs.lemmas.Bool.Decides.{nat_tests}
use Rattle.std.proofs.lemmas.List.Elements.{All-map, All-nil, All-cons, All-contains, All-head, All-tail}
use Rattle.std.proofs.lemmas.Nat.{mod_below}
use Rattle.std.proofs.lemmas.Str.{encodes-append}
use Rattle.std.specs.Fmt.{digit_glyph, digits, digits_onto}
use Rattle.std.specs.List.{list_all}
use Rattle.std.specs.Prelude.{All, codes, decimal}
use Rattle.compile_defines.specs.Contents.{class_name, content_pattern, macro_name, condition_name, define_name, number_of}
use Rattle.compile_laws.proofs.Closed.{IsClosed, choice_good}
use Rattle.odd_content.specs.declared.content.Condition.{Condition}
use Rattle.odd_tokens.proofs.Ascii.{ascii_name, ascii_ncname, is_ascii_name}
use Rattle.odd_tokens.proofs.AttributesLexed.{ncname_chars}
use Rattle.odd_tokens.specs.Characters.{IsNCName, is_name_char, is_name_start, is_ncname}
use Rattle.odd_content.specs.FormedData.{IsFormedData, IsMadeItem}
use Rattle.odd_meaning.specs.Links.{datatype_key, named_by_item, named_in, named_in_parts}
use Rattle.odd_text.proofs.InList.{contained, nothing_stands, only_item, standing, stands_first}
use Rattle.odd_text.specs.Standing.{StandsIn}
use Rattle.compile_defines.specs.Data.{data_pattern, data_patterns, datatype_name, item_pattern, list_pattern, listed_pattern}
use Rattle.compile_laws.proofs.Good.{data_in, data_in_parts}
use Rattle.compile_laws.proofs.GoodData.{IsGoodOfData}
use Rattle.odd_content.specs.declared.content.Content.{Content, Empty, Text, Value, Vals, Element, Class, Macro, Any, Sequence', Alternate', Row_of-Content, end_of-Content, more_of-Content}
use Rattle.odd_library.specs.declared.library.Library.{Library}
use Rattle.odd_meaning.specs.Classes.{Members}
use Rattle.rng_types.specs.declared.val_list.ListKind.{ListKind}
use Rattle.rng_types.specs.declared.val_list.ListKind.TheVariants as listing
use Rattle.rng_types.specs.declared.val_list.ValList.{ValList}
use Rattle.compile_defines.proofs.Standing.{each_stands, stands_either, stands_left, stands_right}
use Rattle.rng_grammar.proofs.Values.{same_shown, typed_shown}
use Rattle.rng_grammar.specs.Denoting.{read_as}
use Rattle.rng_types.specs.declared.data_type.DataType.{DataType}
use Rattle.rng_types.specs.declared.data_type.DataType.TheVariants as kind
use Rattle.rng_types.specs.declared.facet.Facet.{Facet}
use Rattle.rng_types.specs.declared.item.Item.{Item}
use Rattle.rng_types.specs.declared.item.Item.TheVariants as items
use Rattle.rng_values.specs.Items as fault
use Rattle.rng_values.specs.Items.{ItemFault}
use Rattle.rng_emit.proofs.Printable as is
use Rattle.rng_emit.proofs.Printable.{ArePlainPatterns, IsPlainPattern, IsPlainType}
use Rattle.rng_grammar.proofs.OnePattern.{choice_shown, empty_shown, group_shown, list_shown, one_or_more_shown, optional_shown, parts_in, ref_shown, refers, text_shown, zero_or_more_shown}
use Rattle.rng_grammar.specs.Linked.{RefersTo}
use Rattle.rng_grammar.specs.declared.grammar.Expr.{Expr, Expr-F, out-Expr}
use Rattle.rng_grammar.specs.declared.grammar.Expr as E
use Rattle.rng_grammar.specs.declared.grammar.Expr.TheOpen as shape
use Rattle.rng_grammar.specs.declared.grammar.Expr.TheVariants as expr

-- an ident after a letter and a point makes a name
module _ (prefix : List ℕ) (named : is_ascii_name prefix ≡ true) (front : (cs : List ℕ) → list_all is_name_char cs ≡ true → is_ncname (prefix ++ cs) ≡ true) where
  prefixed_ncname : (ident : List ℕ) → IsNCName ident → IsNCName (prefix ++ ident)
  prefixed_ncname ident n = (prefix ++ n.0, encodes-append prefix n.0 ∙ (λ k. ascii_name prefix named k ++ n.1 k), front n.0 (ncname_chars n.0 n.2))

-- the front of a define's name, of each kind

element_front : (cs : List ℕ) → list_all is_name_char cs ≡ true → is_ncname (codes "e." ++ cs) ≡ true
unfolding is_name_start is_name_char
element_front cs h = h

class_front : (cs : List ℕ) → list_all is_name_char cs ≡ true → is_ncname (codes "c." ++ cs) ≡ true
unfolding is_name_start is_name_char
class_front cs h = h

macro_front : (cs : List ℕ) → list_all is_name_char cs ≡ true → is_ncname (codes "m." ++ cs) ≡ true
unfolding is_name_start is_name_char
macro_front cs h = h

datatype_front : (cs : List ℕ) → list_all is_name_char cs ≡ true → is_ncname (codes "d." ++ cs) ≡ true
unfolding is_name_start is_name_char
datatype_front cs h = h

-- so the names of the defines of an element, a class, a datatype and a macro are names

pub define_ncname : (ident : List ℕ) → IsNCName ident → IsNCName (define_name ident)
define_ncname = prefixed_ncname (codes "e.") refl element_front

pub class_ncname : (ident : List ℕ) → IsNCName ident → IsNCName (class_name ident)
class_ncname = prefixed_ncname (codes "c.") refl class_front

pub datatype_ncname : (ident : List ℕ) → IsNCName ident → IsNCName (datatype_name ident)
datatype_ncname = prefixed_ncname (codes "d.") refl datatype_front

pub macro_ncname : (ident : List ℕ) → IsNCName ident → IsNCName (macro_name ident)
macro_ncname = prefixed_ncname (codes "m.") refl macro_front

-- a digit may stand in a name
digit_name : (d : ℕ) → d < 10 → is_ascii_name (codes "a." ++ digit_glyph false d ∷ []) ≡ true
digit_name d h = grind (arith, nat_tests)

-- and makes a longer one
one_more : (d : ℕ) (ds : List ℕ) → d < 10 → is_ascii_name (codes "a." ++ ds) ≡ true → is_ascii_name (codes "a." ++ digit_glyph false d ∷ ds) ≡ true
one_more d ds h e = and_from _ _ (and_parts _ _ (digit_name d h)).0 e

-- so do the digits of a number
numbered : (k n : ℕ) (ds : List ℕ) → is_ascii_name (codes "a." ++ ds) ≡ true → is_ascii_name (codes "a." ++ digits_onto k 10 false n ds) ≡ true
numbered zero n ds e = e
numbered (suc k) n ds e =
    let longer = one_more (n % 10) ds (mod_below n 10 (omega arith)) e in
    elim (n / 10 == 0) as (λ b. is_ascii_name (codes "a." ++ cond b (digit_glyph false (n % 10) ∷ ds) (digits_onto k 10 false (n / 10) (digit_glyph false (n % 10) ∷ ds))) ≡ true) [
      | true ↦ longer
      | false ↦ numbered k (n / 10) (digit_glyph false (n % 10) ∷ ds) longer
    ]

-- a number after `a.` makes a name
decimal_name : (n : ℕ) → is_ascii_name (codes "a." ++ decimal n) ≡ true
unfolding digits
decimal_name n = numbered 64 n [] refl

-- so the name of a condition's define is one
pub condition_ncname : (conditions : List Condition) (c : Condition) → IsNCName (condition_name conditions c)
condition_ncname conditions c =
    let named = decimal_name (number_of conditions c) in
    (condition_name conditions c, ascii_name (condition_name conditions c) named, ascii_ncname (condition_name conditions c) named)

-- a made item is plain
made_plain : (k : DataType) (facets : List Facet) → IsMadeItem k facets → IsPlainType (read_as k) facets
made_plain k facets m = record { type = m.name; params = m.texts; sound = m.sound; kind = k; item = m.said; read = refl; legal = m.legal }

-- patterns that are plain each
patterns_plain : (ps : List Expr) → All IsPlainPattern ps → ArePlainPatterns ps
patterns_plain [] all = is.none
patterns_plain (p ∷ ps) all = is.more (All-head IsPlainPattern p ps all) (patterns_plain ps (All-tail IsPlainPattern p ps all))

-- so what is made of plain patterns is plain
pub plain_closed : IsClosed IsPlainPattern
plain_closed = record {
  empty = is.empty;
  not_allowed = is.not_allowed;
  group = λ p q ps all. is.group p q ps (patterns_plain (p ∷ q ∷ ps) all) refl;
  choice = λ p q ps all. is.choice p q ps (patterns_plain (p ∷ q ∷ ps) all) refl;
  optional = λ p h. is.optional p h refl;
  zero_or_more = λ p h. is.zero_or_more p h refl;
  one_or_more = λ p h. is.one_or_more p h refl;
}

-- nothing stands around an item in no list
none_around : {A : Type 0} {R : Type 0} (before after : List A) (x : A) → [] ≡ before ++ x ∷ after → R
none_around [] after x e = cc
none_around (y ∷ before) after x e = cc

-- so is the type of any text
string_plain : IsPlainType kind.String []
string_plain = record {
  type = codes "string";
  params = [];
  sound = λ rule fault. unfaulted rule fault;
  kind = kind.String;
  item = record {
    kind = kind.String;
    is_kind = refl;
    made = [];
    item_is = refl;
    rising = λ before after f g e. none_around before (g ∷ after) f e;
    each = λ f c. absurd (nothing_stands f (standing [] f c));
    none_else = λ g c. absurd (nothing_stands g (standing [] g c));
  };
  read = refl;
  legal = All-nil _;
}
  where
    unfaulted : (rule : ℕ) → ItemFault (codes "string") [] rule → ⊥
    unfaulted rule (fault.unknown e) = cc
    unfaulted rule (fault.of_facet f c h) = nothing_stands f (standing [] f c)
    unfaulted rule (fault.not_taken f c h k l) = nothing_stands f (standing [] f c)
    unfaulted rule (fault.twice before between after f g e h k) = none_around before (between ++ g ∷ after) f e

-- and so is what is made of data
pub plain_data : (Known : List ℕ → Type 0) → IsGoodOfData IsPlainPattern Known
plain_data Known = record {
  items = item;
  values = λ value listed. is.same listed.legal;
  strings = is.typed string_plain;
  lists = λ p h. is.list p h refl;
}
  where
    item : (i : Item) → IsFormedData i → ((key : List ℕ) → StandsIn (named_by_item i) (datatype_key key) → Known key) → IsPlainPattern (item_pattern i)
    item (items.Typed k facets) f known = is.typed (made_plain k facets f)
    item (items.Key key) f known = is.reference (datatype_ncname key f)

-- each name that the pattern refers to is such
abbrev pub RefersOnly : (List ℕ → Type 0) → Expr → Type 0
RefersOnly Known p = (name : List ℕ) → RefersTo name p → Known name

-- the kind of `notAllowed`
not_allowed_shown : out-Expr expr.NotAllowed ≡ shape.NotAllowed
not_allowed_shown = search (rules, E.the_lemmas)

module _ (Known : List ℕ → Type 0) where
  -- a pattern that is no reference refers to what its parts refer to
  by_parts : (p : Expr) (q : Expr-F Expr) → out-Expr p ≡ q → ((name : List ℕ) → q ≡ shape.Ref name → ⊥) → All (RefersOnly Known) (parts_in q) → RefersOnly Known p
  by_parts p q e apart all name r = elim (refers name p q e r) [
    | inl same ↦ absurd (apart name same)
    | inr h ↦ All-contains (RefersOnly Known) (parts_in q) h.0 all (contained (parts_in q) h.0 h.1) name h.2
  ]

  -- one pattern alone
  alone : (p : Expr) → RefersOnly Known p → All (RefersOnly Known) (p ∷ [])
  alone p h = All-cons (RefersOnly Known) p [] h (All-nil (RefersOnly Known))

  -- so what is made of patterns that refer to such names alone refers to such alone
  pub refers_closed : IsClosed (RefersOnly Known)
  refers_closed = record {
    empty = by_parts expr.Empty shape.Empty empty_shown (λ name e. cc) (All-nil (RefersOnly Known));
    not_allowed = by_parts expr.NotAllowed shape.NotAllowed not_allowed_shown (λ name e. cc) (All-nil (RefersOnly Known));
    group = λ p q ps all. by_parts _ (shape.Group (p ∷ q ∷ ps)) (group_shown (p ∷ q ∷ ps)) (λ name e. cc) all;
    choice = λ p q ps all. by_parts _ (shape.Choice (p ∷ q ∷ ps)) (choice_shown (p ∷ q ∷ ps)) (λ name e. cc) all;
    optional = λ p h. by_parts _ (shape.Optional p) (optional_shown p) (λ name e. cc) (alone p h);
    zero_or_more = λ p h. by_parts _ (shape.ZeroOrMore p) (zero_or_more_shown p) (λ name e. cc) (alone p h);
    one_or_more = λ p h. by_parts _ (shape.OneOrMore p) (one_or_more_shown p) (λ name e. cc) (alone p h);
  }

  -- a reference to such a name
  pub refers_known : (name : List ℕ) → Known name → RefersOnly Known (expr.Ref name)
  refers_known name h other r = elim (refers other (expr.Ref name) (shape.Ref name) (ref_shown name) r) [
    | inl e ↦ let same : name ≡ other = cc in subst Known same h
    | inr h ↦ absurd (nothing_stands h.0 h.1)
  ]

  -- no datatype and no value refers to anything
  typed_refers : (k : DataType) (facets : List Facet) → RefersOnly Known (expr.Typed k facets)
  typed_refers k facets = by_parts (expr.Typed k facets) (shape.Typed k facets) (typed_shown k facets) (λ name e. cc) (All-nil (RefersOnly Known))

  same_refers : (value : List ℕ) → RefersOnly Known (expr.Same value)
  same_refers value = by_parts (expr.Same value) (shape.Same value) (same_shown value) (λ name e. cc) (All-nil (RefersOnly Known))

  -- a reference to a datatype refers to its define alone
  item_refers : (i : Item) → ((key : List ℕ) → StandsIn (named_by_item i) (datatype_key key) → Known (datatype_name key)) → RefersOnly Known (item_pattern i)
  item_refers (items.Typed k facets) known = typed_refers (read_as k) facets
  item_refers (items.Key key) known = refers_known (datatype_name key) (known key (stands_first (datatype_key key) []))

  -- and a list of values to nothing
  list_refers : (list : ValList) → RefersOnly Known (list_pattern list)
  list_refers list = by list.kind
    where
      by : (k : ListKind) → RefersOnly Known (listed_pattern k list.values)
      by listing.Closed = choice_good (RefersOnly Known) refers_closed (map expr.Same list.values) (All-map (RefersOnly Known) expr.Same list.values (each_stands _ list.values (λ v s. same_refers v)))
      by listing.Semi = typed_refers kind.String []
      by listing.Open = typed_refers kind.String []

  mutual
    -- the content of a datatype refers to the defines of those that it names
    pub content_refers : (c : Content) → ((key : List ℕ) → StandsIn (named_in c) (datatype_key key) → Known (datatype_name key)) → RefersOnly Known (data_pattern c)
    content_refers (Value item) known = item_refers item known
    content_refers (Vals list) known = list_refers list
    content_refers (Alternate' shape parts b) known = choice_good (RefersOnly Known) refers_closed (data_patterns parts) (parts_refer parts known)
    content_refers Empty known = refers_closed.not_allowed
    content_refers Text known = refers_closed.not_allowed
    content_refers (Element key b) known = refers_closed.not_allowed
    content_refers (Class key p b) known = refers_closed.not_allowed
    content_refers (Macro key b) known = refers_closed.not_allowed
    content_refers (Any c b) known = refers_closed.not_allowed
    content_refers (Sequence' shape parts b) known = refers_closed.not_allowed

    parts_refer : {n : _} (parts : Row_of-Content n) → ((key : List ℕ) → StandsIn (named_in_parts parts) (datatype_key key) → Known (datatype_name key)) → All (RefersOnly Known) (data_patterns parts)
    parts_refer end_of-Content known = All-nil (RefersOnly Known)
    parts_refer (more_of-Content part parts) known =
        All-cons (RefersOnly Known) (data_pattern part) (data_patterns parts) (content_refers part (λ key s. known key (stands_left (named_in part) (named_in_parts parts) (datatype_key key) s)))
        (parts_refer parts (λ key s. known key (stands_right (named_in part) (named_in_parts parts) (datatype_key key) s)))

  -- what is made of data refers to the defines of datatypes alone
  pub refers_data : (Named : List ℕ → Type 0) → ((key : List ℕ) → Named key → Known (datatype_name key)) → IsGoodOfData (RefersOnly Known) Named
  refers_data Named known = record {
    items = item;
    values = λ value listed. same_refers value;
    strings = typed_refers kind.String [];
    lists = λ p h. by_parts (expr.List p) (shape.List p) (list_shown p) (λ name e. cc) (alone p h);
  }
    where
      item : (i : Item) → IsFormedData i → ((key : List ℕ) → StandsIn (named_by_item i) (datatype_key key) → Named key) → RefersOnly Known (item_pattern i)
      item i f h = item_refers i (λ key s. known key (h key s))

  -- no text refers to anything
  pub refers_text : RefersOnly Known expr.Text
  refers_text = by_parts expr.Text shape.Text text_shown (λ name e. cc) (All-nil (RefersOnly Known))

  module _ (library : Library) (conditions : List Condition) (members : Members) (known : (key : List ℕ) → Known (datatype_name key)) where
    -- where these are such, data refers to such alone
    mutual
      pub leaf_refers : (c leaf : Content) → StandsIn (data_in c) leaf → RefersOnly Known (content_pattern library conditions members leaf)
      leaf_refers (Value item) leaf s = subst (λ x. RefersOnly Known (content_pattern library conditions members x)) (sym (only_item (Value item) leaf s)) (item_refers item (λ key s. known key))
      leaf_refers (Vals list) leaf s = subst (λ x. RefersOnly Known (content_pattern library conditions members x)) (sym (only_item (Vals list) leaf s)) (list_refers list)
      leaf_refers (Sequence' shape parts b) leaf s = leaves_refer parts leaf s
      leaf_refers (Alternate' shape parts b) leaf s = leaves_refer parts leaf s
      leaf_refers Empty leaf s = absurd (nothing_stands leaf s)
      leaf_refers Text leaf s = absurd (nothing_stands leaf s)
      leaf_refers (Element key b) leaf s = absurd (nothing_stands leaf s)
      leaf_refers (Class key p b) leaf s = absurd (nothing_stands leaf s)
      leaf_refers (Macro key b) leaf s = absurd (nothing_stands leaf s)
      leaf_refers (Any c b) leaf s = absurd (nothing_stands leaf s)

      leaves_refer : {n : _} (parts : Row_of-Content n) (leaf : Content) → StandsIn (data_in_parts parts) leaf → RefersOnly Known (content_pattern library conditions members leaf)
      leaves_refer end_of-Content leaf s = absurd (nothing_stands leaf s)
      leaves_refer (more_of-Content part parts) leaf s =
          ⊎_elim (λ a. leaf_refers part leaf a) (λ b. leaves_refer parts leaf b) (stands_either (data_in part) (data_in_parts parts) leaf s)
