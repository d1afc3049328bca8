-- The value law: data content admits the texts that its pattern allows.
use Rattle.std.proofs.Common.{◌≡◌, ◌≢◌, ◌↔◌, ◌⊎◌, ℕ, List, [], ◌∷◌, ◌++◌, ◌-◌, inl, inr, ⊎_elim, refl, sym, ap, subst, ◌∙◌}
use Rattle.std.proofs.lemmas.List.Elements.{All-cons, All-contains, All-nil}
use Rattle.std.specs.Prelude.{All}
use Rattle.std.specs.Str.{chars}
use Rattle.compile_defines.proofs.Standing.{stands_left, stands_right}
use Rattle.compile_defines.specs.Contents.{content_pattern, macro_pattern, part_patterns}
use Rattle.compile_defines.specs.Data.{datatype_name, item_pattern, list_pattern, listed_pattern, values_pattern}
use Rattle.odd_content.specs.Formed.{AreFormedWithin, IsFormedWithin, once}
use Rattle.odd_content.specs.declared.content.Condition.{Condition}
use Rattle.odd_content.specs.declared.content.Content.{Content, Empty, Text, Value, Vals, Element, Class, Macro, Any, Sequence', Alternate', Row_of-Content, end_of-Content, more_of-Content}
use Rattle.odd_content.proofs.Collapsed.{listed_collapsed}
use Rattle.odd_content.specs.FormedData.{IsFormedList, IsListed as IsValueListed}
use Rattle.odd_library.specs.declared.library.Library.{Library}
use Rattle.odd_meaning.specs.Classes.{Members}
use Rattle.odd_meaning.specs.Links.{datatype_key, macro_key, named_in, named_in_parts}
use Rattle.odd_text.specs.declared.key.Key.{Key}
use Rattle.odd_text.proofs.InList.{contained, nothing_stands, stands_first}
use Rattle.odd_text.specs.Standing.{StandsIn}
use Rattle.rng_grammar.proofs.OnePattern.{ToldBy, told_by}
use Rattle.rng_grammar.proofs.Values.{IsTyped, ValueTold, same_shown, typed_shown, value_told}
use Rattle.rng_grammar.specs.Denoting.{read_as}
use Rattle.rng_grammar.specs.Patterns as patterns
use Rattle.rng_grammar.specs.Patterns.{IsAllowed, TakesValue}
use Rattle.rng_grammar.specs.declared.grammar.Expr.{Expr, Expr-F, out-Expr}
use Rattle.rng_grammar.specs.declared.grammar.Expr.TheOpen as shape
use Rattle.rng_grammar.specs.declared.grammar.Expr.TheVariants as expr
use Rattle.rng_grammar.specs.declared.grammar.Grammar.{Grammar}
use Rattle.rng_types.specs.declared.data_type.DataType.{DataType}
use Rattle.rng_types.specs.declared.data_type.DataType.TheVariants as kind
use Rattle.rng_types.specs.declared.facet.Facet.{Facet}
use Rattle.rng_types.specs.declared.item.Item.{Item}
use Rattle.rng_types.specs.declared.item.Item.TheVariants as items
use Rattle.rng_types.specs.declared.val_list.ListKind.{ListKind}
use Rattle.rng_types.specs.declared.val_list.ListKind.TheVariants as listing
use Rattle.rng_types.specs.declared.val_list.ValList.{ValList}
use Rattle.rng_values.specs.Facets.{Meets}
use Rattle.rng_values.specs.Lexical.{Fits}
use Rattle.rng_values.specs.Treated.{collapsed, treated}
use Rattle.compile_laws.proofs.Leaves.{value_leaves}
use Rattle.compile_laws.proofs.MatchLaws.{InChoice, choice_law, each_law}
use Rattle.odd_meaning.specs.Values.{IsItemBy, IsListed, IsOneOf, IsOneValueBy, IsValueBy, OfNames}

-- what is read of a datatype fits as it does
read_fits : (k : DataType) (cs : List ℕ) → Fits (read_as k) cs ≡ Fits k cs
read_fits kind.Id cs = refl
read_fits kind.Idref cs = refl
read_fits k cs = refl

-- and is treated so
read_treated : (k : DataType) (cs : List ℕ) → treated (read_as k) cs ≡ treated k cs
read_treated kind.Id cs = refl
read_treated kind.Idref cs = refl
read_treated k cs = refl

-- a content has the form of data, as those of datatypes have: its alternations and macros stand once
abbrev mutual
  pub HasDataForm : Content → Type 0
  HasDataForm (Value item) = Unit {0}
  HasDataForm (Vals list) = Unit {0}
  HasDataForm (Macro key b) = b ≡ once
  HasDataForm (Alternate' shape parts b) = (b ≡ once) × HaveDataForm parts
  HasDataForm Empty = ⊥
  HasDataForm Text = ⊥
  HasDataForm (Element key b) = ⊥
  HasDataForm (Class key p b) = ⊥
  HasDataForm (Any c b) = ⊥
  HasDataForm (Sequence' shape parts b) = ⊥

  pub HaveDataForm : {n : _} → Row_of-Content n → Type 0
  HaveDataForm end_of-Content = Unit {0}
  HaveDataForm (more_of-Content part parts) = HasDataForm part × HaveDataForm parts

module _ (g : Grammar) where
  -- what an allowed text tells of the pattern
  pub allowed_told : (p : Expr) (q : Expr-F Expr) (cs : List ℕ) → out-Expr p ≡ q → IsAllowed g p cs → ValueTold g q (cs ∷ []) ⊎ ToldBy g (TakesValue g) q (cs ∷ [])
  allowed_told p q cs e m = ⊎_elim (λ t. inl (value_told g p q (cs ∷ []) e t)) (λ x. inr x) (told_by g (TakesValue g) p q (cs ∷ []) e m)

  -- a datatype allows what fits it and meets the facets
  pub typed_law : (k : DataType) (facets : List Facet) (cs : List ℕ) → IsTyped k facets cs ↔ IsAllowed g (expr.Typed (read_as k) facets) cs
  typed_law k facets cs = (
    λ h. patterns.leaf (patterns.whole (patterns.typed (subst (λ x. x) (sym (read_fits k cs)) h.0) (λ f s. subst (Meets f) (sym (read_treated k cs)) (h.1 f s)))),
    λ m. ⊎_elim
        (λ t.
        let one = t.1 in
        let same : t.0 ≡ cs = cc in
        let fits : Fits (read_as k) cs = subst (Fits (read_as k)) same t.2.0 in
        (subst (λ x. x) (read_fits k cs) fits, λ f s. subst (Meets f) (read_treated k cs) (subst (λ ds. Meets f (treated (read_as k) ds)) same (t.2.1 f s))))
        (λ x. absurd x) (allowed_told (expr.Typed (read_as k) facets) (shape.Typed (read_as k) facets) cs (typed_shown (read_as k) facets) m),
  )

  -- a value allows what collapses to its text
  same_law : (value cs : List ℕ) → collapsed (chars value) ≡ chars value → (chars value ≡ collapsed cs) ↔ IsAllowed g (expr.Same value) cs
  same_law value cs e = (
    λ h. patterns.leaf (patterns.whole (patterns.same (e ∙ h))),
    λ m. ⊎_elim
        (λ t.
        let one = t.1 in
        let same : t.0 ≡ cs = cc in
        sym e ∙ t.2 ∙ ap collapsed same)
        (λ x. absurd x) (allowed_told (expr.Same value) (shape.Same value) cs (same_shown value) m),
  )

  -- values that are collapsed
  abbrev pub AreCollapsed : List (List ℕ) → Type 0
  AreCollapsed values = (value : List ℕ) → StandsIn values value → collapsed (chars value) ≡ chars value

  -- one of them is allowed where it is what the text collapses to
  pub values_law : (values : List (List ℕ)) (cs : List ℕ) → AreCollapsed values → IsOneOf values cs ↔ IsAllowed g (values_pattern values) cs
  values_law values cs each =
      let law = each_law g (TakesValue g) (value_leaves g) expr.Same values (cs ∷ []) in (
        λ h. law.1 (h.0, h.1, (same_law h.0 cs (each h.0 h.1)).0 h.2),
        λ m. let h = law.0 m in (h.0, h.1, (same_law h.0 cs (each h.0 h.1)).1 h.2),
      )

  -- any text is a string
  any_string : (cs : List ℕ) → IsAllowed g (expr.Typed kind.String []) cs
  any_string cs = patterns.leaf (patterns.whole (patterns.typed tt (λ f s. absurd (nothing_stands f s))))

  -- a list allows its values where it is closed, and else any text
  pub list_law : (list : ValList) (cs : List ℕ) → AreCollapsed list.values → IsListed list cs ↔ IsAllowed g (list_pattern list) cs
  list_law list cs each = by list.kind refl
    where
      by : (k : ListKind) → list.kind ≡ k → ((k ≢ listing.Closed) ⊎ IsOneOf list.values cs) ↔ IsAllowed g (listed_pattern k list.values) cs
      by listing.Closed e = (λ h. ⊎_elim (λ not. absurd (not refl)) (λ one. (values_law list.values cs each).0 one) h, λ m. inr ((values_law list.values cs each).1 m))
      by listing.Semi e = (λ h. any_string cs, λ m. inl (λ same. cc))
      by listing.Open e = (λ h. any_string cs, λ m. inl (λ same. cc))

-- the values of a formed list are collapsed
pub collapsed_values : (list : ValList) → IsFormedList list → (value : List ℕ) → StandsIn list.values value → collapsed (chars value) ≡ chars value
collapsed_values list f value s = listed_collapsed value (All-contains IsValueListed list.values value f.listed (contained list.values value s))

-- nothing is asked of a text
all_of : (cs : List ℕ) → All {X = List ℕ} (λ x. Unit {0}) (cs ∷ [])
all_of cs = All-cons (λ x. Unit {0}) cs [] tt (All-nil (λ x. Unit {0}))

module _ (library : Library) (conditions : List Condition) (members : Members) (g : Grammar) (datatypes macros : OfNames) where
  -- what datatypes and macros of these names admit is what references to them allow
  pub record AreValuesKept (named : List Key) : Type 0 where
    pub datatypes_kept : (key : List ℕ) → StandsIn named (datatype_key key) → (cs : List ℕ) → datatypes key cs ↔ IsAllowed g (expr.Ref (datatype_name key)) cs
    pub macros_kept : (key : List ℕ) → StandsIn named (macro_key key) → (cs : List ℕ) → macros key cs ↔ IsAllowed g (macro_pattern library key) cs

  -- so of the names of all parts those of the first and those of the others
  first_kept : (names others : List Key) → AreValuesKept (names ++ others) → AreValuesKept names
  first_kept names others a = record {
    datatypes_kept = λ key s. a.datatypes_kept key (stands_left names others (datatype_key key) s);
    macros_kept = λ key s. a.macros_kept key (stands_left names others (macro_key key) s);
  }

  rest_kept : (names others : List Key) → AreValuesKept (names ++ others) → AreValuesKept others
  rest_kept names others a = record {
    datatypes_kept = λ key s. a.datatypes_kept key (stands_right names others (datatype_key key) s);
    macros_kept = λ key s. a.macros_kept key (stands_right names others (macro_key key) s);
  }

  -- an item
  pub item_law : (i : Item) → ((key : List ℕ) → i ≡ items.Key key → (cs : List ℕ) → datatypes key cs ↔ IsAllowed g (expr.Ref (datatype_name key)) cs)
      → (cs : List ℕ) → IsItemBy datatypes i cs ↔ IsAllowed g (item_pattern i) cs
  item_law (items.Typed k facets) kept cs = typed_law g k facets cs
  item_law (items.Key key) kept cs = kept key refl cs

  -- the pattern of what stands once is that of its part
  abbrev pattern : Content → Expr
  pattern = content_pattern library conditions members

  mutual
    -- each formed content of the form of data
    pub content_value_law : (left : ℕ) (c : Content) → IsFormedWithin left c → HasDataForm c → AreValuesKept (named_in c) → (cs : List ℕ)
        → IsValueBy datatypes macros c cs ↔ IsAllowed g (pattern c) cs
    content_value_law left (Value (items.Typed k facets)) f d a cs = typed_law g k facets cs
    content_value_law left (Value (items.Key key)) f d a cs = a.datatypes_kept key (stands_first (datatype_key key) []) cs
    content_value_law left (Vals list) f d a cs = list_law g list cs (collapsed_values list f)
    content_value_law left (Macro key b) f d a cs =
        subst (λ x. macros key cs ↔ IsAllowed g (pattern (Macro key x)) cs) (sym d) (a.macros_kept key (stands_first (macro_key key) []) cs)
    content_value_law left (Alternate' shape parts b) f d a cs =
        let law = choice_law g (TakesValue g) (value_leaves g) (λ x. Unit {0}) (part_patterns library conditions members parts) (cs ∷ []) (all_of cs) in
        let inner = parts_value_law (left - 1) parts f.1 d.1 a cs in
        subst (λ x. IsOneValueBy datatypes macros parts cs ↔ IsAllowed g (pattern (Alternate' shape parts x)) cs) (sym d.0) (λ h. law.0 (inner.0 h), λ m. inner.1 (law.1 m))
    content_value_law left Empty f d a cs = absurd d
    content_value_law left Text f d a cs = absurd d
    content_value_law left (Element key b) f d a cs = absurd d
    content_value_law left (Class key p b) f d a cs = absurd d
    content_value_law left (Any c b) f d a cs = absurd d
    content_value_law left (Sequence' shape parts b) f d a cs = absurd d

    -- and one of some parts
    parts_value_law : {n : _} (left : ℕ) (parts : Row_of-Content n) → AreFormedWithin left parts → HaveDataForm parts → AreValuesKept (named_in_parts parts) → (cs : List ℕ)
        → IsOneValueBy datatypes macros parts cs ↔ InChoice g (TakesValue g) (value_leaves g) (part_patterns library conditions members parts) (cs ∷ [])
    parts_value_law left end_of-Content f d a cs = (λ h. h, λ m. m)
    parts_value_law left (more_of-Content part parts) f d a cs =
        let one = content_value_law left part f.0 d.0 (first_kept (named_in part) (named_in_parts parts) a) cs in
        let rest = parts_value_law left parts f.1 d.1 (rest_kept (named_in part) (named_in_parts parts) a) cs in
        (λ h. ⊎_elim (λ x. inl (one.0 x)) (λ y. inr (rest.0 y)) h, λ m. ⊎_elim (λ x. inl (one.1 x)) (λ y. inr (rest.1 y)) m)
