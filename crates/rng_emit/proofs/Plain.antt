-- A grammar is plain where and only where it is of the forms whose text is shown to denote it.
use Rattle.std.proofs.Common.{◌≡◌, ◌≤◌, ◌<◌, ℕ, List, [], ◌∷◌, map, length, Some, Result, Ok, Err, get_or, inl, inr, ⊎_elim, refl, sym, ap, subst, ◌∙◌, arith}
use Rattle.std.proofs.lemmas.Cmp.{nat_list_cmp_total}
use Rattle.std.proofs.lemmas.List.Elements.{All-nil, All-cons, All-head, All-tail, All-weaker, All-contains, All-contains_itself, at_read}
use Rattle.std.specs.Cmp.{tied_itself}
use Rattle.std.specs.FinMap.{find, is_sorted, nat_cmp-IsAntisymmetric, slice_cmp-IsAntisymmetric}
use Rattle.std.specs.List.{Contains}
use Rattle.std.specs.Ordering.{ordering_reverse}
use Rattle.std.specs.Prelude.{All, IfOk, IsTrue}
use Rattle.odd_reader.proofs.Formed.{spelled_formed}
use Rattle.odd_text.proofs.Entries.{as_T, find_at, found_contained, rising}
use Rattle.odd_text.specs.Text.{text_cmp}
use Rattle.odd_text.specs.declared.memory.NoMemory.{NoMemory}
use Rattle.odd_text.specs.declared.name.Name.{Name}
use Rattle.odd_tokens.specs.Characters.{IsLegal}
use Rattle.odd_text.proofs.InList.{contained, first_or_later, map_stands, nothing_stands, only_item, standing, stands_first, stands_later, stands_map}
use Rattle.odd_text.specs.Standing.{StandsIn}
use Rattle.odd_tree.specs.declared.tree.Tree.{Tree}
use Rattle.rng_grammar.proofs.OnePattern.{choice_shown, empty_shown, group_shown, list_shown, one_or_more_shown, optional_shown, ref_shown, text_shown, zero_or_more_shown}
use Rattle.rng_grammar.specs.Denoting as denoting
use Rattle.rng_grammar.specs.Denoting.{AreDefines, AreOnePattern, AreParams, ArePatterns, AreRules, DenotesOnly, HasAttributes, HasNames, HoldsValue}
use Rattle.rng_grammar.specs.Denoting.{IsAttribute, IsBody, IsData, IsDefine, IsPattern, IsRule, entry_of, grouped}
use Rattle.rng_grammar.specs.Linked as linked
use Rattle.rng_grammar.specs.Linked.{HasPart, StandsWithin, inside, itself, patterns_of, values_of}
use Rattle.rng_grammar.specs.declared.grammar.AttrPart.TheVariants as attributes
use Rattle.rng_grammar.specs.declared.grammar.AttrPart.{AttrPart}
use Rattle.rng_grammar.specs.declared.grammar.AttrRule.{AttrRule}
use Rattle.rng_grammar.specs.declared.grammar.Body.TheVariants as body
use Rattle.rng_grammar.specs.declared.grammar.Body.{Body}
use Rattle.rng_grammar.specs.declared.grammar.Define.{Define}
use Rattle.rng_grammar.specs.declared.grammar.Expr as E
use Rattle.rng_grammar.specs.declared.grammar.Expr.TheOpen as shape
use Rattle.rng_grammar.specs.declared.grammar.Expr.TheVariants as expr
use Rattle.rng_grammar.specs.declared.grammar.Expr.{Expr, Expr-F, out-Expr}
use Rattle.rng_grammar.specs.declared.grammar.Grammar.{Grammar}
use Rattle.rng_grammar.specs.declared.grammar.NameClass.{NameClass}
use Rattle.rng_types.specs.declared.data_type.DataType.{DataType}
use Rattle.rng_types.specs.declared.facet.Facet.{Facet}
use Rattle.rng_types.specs.declared.facet.FacetText.{FacetText}
use Rattle.rng_types.specs.declared.item.Item.TheVariants as items
use Rattle.rng_values.specs.Items.{IsItemOf}
use Rattle.rng_emit.proofs.Denoted.{denoted, denoted_only}
use Rattle.rng_emit.proofs.FormedNames.{AllFormed, IsFormedSomewhere, amid_formed, beside_formed, element_text_legal, names_plain, parts_formed, space_legal}
use Rattle.rng_emit.proofs.Printable as is
use Rattle.rng_emit.proofs.Printable.{ArePlainAttributes, ArePlainPatterns, IsPlainBody, IsPlainDefine, IsPlainName, IsPlainPattern, IsPlainRule, IsPlainType, IsPrintable}
use Rattle.rng_emit.specs.Grammar.{grammar_text}
use Rattle.rng_emit.specs.Plain.{HasLongLists, IsPlain}

-- printable grammars are plain

-- what a plain pattern of this shape holds
abbrev Told : Expr-F Expr → Type 0
Told (shape.List part) = IsPlainPattern part
Told (shape.Group parts) = (2 ≤ length parts) × ArePlainPatterns parts
Told (shape.Choice parts) = (2 ≤ length parts) × ArePlainPatterns parts
Told (shape.Optional part) = IsPlainPattern part
Told (shape.ZeroOrMore part) = IsPlainPattern part
Told (shape.OneOrMore part) = IsPlainPattern part
Told other = Unit {0}

-- each plain pattern holds that
told : (p : Expr) (q : Expr-F Expr) → out-Expr p ≡ q → IsPlainPattern p → Told q
told p q e is.empty = subst Told (sym empty_shown ∙ e) tt
told p q e is.not_allowed = let is_shown : out-Expr expr.NotAllowed ≡ shape.NotAllowed = search E.the_lemmas in subst Told (sym is_shown ∙ e) tt
told p q e is.text = subst Told (sym text_shown ∙ e) tt
told p q e (is.reference {name = name} n) = subst Told (sym (ref_shown name) ∙ e) tt
told p q e (is.typed {k = k} {facets = facets} h) =
    let is_shown : out-Expr (expr.Typed k facets) ≡ shape.Typed k facets = search E.the_lemmas in
    subst Told (sym is_shown ∙ e) tt
told p q e (is.same {text = text} h) =
    let is_shown : out-Expr (expr.Same text) ≡ shape.Same text = search E.the_lemmas in
    subst Told (sym is_shown ∙ e) tt
told p q e (is.list part a same) = subst Told (sym (ap out-Expr same ∙ list_shown part) ∙ e) a
told p q e (is.group first second more a same) = subst Told (sym (ap out-Expr same ∙ group_shown (first ∷ second ∷ more)) ∙ e) (omega arith, a)
told p q e (is.choice first second more a same) = subst Told (sym (ap out-Expr same ∙ choice_shown (first ∷ second ∷ more)) ∙ e) (omega arith, a)
told p q e (is.optional part a same) = subst Told (sym (ap out-Expr same ∙ optional_shown part) ∙ e) a
told p q e (is.zero_or_more part a same) = subst Told (sym (ap out-Expr same ∙ zero_or_more_shown part) ∙ e) a
told p q e (is.one_or_more part a same) = subst Told (sym (ap out-Expr same ∙ one_or_more_shown part) ∙ e) a

-- each of some plain patterns is one
among_plain : {ps : List Expr} → ArePlainPatterns ps → (part : Expr) → StandsIn ps part → IsPlainPattern part
among_plain is.none part s = absurd (nothing_stands part s)
among_plain (is.more {p = p} {ps = ps} a later) part s = ⊎_elim (λ e. subst IsPlainPattern (sym e) a) (λ k. among_plain later part k) (first_or_later p part ps s)

-- a part of a plain pattern is plain
part_of_plain : {p part : Expr} → HasPart p part → IsPlainPattern p → IsPlainPattern part
part_of_plain {part = part} (linked.list e) a = told _ _ (ap out-Expr e ∙ list_shown part) a
part_of_plain {part = part} (linked.group parts e s) a = among_plain (told _ _ (ap out-Expr e ∙ group_shown parts) a).1 part s
part_of_plain {part = part} (linked.choice parts e s) a = among_plain (told _ _ (ap out-Expr e ∙ choice_shown parts) a).1 part s
part_of_plain {part = part} (linked.optional e) a = told _ _ (ap out-Expr e ∙ optional_shown part) a
part_of_plain {part = part} (linked.zero_or_more e) a = told _ _ (ap out-Expr e ∙ zero_or_more_shown part) a
part_of_plain {part = part} (linked.one_or_more e) a = told _ _ (ap out-Expr e ∙ one_or_more_shown part) a

-- and so is what stands in it at any depth
within_plain : {inner p : Expr} → StandsWithin inner p → IsPlainPattern p → IsPlainPattern inner
within_plain itself a = a
within_plain (inside h s) a = within_plain s (part_of_plain h a)

-- so each list in it is long
pattern_long : (p : Expr) → IsPlainPattern p → HasLongLists p
pattern_long p a = record {
  groups = λ parts s. (told _ _ (group_shown parts) (within_plain s a)).0;
  choices = λ parts s. (told _ _ (choice_shown parts) (within_plain s a)).0;
}

-- the values of plain rules are plain
rules_values : (rules : List AttrRule) → All IsPlainRule rules → ArePlainPatterns (map (λ rule. rule.value) rules)
rules_values [] a = is.none
rules_values (rule ∷ rules) a = is.more (All-head IsPlainRule rule rules a).value (rules_values rules (All-tail IsPlainRule rule rules a))

-- so are those of plain attributes
attributes_values : (attrs : AttrPart) → ArePlainAttributes attrs → ArePlainPatterns (values_of attrs)
attributes_values attributes.AnyAttributes a = is.none
attributes_values (attributes.Listed listed) a = rules_values listed a.0

-- so the patterns of a plain define are plain
body_patterns : (b : Body) → IsPlainBody b → ArePlainPatterns (patterns_of b)
body_patterns (body.Element names attrs content) a = is.more a.2 (attributes_values attrs a.1)
body_patterns (body.Part p) a = is.more a is.none

pub printable_plain : (g : Grammar) → IsPrintable g → IsPlain g
printable_plain g p = record {
  bytes = grammar_text g;
  denoted = denoted g p;
  start = pattern_long g.start p.start;
  defines = λ d q s k. pattern_long q (among_plain (body_patterns d.body (All-contains IsPlainDefine g.defines d p.defines (contained g.defines d s)).body) q k);
}

-- plain grammars are printable

-- the parts of a pattern with long lists have long lists
part_long : {p part : Expr} → HasLongLists p → HasPart p part → HasLongLists part
part_long l h = record { groups = λ parts s. l.groups parts (inside h s); choices = λ parts s. l.choices parts (inside h s) }

abbrev AllLong : List Expr → Type 0
AllLong ps = (part : Expr) → StandsIn ps part → HasLongLists part

-- patterns that are plain where they have long lists are so too as the one that they are together
grouped_plain : (first : Expr) (more : List Expr) → (AllLong (first ∷ more) → ArePlainPatterns (first ∷ more)) → HasLongLists (grouped first more) → IsPlainPattern (grouped first more)
grouped_plain first [] plain l = among_plain (plain (λ part s. subst HasLongLists (sym (only_item first part s)) l)) first (stands_first first [])
grouped_plain first (next ∷ more) plain l = is.group first next more (plain (λ part s. part_long l (linked.group (first ∷ next ∷ more) refl s))) refl

-- the texts of params are legal
params_legal : {ts : List Tree} {fs : List FacetText} → AllFormed ts → AreParams ts fs → All (λ (f : FacetText). IsLegal f.value) fs
params_legal all denoting.none = All-nil (λ (f : FacetText). IsLegal f.value)
params_legal all (denoting.more {t = t} {f = f} {fs = fs} h later) =
    All-cons (λ (f : FacetText). IsLegal f.value) f fs (element_text_legal t f.value all.0 h.written) (params_legal all.1 later)

-- and so are those of the facets that they make
facets_legal : (type : List ℕ) (params : List FacetText) (kind : DataType) (facets : List Facet) → All (λ (f : FacetText). IsLegal f.value) params
    → IsItemOf type params (items.Typed kind facets) → All (λ (f : Facet). IsLegal f.value) facets
facets_legal type params kind facets legal h =
    let is : items.Typed kind facets ≡ items.Typed h.kind h.made = h.item_is in
    let same : facets ≡ h.made = cc in
    let one = λ (f : Facet) (c : Contains facets f).
    let said = h.none_else f (subst (λ fs. Contains fs f) same c) in
    subst IsLegal (sym said.2.value) (All-contains (λ (g : FacetText). IsLegal g.value) params said.0 legal said.1) in
    All-weaker (Contains facets) (λ (f : Facet). IsLegal f.value) one facets (All-contains_itself facets)

-- so a `data` of a formed element is of a plain type
type_plain : (t : Tree) (k : DataType) (facets : List Facet) → IsFormedSomewhere t → IsData t k facets → IsPlainType k facets
type_plain t k facets f h = record {
  type = h.type;
  params = h.params;
  sound = h.sound;
  kind = h.kind;
  item = h.item;
  read = h.read;
  legal = facets_legal h.type h.params h.kind facets (params_legal (parts_formed t f) h.are_params) h.item;
}

-- by what a formed element stands for
mutual
  pattern_plain : {t : Tree} {p : Expr} → IsFormedSomewhere t → IsPattern t p → HasLongLists p → IsPlainPattern p
  pattern_plain f (denoting.empty h) l = is.empty
  pattern_plain f (denoting.not_allowed h) l = is.not_allowed
  pattern_plain f (denoting.text h) l = is.text
  pattern_plain f (denoting.reference h n) l = is.reference n.is_ncname
  pattern_plain f (denoting.data_of {t = t} {k = k} {facets = facets} h) l = is.typed (type_plain t k facets f h)
  pattern_plain f (denoting.value {t = t} {text = text} h) l = is.same (element_text_legal t text f h.written)
  pattern_plain f (denoting.group first [] h are e) l = absurd (let short = l.groups (first ∷ []) (subst (StandsWithin _) (sym e) itself) in omega arith)
  pattern_plain f (denoting.group {t = t} first (second ∷ more) h are e) l =
      is.group first second more (patterns_plain (parts_formed t f) are (λ part s. part_long l (linked.group (first ∷ second ∷ more) e s))) e
  pattern_plain f (denoting.choice first [] h are e) l = absurd (let short = l.choices (first ∷ []) (subst (StandsWithin _) (sym e) itself) in omega arith)
  pattern_plain f (denoting.choice {t = t} first (second ∷ more) h are e) l =
      is.choice first second more (patterns_plain (parts_formed t f) are (λ part s. part_long l (linked.choice (first ∷ second ∷ more) e s))) e
  pattern_plain f (denoting.list {t = t} first more h are e) l =
      is.list (grouped first more) (grouped_plain first more (patterns_plain (parts_formed t f) are) (part_long l (linked.list e))) e
  pattern_plain f (denoting.optional {t = t} first more h are e) l =
      is.optional (grouped first more) (grouped_plain first more (patterns_plain (parts_formed t f) are) (part_long l (linked.optional e))) e
  pattern_plain f (denoting.zero_or_more {t = t} first more h are e) l =
      is.zero_or_more (grouped first more) (grouped_plain first more (patterns_plain (parts_formed t f) are) (part_long l (linked.zero_or_more e))) e
  pattern_plain f (denoting.one_or_more {t = t} first more h are e) l =
      is.one_or_more (grouped first more) (grouped_plain first more (patterns_plain (parts_formed t f) are) (part_long l (linked.one_or_more e))) e

  patterns_plain : {ts : List Tree} {ps : List Expr} → AllFormed ts → ArePatterns ts ps → AllLong ps → ArePlainPatterns ps
  patterns_plain all denoting.none l = is.none
  patterns_plain all (denoting.more {p = p} {ps = ps} h later) l =
      is.more (pattern_plain all.0 h (l p (stands_first p ps))) (patterns_plain all.1 later (λ part s. l part (stands_later p part ps s)))

-- and so are elements that together are one pattern
one_plain : {ts : List Tree} {p : Expr} → AllFormed ts → AreOnePattern ts p → HasLongLists p → IsPlainPattern p
one_plain all h l = subst IsPlainPattern (sym h.one) (grouped_plain h.first h.more (patterns_plain all h.are) (subst HasLongLists h.one l))

-- the parts after the names are formed
names_rest : {default : List ℕ} (t : Tree) {names : NameClass} {rest : List Tree} → IsFormedSomewhere t → HasNames default t names rest → AllFormed rest
names_rest t f (denoting.by_name h) = parts_formed t f
names_rest t f (denoting.by_part no_name no_space e h) = (subst AllFormed e (parts_formed t f)).1

-- and so are those after the rules
rules_rest : {ts rest : List Tree} {rules : List AttrRule} → AllFormed ts → AreRules ts rules rest → AllFormed rest
rules_rest all denoting.none = all
rules_rest all (denoting.more h later) = rules_rest all.1 later

-- or after any attributes
attributes_rest : {ts rest : List Tree} {attrs : AttrPart} → AllFormed ts → HasAttributes ts attrs rest → AllFormed rest
attributes_rest all (denoting.listed h once) = rules_rest all h
attributes_rest all (denoting.any h) = all.1

-- a value is plain where it has long lists
value_plain : {ts : List Tree} {p : Expr} → AllFormed ts → HoldsValue ts p → HasLongLists p → IsPlainPattern p
value_plain all denoting.nothing l = is.text
value_plain all (denoting.pattern h) l = pattern_plain all.0 h l

-- so is the name of an `attribute`
attribute_named : (t : Tree) (name : Name) (value : Expr) → IsFormedSomewhere t → IsAttribute t name value → IsPlainName name
attribute_named t name value f h = record { named = h.named.is_ncname; legal = subst IsLegal (sym h.space) (space_legal [] t ([], refl, refl) f) }

-- and so is the rule
rule_plain : (t : Tree) (rule : AttrRule) → IsFormedSomewhere t → IsRule t rule → HasLongLists rule.value → IsPlainRule rule
rule_plain t rule f (denoting.needed {name = name} {value = value} h) l = record {
  named = attribute_named t name value f h;
  value = value_plain (parts_formed t f) h.holds l;
}
rule_plain t rule f (denoting.optional {name = name} {value = value} attribute k e h) l =
    let inner = (subst AllFormed e (parts_formed t f)).0 in
    record { named = attribute_named attribute name value inner h; value = value_plain (parts_formed attribute inner) h.holds l }

-- so are rules
rules_plain : {ts rest : List Tree} {rules : List AttrRule} → AllFormed ts → AreRules ts rules rest → AllLong (map (λ rule. rule.value) rules) → All IsPlainRule rules
rules_plain all denoting.none l = All-nil IsPlainRule
rules_plain all (denoting.more {t = t} {rule = rule} {rules = others} h later) l =
    let values = map (λ (r : AttrRule). r.value) others in
    All-cons IsPlainRule rule others (rule_plain t rule all.0 h (l rule.value (stands_first rule.value values)))
    (rules_plain all.1 later (λ part s. l part (stands_later rule.value part values s)))

-- and the attributes that a formed element has
attributes_plain : {ts rest : List Tree} {attrs : AttrPart} → AllFormed ts → HasAttributes ts attrs rest → AllLong (values_of attrs) → ArePlainAttributes attrs
attributes_plain all (denoting.listed h once) l = (rules_plain all h l, once)
attributes_plain all (denoting.any h) l = tt

-- what a define of a tree holds is plain where its patterns have long lists
body_plain : {default : List ℕ} {ts : List Tree} {b : Body} → IsLegal default → AllFormed ts → AllLong (patterns_of b) → IsBody default ts b → IsPlainBody b
body_plain legal all long (denoting.element {t = t} h) =
    let each : AllLong (h.content ∷ values_of h.attrs) = subst (λ x. AllLong (patterns_of x)) h.body_is long in
    let content = each h.content (stands_first h.content (values_of h.attrs)) in
    let values : AllLong (values_of h.attrs) = λ part s. each part (stands_later h.content part (values_of h.attrs) s) in
    let after = names_rest t all.0 h.has_names in
    subst IsPlainBody (sym h.body_is)
    (names_plain legal t all.0 h.has_names, attributes_plain after h.has_attributes values, one_plain (attributes_rest after h.has_attributes) h.holds content)
body_plain legal all long (denoting.part {p = p} h) = one_plain all h (long p (stands_first p []))

-- and so is the define
define_plain : {default : List ℕ} {ts : List Tree} {ds : List Define} → IsLegal default → AllFormed ts → AreDefines default ts ds → (d : Define) → StandsIn ds d
    → AllLong (patterns_of d.body) → IsPlainDefine d
define_plain legal all denoting.none d s long = absurd (nothing_stands d s)
define_plain {default = default} legal all (denoting.more {t = t} {d = e} {ds = ds} h later) d s long = elim (first_or_later e d ds s) [
  | inl same ↦ let k = subst (IsDefine default t) (sym same) h in record { named = k.named.is_ncname; body = body_plain legal (parts_formed t all.0) long k.holds }
  | inr rest ↦ define_plain legal all.1 later d rest long
]

-- a define is found by its name among defines in order of name
found : (d : Define) (ds : List Define) → IsTrue (is_sorted text_cmp (map entry_of ds)) → StandsIn ds d → find text_cmp d.name (map entry_of ds) ≡ Some d.body
found d ds h s =
    let es = map entry_of ds in
    let at = contained es (entry_of d) (map_stands entry_of ds d s) in
    let here = at_read es (λ e. e ≡ entry_of d) at.0 (entry_of d) at.1 (sym at.2) refl in
    let less = λ (j : ℕ) (e : List ℕ × Body) (l : j < at.0). ap (λ (x : List ℕ × Body). text_cmp (get_or es j e).0 x.0) (sym (here e)) ∙ rising text_cmp es (as_T _ h) j at.0 e l at.1 in
    find_at text_cmp nat_list_cmp_total d.name es at.0 (entry_of d) at.1 (λ j e l. nat_list_cmp_total.antisymm d.name _ ∙ ap ordering_reverse (less j e l))
    (ap (λ (x : List ℕ × Body). text_cmp d.name x.0) at.2 ∙ tied_itself nat_list_cmp_total d.name) ∙ ap (λ (x : List ℕ × Body). Some x.1) at.2

-- and what is found among defines is one of them
held : (d : Define) (ds : List Define) → find text_cmp d.name (map entry_of ds) ≡ Some d.body → StandsIn ds d
held d ds e =
    let contains = found_contained text_cmp nat_list_cmp_total (slice_cmp-IsAntisymmetric nat_cmp-IsAntisymmetric) d.name d.body (map entry_of ds) e in
    let h = stands_map entry_of ds (entry_of d) (standing (map entry_of ds) (entry_of d) contains) in
    let same : h.0 ≡ d = λ i. record { name = (sym h.2 i).0; body = (sym h.2 i).1 } in
    subst (StandsIn ds) same h.1

pub plain_printable : (g : Grammar) → IsPlain g → IsPrintable g
plain_printable g p =
    let t = p.denoted.tree in
    let s = p.denoted.stands in
    let f : IsFormedSomewhere t = (0, length p.bytes, spelled_formed p.bytes t p.denoted.spelled) in
    let all = subst AllFormed s.parts (parts_formed t f) in
    let others = beside_formed s.before s.after s.start all in
    let inner = (subst AllFormed s.is_start.alone (parts_formed s.start (amid_formed s.before s.after s.start all))).0 in
    let legal = space_legal [] t ([], refl, refl) f in
    let stands = λ (d : Define) (k : StandsIn g.defines d). held d s.defines (sym (s.same d.name) ∙ found d g.defines s.rising k) in
    let each = λ (d : Define) (k : StandsIn g.defines d). define_plain legal others s.are_defines d (stands d k) (λ q. p.defines d q k) in
    record {
      start = pattern_plain inner s.is_start.is_pattern p.start;
      defines = All-weaker _ IsPlainDefine (λ d c. each d (standing g.defines d c)) g.defines (All-contains_itself g.defines);
      rising = s.rising;
      linked = s.linked;
      sorted = s.sorted;
    }

-- so the text of a plain grammar denotes it and no other, where there was memory for it
pub text_denotes : (g : Grammar) (r : Result (List ℕ) NoMemory) → IfOk r (λ text. text ≡ grammar_text g) → IfOk r (λ text. IsPlain g → DenotesOnly text g)
text_denotes g (Ok text) e = λ p. subst (λ t. DenotesOnly t g) (sym e) (denoted_only g (plain_printable g p))
text_denotes g (Err none) e = tt
