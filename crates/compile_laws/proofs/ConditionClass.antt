-- The name class of a condition's define, the one body of each define, and the elements among the significant children.
use Rattle.std.proofs.Common.{◌≡◌, ◌↔◌, ◌⊎◌, ℕ, true, List, [], ◌∷◌, map, inl, inr, ⊎_elim, refl, sym, ap, subst, ◌∙◌, false, not, ◌++◌, filter, rules}
use Rattle.std.proofs.lemmas.Bool.{both_ways, false≢true, false_from_ne_true, not-true, not_from_false, or_cases, cases_Bool, or_parts}
use Rattle.std.proofs.lemmas.Cmp.{nat_list_eq_equiv, nat_list_cmp_total, on_total}
use Rattle.std.proofs.lemmas.Map.Views.{list_any-from_Contains}
use Rattle.std.specs.Cmp.{IsTotalOrder, tied_itself}
use Rattle.std.specs.Cmp.Lexicographic.{same_text}
use Rattle.std.specs.List.{list_any}
use Rattle.std.specs.declared.cmp.Ordering.{Ordering}
use Rattle.std.specs.declared.cmp.Ordering.TheVariants.{Less, Equal}
use Rattle.compile_defines.proofs.Standing.{filter_passed, stands_filter, filter_stands}
use Rattle.compile_defines.specs.Contents.{condition_name}
use Rattle.compile_defines.specs.Compiled.{condition_body, content_throughout, space_part, spaces_left, IsGrammarOf, condition_define, define_cmp}
use Rattle.compile_defines.specs.Compiled as compiled
use Rattle.odd_content.specs.declared.content.Condition.{Condition}
use Rattle.odd_text.proofs.SetOf.{first_below, rest_rising, turned}
use Rattle.odd_text.specs.Sorted.{AreRising}
use Rattle.odd_library.specs.declared.library.Library.{Library}
use Rattle.odd_meaning.specs.Conditions.{IsMetBy}
use Rattle.odd_text.specs.declared.name.Name.{Name}
use Rattle.odd_text.specs.Same.{is_same}
use Rattle.odd_tree.proofs.InTree.{elements_append, with_element, with_text}
use Rattle.odd_text.proofs.InList.{contained, map_stands, nothing_stands, stands_first, stands_later, stands_map, first_or_later}
use Rattle.odd_tree.proofs.PrintedTrees.{same_from}
use Rattle.odd_text.specs.Standing.{StandsIn}
use Rattle.odd_tree.specs.Elements.{elements_of}
use Rattle.odd_tree.specs.Significant.{IsSignificant, beside_elements, blank, is_blank, is_element, whole}
use Rattle.odd_tree.specs.declared.tree.Node.{Node, Element, Text, out-Node, roll-Node, roll-out-Node}
use Rattle.odd_tree.specs.declared.tree.Node as N
use Rattle.odd_tree.specs.declared.tree.Node.TheOpen as shown
use Rattle.odd_tree.specs.declared.tree.Node.TheVariants.{rolls-Element, rolls-Text}
use Rattle.odd_tree.specs.declared.tree.Tree.{Tree}
use Rattle.rng_grammar.specs.Acceptance.{IsInClass}
use Rattle.rng_grammar.specs.Patterns.{IsDefined}
use Rattle.rng_grammar.specs.declared.grammar.AttrPart.TheVariants as attributes
use Rattle.rng_grammar.specs.declared.grammar.Body.{Body}
use Rattle.rng_grammar.specs.declared.grammar.Body.TheVariants as body
use Rattle.rng_grammar.specs.declared.grammar.Define.{Define}
use Rattle.rng_grammar.specs.declared.grammar.Expr.TheVariants as expr
use Rattle.rng_grammar.specs.declared.grammar.Grammar.{Grammar}
use Rattle.rng_grammar.specs.declared.grammar.NameClass.{NameClass}
use Rattle.rng_grammar.specs.declared.grammar.NameClass.TheVariants as class
use Rattle.rng_grammar.specs.declared.grammar.NsPart.{NsPart}

-- a namespace that a test finds in a list stands there
listed : (space : List ℕ) (spaces : List (List ℕ)) → list_any (is_same space) spaces ≡ true → StandsIn spaces space
listed space [] e = absurd (false≢true e)
listed space (s ∷ spaces) e =
    ⊎_elim (λ h. subst (λ x. StandsIn (x ∷ spaces) space) (same_text space s (sym h)) (stands_first space spaces))
    (λ h. stands_later s space spaces (listed space spaces h))
    (or_cases (is_same space s) (list_any (is_same space) spaces) e)

module _ (c : Condition) where
  -- a namespace that is left is not excepted
  left_space : (space : List ℕ) → StandsIn (spaces_left c) space → StandsIn c.spaces space → ⊥
  left_space space s h =
      both_ways (list_any (is_same space) c.spaces) (not-true _ (filter_passed _ c.require space s))
      (list_any-from_Contains nat_list_eq_equiv space c.spaces (contained c.spaces space h))

  -- and one that is required, and not excepted, is left
  space_stays : (space : List ℕ) → StandsIn c.require space → (StandsIn c.spaces space → ⊥) → StandsIn (spaces_left c) space
  space_stays space s h = stands_filter _ c.require space s (not_from_false _ (false_from_ne_true _ (λ e. h (listed space c.spaces e))))

  -- the parts of the class, for the namespaces that are left
  abbrev parts : List NsPart
  parts = map (space_part c) (spaces_left c)

  -- a name of the class meets the condition
  parts_met : (name : Name) → IsInClass (class.Within parts) name → IsMetBy c name
  parts_met name (part, among, at, free) =
      let h = stands_map (space_part c) (spaces_left c) part among in
      let here : name.ns ≡ h.0 = at ∙ ap (λ (p : NsPart). p.ns) h.2 in
      let left : StandsIn (spaces_left c) name.ns = subst (StandsIn (spaces_left c)) (sym here) h.1 in
      record {
        required = inr (filter_stands _ c.require name.ns left);
        space = left_space name.ns left;
        named = λ s. free (subst (λ (p : NsPart). StandsIn p.but name) (sym h.2) (stands_filter _ c.names name s (same_from name.ns h.0 here)));
      }

  -- and a name that meets the condition, where its namespace is required, is of the class
  met_parts : (name : Name) → StandsIn c.require name.ns → IsMetBy c name → IsInClass (class.Within parts) name
  met_parts name s m =
      (space_part c name.ns, map_stands (space_part c) (spaces_left c) name.ns (space_stays name.ns s m.space), refl, λ n. m.named (filter_stands _ c.names name n))

  -- the class holds the names that meet the condition
  abbrev pub IsClassOf : NameClass → Type 0
  IsClassOf names = (name : Name) → IsInClass names name ↔ IsMetBy c name

  -- an element of such a class
  pub record IsElementBody (own : List ℕ) (b : Body) : Type 0 where
    pub names : NameClass
    pub is : b ≡ body.Element names attributes.AnyAttributes (content_throughout own)
    pub class_of : IsClassOf names

  -- `notAllowed`, where no name meets the condition
  pub record IsEmptyBody (b : Body) : Type 0 where
    pub is : b ≡ body.Part expr.NotAllowed
    pub none_meets : (name : Name) → IsMetBy c name → ⊥

  abbrev pub IsBody : List ℕ → Body → Type 0
  IsBody own b = IsEmptyBody b ⊎ IsElementBody own b

  -- where a namespace is required, and none is left
  empty_body : (own : List ℕ) → ((name : Name) → IsMetBy c name → StandsIn c.require name.ns) → parts ≡ [] → IsBody own (body.Part expr.NotAllowed)
  empty_body own required e =
      inl (record { is = refl; none_meets = λ name m. let h = met_parts name (required name m) m in nothing_stands h.0 (subst (λ ps. StandsIn ps h.0) e h.1) })

  -- and where some are left
  parts_body : (own : List ℕ) (ps : List NsPart) → ((name : Name) → IsMetBy c name → StandsIn c.require name.ns) → parts ≡ ps
      → IsBody own (body.Element (class.Within ps) attributes.AnyAttributes (content_throughout own))
  parts_body own ps required e =
      inr (record {
        names = class.Within ps;
        is = refl;
        class_of = subst (λ xs. IsClassOf (class.Within xs)) e (λ name. (parts_met name, λ m. met_parts name (required name m) m));
      })

-- the body, by what is required
by_required : (own : List ℕ) (require spaces : List (List ℕ)) (names : List Name)
    → IsBody (record { require = require; spaces = spaces; names = names }) own (condition_body own (record { require = require; spaces = spaces; names = names }))
by_required own [] spaces names =
    inr (record { names = class.AnyBut spaces names; is = refl; class_of = λ name. (λ h. record { required = inl refl; space = h.0; named = h.1 }, λ m. (m.space, m.named)) })
by_required own (space ∷ more) spaces names = by_parts (parts c) refl
  where
    c : Condition
    c = record { require = space ∷ more; spaces = spaces; names = names }

    required : (name : Name) → IsMetBy c name → StandsIn c.require name.ns
    required name m = ⊎_elim (λ none. let no : ⊥ = cc in absurd no) (λ s. s) m.required

    by_parts : (ps : List NsPart) → parts c ≡ ps → IsBody c own (condition_body own c)
    by_parts [] e = rw e (empty_body c own required e)
    by_parts (p ∷ ps) e = rw e (parts_body c own (p ∷ ps) required e)

-- the body of a condition is one of the two
pub body_kind : (own : List ℕ) (c : Condition) → IsBody c own (condition_body own c)
body_kind own c = by_required own c.require c.spaces c.names

-- of items that rise those that tie are one
tied_same : {A : Type 0} (order : A → A → Ordering) → IsTotalOrder order → (xs : List A) → AreRising order xs → (a b : A) → StandsIn xs a → StandsIn xs b → order a b ≡ Equal → a ≡ b
tied_same order total [] r a b s t e = absurd (nothing_stands a s)
tied_same order total (x ∷ xs) r a b s t e = elim (first_or_later x a xs s) [
  | inl here ↦ elim (first_or_later x b xs t) [
    | inl there ↦ here ∙ sym there
    | inr later ↦
        let less : order x b ≡ Less = first_below order total x xs r b later in
        let tied : order x b ≡ Equal = subst (λ y. order y b ≡ Equal) here e in
        cc
  ]
  | inr late ↦ elim (first_or_later x b xs t) [
    | inl there ↦
        let more = turned order total a x Less (first_below order total x xs r a late) in
        let tied : order a x ≡ Equal = subst (λ y. order a y ≡ Equal) there e in
        cc
    | inr later ↦ tied_same order total xs (rest_rising order total x xs r) a b late later e
  ]
]

module _ (library : Library) (start : List (List ℕ)) (g : Grammar) (is : IsGrammarOf library start g) where
  -- a name is defined with one body
  pub one_body : (name : List ℕ) (a b : Body) → IsDefined g name a → IsDefined g name b → a ≡ b
  one_body name a b s t =
      let d : Define = record { name = name; body = a } in
      let e : Define = record { name = name; body = b } in
      ap (λ (x : Define). x.body)
      (tied_same define_cmp (on_total (λ (x : Define). x.name) nat_list_cmp_total) g.defines is.are_defines.rising d e s t (tied_itself nat_list_cmp_total name))

  -- the name of a condition's define is defined with the body of that
  pub condition_defined : (c : Condition) → StandsIn is.conditions c → IsDefined g (condition_name is.conditions c) (condition_body (condition_name is.conditions c) c)
  condition_defined c s = is.are_defines.each (condition_define is.conditions c) (compiled.of_condition c s refl)

  -- and with no other
  pub condition_bodied : (c : Condition) → StandsIn is.conditions c → (b : Body) → IsDefined g (condition_name is.conditions c) b → b ≡ condition_body (condition_name is.conditions c) c
  condition_bodied c s b d = one_body (condition_name is.conditions c) b (condition_body (condition_name is.conditions c) c) d (condition_defined c s)

-- an element is one, a text is none, and an element is not blank
pub element_is : (t : Tree) → is_element (Element t) ≡ true
element_is t = search (rules, N.the_lemmas)

pub text_is_none : (x : List ℕ) → is_element (Text x) ≡ false
text_is_none x = search (rules, N.the_lemmas)

element_filled : (t : Tree) → is_blank (Element t) ≡ false
element_filled t = search (rules, N.the_lemmas)

-- a child is an element or a text
pub data IsOfKind : Node → Type 0 where
  element : (t : Tree) → IsOfKind (Element t)
  text : (x : List ℕ) → IsOfKind (Text x)

-- by the form in which it is held
pub kind_of : (n : Node) → IsOfKind n
kind_of n = elim (out-Node n) as (λ q. out-Node n ≡ q → IsOfKind n) [
  | shown.Element t ↦ λ e. subst IsOfKind (sym (rolls-Element t) ∙ ap roll-Node (sym e) ∙ roll-out-Node n) (element t)
  | shown.Text x ↦ λ e. subst IsOfKind (sym (rolls-Text x) ∙ ap roll-Node (sym e) ∙ roll-out-Node n) (text x)
] refl

-- what stands among the elements of a list stands in the list
pub element_stands : (nodes : List Node) (u : Tree) → StandsIn (elements_of nodes) u → StandsIn nodes (Element u)
element_stands [] u s = absurd (nothing_stands u s)
element_stands (n ∷ nodes) u s = elim (kind_of n) as (λ m k. StandsIn (elements_of (m ∷ nodes)) u → StandsIn (m ∷ nodes) (Element u)) [
  | element t ↦ λ h. elim (first_or_later t u (elements_of nodes) (subst (λ ts. StandsIn ts u) (with_element t nodes) h)) [
    | inl e ↦ subst (λ v. StandsIn (Element t ∷ nodes) (Element v)) (sym e) (stands_first (Element t) nodes)
    | inr later ↦ stands_later (Element t) (Element u) nodes (element_stands nodes u later)
  ]
  | text x ↦ λ h. stands_later (Text x) (Element u) nodes (element_stands nodes u (subst (λ ts. StandsIn ts u) (with_text x nodes) h))
] s

-- and the other way round
pub stands_element : (nodes : List Node) (u : Tree) → StandsIn nodes (Element u) → StandsIn (elements_of nodes) u
stands_element nodes u (before, after, e) =
    (elements_of before, elements_of after, ap elements_of e ∙ elements_append before (Element u ∷ after) ∙ ap (λ ts. elements_of before ++ ts) (with_element u after))

-- where no child is an element, none stands there
pub no_element : (nodes : List Node) (u : Tree) → list_any is_element nodes ≡ false → StandsIn nodes (Element u) → ⊥
no_element [] u e s = nothing_stands (Element u) s
no_element (n ∷ nodes) u e s = elim (first_or_later n (Element u) nodes s) [
  | inl is ↦ false≢true (sym (or_parts (is_element n) (list_any is_element nodes) e).0 ∙ ap is_element (sym is) ∙ element_is u)
  | inr later ↦ no_element nodes u (or_parts (is_element n) (list_any is_element nodes) e).1 later
]

-- each element among the children is significant
pub stands_kept : (all kept : List Node) (u : Tree) → IsSignificant all kept → StandsIn all (Element u) → StandsIn kept (Element u)
stands_kept all kept u (beside_elements h) s = stands_filter (λ n. not (is_blank n)) all (Element u) s (not_from_false (is_blank (Element u)) (element_filled u))
stands_kept all kept u (blank {child = child} b) s = elim (first_or_later child (Element u) [] s) [
  | inl e ↦ absurd (false≢true (sym (element_filled u) ∙ ap is_blank e ∙ b))
  | inr later ↦ absurd (nothing_stands (Element u) later)
]
stands_kept all kept u (whole h) s = s

-- of all children some are significant
pub significant : (all : List Node) → (kept : List Node) × IsSignificant all kept
significant all = ⊎_elim (λ h. (filter (λ n. not (is_blank n)) all, beside_elements h)) (λ h. (all, whole h)) (cases_Bool (list_any is_element all))
