-- The condition law: a tree meets a condition throughout where the define of that condition accepts it.
use Rattle.std.proofs.Common.{◌≡◌, ℕ, List, [], ◌∷◌, length, inl, inr, refl, sym, subst, rules, ◌↔◌, ◌≤◌, ◌<◌, zero, suc, ⊎_elim, ◌∙◌, arith}
use Rattle.std.proofs.lemmas.Bool.{or_from}
use Rattle.compile_defines.proofs.Standing.{stands_either, stands_left}
use Rattle.compile_defines.specs.Contents.{condition_name}
use Rattle.compile_defines.specs.Compiled.{content_throughout, IsGrammarOf, condition_body}
use Rattle.odd_content.specs.declared.content.Condition.{Condition}
use Rattle.odd_library.specs.declared.library.Library.{Library}
use Rattle.odd_meaning.specs.Conditions.{IsMetBy, IsMetThroughout}
use Rattle.odd_text.specs.declared.name.Name.{Name}
use Rattle.odd_tree.proofs.InTree.{with_element}
use Rattle.odd_text.proofs.InList.{first_or_later, nothing_stands, stands_first, stands_later}
use Rattle.odd_text.specs.Standing.{StandsIn}
use Rattle.odd_tree.specs.Elements.{StandsWithin, children_of, inside, itself}
use Rattle.odd_tree.specs.Significant.{Marking, depth}
use Rattle.odd_tree.specs.declared.tree.Node.{Node, Element}
use Rattle.odd_tree.specs.declared.tree.Tree.{Tree, out-Tree}
use Rattle.rng_grammar.proofs.OnePattern.{choice_shown, ref_shown, text_shown, told, zero_or_more_shown}
use Rattle.rng_grammar.specs.Acceptance as acceptance
use Rattle.rng_grammar.specs.Acceptance.{HasContent, IsAcceptedWithin, IsInClass}
use Rattle.rng_grammar.specs.Patterns as patterns
use Rattle.rng_grammar.specs.Patterns.{DefinesElement, IsDefined, IsMatched, IsRepeated}
use Rattle.rng_grammar.specs.declared.grammar.AttrPart.TheVariants as attributes
use Rattle.rng_grammar.specs.declared.grammar.Body.TheVariants as body
use Rattle.rng_grammar.specs.declared.grammar.Expr as E
use Rattle.rng_grammar.specs.declared.grammar.Expr.{Expr}
use Rattle.rng_grammar.specs.declared.grammar.Expr.TheOpen as shape
use Rattle.rng_grammar.specs.declared.grammar.Expr.TheVariants as expr
use Rattle.rng_grammar.specs.declared.grammar.Grammar.{Grammar}
use Rattle.compile_laws.proofs.ConditionClass.{element, kind_of, no_element, stands_element, text, text_is_none, IsElementBody, IsEmptyBody, body_kind, condition_bodied, condition_defined, element_stands, significant, stands_kept}
use Rattle.compile_laws.proofs.Levels.{child_less, depth_is, kept_stands}

-- the kind of `notAllowed`
not_allowed_shown : E.out-Expr expr.NotAllowed ≡ shape.NotAllowed
not_allowed_shown = search (rules, E.the_lemmas)

module _ (g : Grammar) (counts : Marking (List ℕ)) (name : List ℕ) where
  -- each element among the children counts for the define
  abbrev pub EachCounts : List Node → Type 0
  EachCounts children = (u : Tree) → StandsIn children (Element u) → counts u name

  -- a text, or an element of the define
  abbrev kinds : List Expr
  kinds = expr.Text ∷ expr.Ref name ∷ []

  -- a child is one of the two
  piece_matched : DefinesElement g name → (n : Node) → EachCounts (n ∷ []) → IsMatched g counts (expr.Choice kinds) (n ∷ [])
  piece_matched d n each = elim (kind_of n) as (λ m k. EachCounts (m ∷ []) → IsMatched g counts (expr.Choice kinds) (m ∷ [])) [
    | element t ↦ λ h.
        patterns.choice refl (stands_later expr.Text (expr.Ref name) (expr.Ref name ∷ []) (stands_first (expr.Ref name) []))
        (patterns.leaf (patterns.element d refl (h t (stands_first (Element t) []))))
    | text x ↦ λ h. patterns.choice refl (stands_first expr.Text (expr.Ref name ∷ [])) (patterns.leaf (patterns.text (or_from _ _ (text_is_none x) refl)))
  ] each

  -- so a list of children is so many of them
  pieces_matched : DefinesElement g name → (children : List Node) → EachCounts children → IsRepeated g counts (length children) (expr.Choice kinds) children
  pieces_matched d [] each = patterns.none
  pieces_matched d (n ∷ ns) each =
      patterns.again (n ∷ []) ns refl
      (piece_matched d n (λ u s. each u (stands_left (n ∷ []) ns (Element u) s)))
      (pieces_matched d ns (λ u s. each u (stands_later n (Element u) ns s)))

  -- and the content matches it
  pub throughout_matched : DefinesElement g name → (children : List Node) → EachCounts children → IsMatched g counts (content_throughout name) children
  throughout_matched d children each = patterns.zero_or_more (length children) refl (pieces_matched d children each)

  module _ (closed : (p : Expr) → IsDefined g name (body.Part p) → p ≡ expr.NotAllowed) where
    -- an element that a reference matches counts, since nothing matches `notAllowed`
    reference_counted : (children : List Node) → IsMatched g counts (expr.Ref name) children → EachCounts children
    reference_counted children m u s = elim (told g counts (expr.Ref name) (shape.Ref name) children (ref_shown name) m) [
      | inl one ↦
          let among = stands_element (Element one.0 ∷ []) u (subst (λ ns. StandsIn ns (Element u)) one.2 s) in
          elim (first_or_later one.0 u [] (subst (λ ts. StandsIn ts u) (with_element one.0 []) among)) [
            | inl e ↦ subst (λ t. counts t name) (sym e) one.3
            | inr later ↦ absurd (nothing_stands u later)
          ]
      | inr part ↦ absurd (told g counts part.0 shape.NotAllowed children (subst (λ p. E.out-Expr p ≡ shape.NotAllowed) (sym (closed part.0 part.1)) not_allowed_shown) part.2)
    ]

    -- and so does one in a piece
    piece_counted : (children : List Node) → IsMatched g counts (expr.Choice kinds) children → EachCounts children
    piece_counted children m u s =
        let h = told g counts (expr.Choice kinds) (shape.Choice kinds) children (choice_shown kinds) m in
        elim (first_or_later expr.Text h.0 (expr.Ref name ∷ []) h.1) [
          | inl e ↦ absurd (no_element children u (told g counts expr.Text shape.Text children text_shown (subst (λ p. IsMatched g counts p children) e h.2)) s)
          | inr later ↦ elim (first_or_later (expr.Ref name) h.0 [] later) [
            | inl e ↦ reference_counted children (subst (λ p. IsMatched g counts p children) e h.2) u s
            | inr none ↦ absurd (nothing_stands h.0 none)
          ]
        ]

    -- and in any number of pieces
    pieces_counted : (n : ℕ) (p : Expr) (children : List Node) → p ≡ expr.Choice kinds → IsRepeated g counts n p children → EachCounts children
    pieces_counted n p children is patterns.none u s = absurd (nothing_stands (Element u) s)
    pieces_counted n p children is (patterns.again {n = less} left right e m r) u s =
        elim (stands_either left right (Element u) (subst (λ ns. StandsIn ns (Element u)) e s)) [
          | inl first ↦ piece_counted left (subst (λ q. IsMatched g counts q left) is m) u first
          | inr later ↦ pieces_counted less p right is r u later
        ]

    -- so of children that the content matches each element counts
    pub throughout_counted : (children : List Node) → IsMatched g counts (content_throughout name) children → EachCounts children
    throughout_counted children m =
        let h = told g counts (content_throughout name) (shape.ZeroOrMore (expr.Choice kinds)) children (zero_or_more_shown (expr.Choice kinds)) m in
        pieces_counted h.0 (expr.Choice kinds) children refl h.1

module _ (library : Library) (start : List (List ℕ)) (g : Grammar) (is : IsGrammarOf library start g) where
  -- no condition's define holds a pattern but `notAllowed`
  pub condition_part : (c : Condition) → StandsIn is.conditions c → (p : Expr) → IsDefined g (condition_name is.conditions c) (body.Part p) → p ≡ expr.NotAllowed
  condition_part c s p d =
      let own = condition_name is.conditions c in
      let e : body.Part p ≡ condition_body own c = condition_bodied library start g is c s (body.Part p) d in
      ⊎_elim (λ (h : IsEmptyBody c (condition_body own c)). let f : body.Part p ≡ body.Part expr.NotAllowed = e ∙ h.is in cc)
      (λ (h : IsElementBody c own (condition_body own c)). let f : body.Part p ≡ body.Element h.names attributes.AnyAttributes (content_throughout own) = e ∙ h.is in cc)
      (body_kind own c)

  module _ (c : Condition) (s : StandsIn is.conditions c) where
    -- the name of its define
    abbrev own : List ℕ
    own = condition_name is.conditions c

    -- where a name meets the condition, the define holds an element
    met_defined : (name : Name) → IsMetBy c name → IsElementBody c own (condition_body own c)
    met_defined name m = ⊎_elim (λ (h : IsEmptyBody c (condition_body own c)). absurd (h.none_meets name m)) (λ h. h) (body_kind own c)

    body_defined : (b : IsElementBody c own (condition_body own c)) → IsDefined g own (body.Element b.names attributes.AnyAttributes (content_throughout own))
    body_defined b = subst (λ x. IsDefined g own x) b.is (condition_defined library start g is c s)

    defines : IsElementBody c own (condition_body own c) → DefinesElement g own
    defines b = record { names = b.names; attrs = attributes.AnyAttributes; content = content_throughout own; defined = body_defined b }

    -- a tree that meets the condition throughout is accepted
    met_accepted : (levels : ℕ) (t : Tree) → depth t ≤ levels → IsMetThroughout c t → DefinesElement g own × IsAcceptedWithin levels g t own
    met_accepted zero t h m = let d = depth_is t in absurd (omega arith)
    met_accepted (suc levels) t h m =
        let b = met_defined (out-Tree t).name (m t itself) in
        let kept = significant (out-Tree t).children in (
          defines b,
          record {
            names = b.names;
            attrs = attributes.AnyAttributes;
            content = content_throughout own;
            defined = body_defined b;
            named = (b.class_of (out-Tree t).name).1 (m t itself);
            attributed = tt;
            holds = acceptance.children kept.0 kept.1 (throughout_matched g (IsAcceptedWithin levels g) own (defines b) kept.0 (λ u k.
                let child : StandsIn (out-Tree t).children (Element u) = kept_stands (out-Tree t).children kept.0 (Element u) kept.1 k in
                let less : depth u < depth t = child_less t u child in
                (met_accepted levels u (omega arith) (λ v w. m v (inside u (stands_element (out-Tree t).children u child) w))).1));
          },
        )

    -- what it tells of an element that the define accepts it
    record IsToldOf (levels : ℕ) (t : Tree) : Type 0 where
      met : IsMetBy c (out-Tree t).name
      children : (u : Tree) → StandsIn (children_of t) u → IsAcceptedWithin levels g u own

    -- of children that its content matches each element is accepted
    each_accepted : (levels : ℕ) (t : Tree) → HasContent (IsAcceptedWithin levels g) g (content_throughout own) t → (u : Tree) → StandsIn (children_of t) u → IsAcceptedWithin levels g u own
    each_accepted levels t (acceptance.children nodes kept m) u among =
        throughout_counted g (IsAcceptedWithin levels g) own (condition_part c s) nodes m u
        (stands_kept (out-Tree t).children nodes u kept (element_stands (out-Tree t).children u among))
    each_accepted levels t (acceptance.value none allowed) u among = absurd (no_element (out-Tree t).children u none (element_stands (out-Tree t).children u among))

    -- since it is the body of that define that accepts it
    told_accepted : (levels : ℕ) (t : Tree) → IsAcceptedWithin (suc levels) g t own → IsToldOf levels t
    told_accepted levels t a =
        let e : body.Element a.names a.attrs a.content ≡ condition_body own c = condition_bodied library start g is c s (body.Element a.names a.attrs a.content) a.defined in
        ⊎_elim (λ (h : IsEmptyBody c (condition_body own c)). let f : body.Element a.names a.attrs a.content ≡ body.Part expr.NotAllowed = e ∙ h.is in cc)
        (λ (h : IsElementBody c own (condition_body own c)).
        let f : body.Element a.names a.attrs a.content ≡ body.Element h.names attributes.AnyAttributes (content_throughout own) = e ∙ h.is in
        let names : a.names ≡ h.names = cc in
        let content : a.content ≡ content_throughout own = cc in
        record {
          met = (h.class_of (out-Tree t).name).0 (subst (λ n. IsInClass n (out-Tree t).name) names a.named);
          children = each_accepted levels t (subst (λ p. HasContent (IsAcceptedWithin levels g) g p t) content a.holds);
        })
        (body_kind own c)

    -- so an accepted tree meets the condition throughout
    accepted_met : (levels : ℕ) (t u : Tree) → StandsWithin t u → IsAcceptedWithin levels g t own → IsMetBy c (out-Tree u).name
    accepted_met zero t u w a = absurd a
    accepted_met (suc levels) t u itself a = (told_accepted levels t a).met
    accepted_met (suc levels) t u (inside child among w) a = accepted_met levels child u w ((told_accepted levels t a).children child among)

  pub condition_law : (c : Condition) → StandsIn is.conditions c → (levels : ℕ) (t : Tree) → depth t ≤ levels
      → IsMetThroughout c t ↔ (DefinesElement g (condition_name is.conditions c) × IsAcceptedWithin levels g t (condition_name is.conditions c))
  condition_law c s levels t h = (met_accepted c s levels t h, λ a u w. accepted_met c s levels t u w a.1)
