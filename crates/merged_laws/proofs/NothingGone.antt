-- Of a printed tree in which nothing is to be taken out all is left.
use Rattle.std.proofs.Common.{◌≡◌, ◌⊎◌, inl, inr, ⊎_elim, ℕ, List, [], ◌∷◌, refl, sym, ap, subst, ◌∙◌}
use Rattle.std.specs.Prelude.{codes}
use Rattle.odd_text.specs.declared.name.Bind.{Bind}
use Rattle.odd_text.specs.Standing.{StandsIn}
use Rattle.odd_tree.specs.Elements.{StandsWithin, elements_of}
use Rattle.odd_tree.specs.Markup.{Markup, Markups, Pair, declaring, element, line, more, none}
use Rattle.odd_tree.specs.declared.tree.Node.{Node}
use Rattle.odd_tree.specs.declared.tree.Tree.{Tree, out-Tree}
use Rattle.odd_tree.proofs.InTree.{with_element, with_text}
use Rattle.odd_text.proofs.InList.{stands_first, stands_later}
use Rattle.odd_tree.proofs.PrintedTrees.{AreLines, Shows, line_break, text_nodes}
use Rattle.odd_forms.specs.Names.{tei_namespace}
use Rattle.odd_items.specs.Without.{AreWithout, IsWithout}
use Rattle.odd_items.specs.Without as left

module _ (Gone : Tree → Type 0) where
  -- nothing that is to be taken out stands in one of the elements
  abbrev NoneIn : List Tree → Type 0
  NoneIn ts = (c : Tree) → StandsIn ts c → (s : Tree) → StandsWithin c s → Gone s → ⊥

  text_left : (x : List ℕ) → AreWithout Gone (text_nodes x) (text_nodes x) 0
  text_left [] = left.nothing
  text_left (c ∷ cs) = left.text (c ∷ cs) left.nothing

  -- the children of an element are none, or lines after a line break
  nodes_shown : (binds : List Bind) (name : List ℕ) (attributes : List Pair) (inside : Markups) (t : Tree) → Shows tei_namespace binds (element name attributes inside) t
      → ((out-Tree t).children ≡ []) ⊎ ((lines : List Node) × ((out-Tree t).children ≡ line_break ∷ lines) × AreLines tei_namespace inside lines)
  nodes_shown binds name attributes none t s = inl s.1
  nodes_shown binds name attributes (more m rest) t s = inr s.1

  mutual
    pub all_left : (binds : List Bind) (m : Markup) (t : Tree) → Shows tei_namespace binds m t → ((s : Tree) → StandsWithin t s → Gone s → ⊥) → IsWithout Gone t t 0
    all_left binds (element name attributes inside) t s h =
        ⊎_elim (λ e. left.element refl refl refl refl (subst (λ ns. AreWithout Gone ns ns 0) (sym e) left.nothing))
        (λ k. left.element refl refl refl refl (subst (λ ns. AreWithout Gone ns ns 0) (sym k.1)
        (broken_left inside k.0 k.2 (subst (λ ns. NoneIn (elements_of ns)) k.1 (λ c stands u w. h u (StandsWithin.inside c stands w))))))
        (nodes_shown binds name attributes inside t s)
    all_left binds (line name attributes text) t s h = left.element refl refl refl refl (subst (λ ns. AreWithout Gone ns ns 0) (sym s.1) (text_left text))
    all_left binds (declaring name prefixes attributes) t s h = left.element refl refl refl refl (subst (λ ns. AreWithout Gone ns ns 0) (sym s.1) left.nothing)

    broken_left : (ms : Markups) (lines : List Node) → AreLines tei_namespace ms lines → NoneIn (elements_of (line_break ∷ lines)) → AreWithout Gone (line_break ∷ lines) (line_break ∷ lines) 0
    broken_left none lines e h = subst (λ ns. AreWithout Gone (line_break ∷ ns) (line_break ∷ ns) 0) (sym e) (left.text (codes "\n") left.nothing)
    broken_left (more m rest) lines (t, later, e, s, are) h =
        let last = elements_of (line_break ∷ later) in
        let all : NoneIn (t ∷ last) = subst NoneIn (with_text (codes "\n") lines ∙ ap elements_of e ∙ with_element t (line_break ∷ later)) h in
        subst (λ ns. AreWithout Gone (line_break ∷ ns) (line_break ∷ ns) 0) (sym e)
        (left.text (codes "\n")
        (left.kept (all t (stands_first t last) t StandsWithin.itself) (all_left [] m t s (all t (stands_first t last))) (broken_left rest later are (λ c k. all c (stands_later t c last k)))))
