-- A search in a printed tree for names that none of its elements has finds nothing.
use Rattle.std.proofs.Common.{◌≡◌, ◌<◌, ◌-◌, ℕ, true, false, ◌&&◌, ◌||◌, not, if◌then◌else◌, List, [], ◌∷◌, ◌++◌, refl, sym, ap, subst, ◌∙◌, ⊎_elim}
use Rattle.std.specs.Prelude.{codes}
use Rattle.std.proofs.lemmas.Bool.{and_from, or_parts}
use Rattle.odd_text.specs.declared.name.Bind.{Bind}
use Rattle.odd_text.specs.Same.{is_same}
use Rattle.odd_text.specs.Standing.{StandsIn}
use Rattle.odd_tree.specs.Elements.{StandsWithin, children_of, elements_of, within}
use Rattle.odd_tree.specs.Markup.{Markup, Markups, declaring, element, line, more, none}
use Rattle.odd_tree.specs.declared.tree.Node.{Node}
use Rattle.odd_tree.specs.declared.tree.Tree.{Tree, out-Tree}
use Rattle.odd_tree.proofs.InTree.{with_element, with_text}
use Rattle.odd_text.proofs.InList.{first_or_later, nothing_stands}
use Rattle.odd_tree.proofs.PrintedTrees.{AreLines, Shows, line_break, text_nodes}
use Rattle.odd_forms.specs.Names.{is_one_of, tei, tei_namespace}
use Rattle.odd_text.specs.Same.{is_among}
use Rattle.odd_items.specs.Groups.{group_names, reference_names, schema_names}
use Rattle.odd_items.specs.Search.{Finds, FindsAmong, is_searched, own}
use Rattle.merged_laws.proofs.Told.{name_of, shown_name}

-- What stands in a tree that shows an element

abbrev pub AllShown : Markups → List Tree → Type 0
AllShown none [] = Unit {0}
AllShown (more m ms) (t ∷ ts) = Shows tei_namespace [] m t × AllShown ms ts
AllShown ms ts = ⊥

lines_shown : (ms : Markups) (lines : List Node) → AreLines tei_namespace ms lines → AllShown ms (elements_of lines)
lines_shown none lines e = subst (λ ns. AllShown none (elements_of ns)) (sym e) tt
lines_shown (more m ms) lines (t, later, e, s, rest) =
    subst (AllShown (more m ms)) (sym (ap elements_of e ∙ with_element t (line_break ∷ later) ∙ ap (λ ts. t ∷ ts) (with_text (codes "\n") later))) (s, lines_shown ms later rest)

elements_none : (x : List ℕ) → elements_of (text_nodes x) ≡ []
elements_none [] = refl
elements_none (c ∷ cs) = with_text (c ∷ cs) []

abbrev pub inside_of : Markup → Markups
inside_of (element name attributes inside) = inside
inside_of (line name attributes text) = none
inside_of (declaring name prefixes attributes) = none

pub shown_inside : (binds : List Bind) (m : Markup) (t : Tree) → Shows tei_namespace binds m t → AllShown (inside_of m) (children_of t)
shown_inside binds (element name attributes none) t s = subst (λ ns. AllShown none (elements_of ns)) (sym s.1) tt
shown_inside binds (element name attributes (more m rest)) t s =
    subst (AllShown (more m rest)) (sym (ap elements_of s.1.1 ∙ with_text (codes "\n") s.1.0)) (lines_shown (more m rest) s.1.0 s.1.2)
shown_inside binds (line name attributes text) t s = subst (AllShown none) (sym (ap elements_of s.1 ∙ elements_none text)) tt
shown_inside binds (declaring name prefixes attributes) t s = subst (λ ns. AllShown none (elements_of ns)) (sym s.1) tt

-- of nothing that is printed no tree is shown
pub none_shown : (ts : List Tree) → AllShown none ts → ts ≡ []
none_shown [] s = refl
none_shown (t ∷ ts) s = absurd s

-- nor has what is printed with nothing in it a child
none_inside : (m : Markup) (t child : Tree) → inside_of m ≡ none → Shows tei_namespace [] m t → StandsIn (children_of t) child → ⊥
none_inside m t child is s stands = nothing_stands child (subst (λ ts. StandsIn ts child) (none_shown (children_of t) (subst (λ ms. AllShown ms (children_of t)) is (shown_inside [] m t s))) stands)

-- Names

-- those that are looked for in a file, and that of what may be taken out of it
abbrev pub sought_names : List (List ℕ)
sought_names = codes "schemaSpec" ∷ codes "specGrp" ∷ codes "specGrpRef" ∷ codes "constraintSpec" ∷ []

abbrev mutual
  -- none of the elements has one of them, and at most so many stand in one another
  pub IsOther : ℕ → Markup → Type 0
  IsOther n (element name attributes inside) = (0 < n) × (is_among sought_names name ≡ false) × AreOther (n - 1) inside
  IsOther n (line name attributes text) = (0 < n) × (is_among sought_names name ≡ false)
  IsOther n (declaring name prefixes attributes) = (0 < n) × (is_among sought_names name ≡ false)

  pub AreOther : ℕ → Markups → Type 0
  AreOther n none = Unit {0}
  AreOther n (more m ms) = IsOther n m × AreOther n ms

name_other : (n : ℕ) (m : Markup) → IsOther n m → is_among sought_names (name_of m) ≡ false
name_other n (element name attributes inside) o = o.1
name_other n (line name attributes text) o = o.1
name_other n (declaring name prefixes attributes) o = o.1

-- fewer names
abbrev pub Fewer : List (List ℕ) → Type 0
Fewer names = (local : List ℕ) → is_among sought_names local ≡ false → is_among names local ≡ false

pub schemas_fewer : Fewer schema_names
schemas_fewer local h = ap (λ b. b || false) (or_parts (is_same local (codes "schemaSpec")) _ h).0

pub groups_fewer : Fewer group_names
groups_fewer local h = ap (λ b. b || false) (or_parts (is_same local (codes "specGrp")) _ (or_parts (is_same local (codes "schemaSpec")) _ h).1).0

pub references_fewer : Fewer reference_names
references_fewer local h =
    ap (λ b. b || false) (or_parts (is_same local (codes "specGrpRef")) _ (or_parts (is_same local (codes "specGrp")) _ (or_parts (is_same local (codes "schemaSpec")) _ h).1).1).0

pub constraints_fewer : Fewer (codes "constraintSpec" ∷ [])
constraints_fewer local h =
    (or_parts (is_same local (codes "specGrpRef")) _ (or_parts (is_same local (codes "specGrp")) _ (or_parts (is_same local (codes "schemaSpec")) _ h).1).1).1

-- an element that is shown and has another name is searched
shown_searched : (n : ℕ) (m : Markup) (t : Tree) → IsOther n m → Shows tei_namespace [] m t → is_searched t ≡ true
shown_searched n m t o s =
    and_from (is_same (out-Tree t).name.ns tei_namespace) (not (is_one_of (codes "constraintSpec" ∷ []) t)) (ap (λ n. is_same n.ns tei_namespace) (shown_name m t s))
    (ap not (ap (λ n. is_same n.ns tei_namespace && is_among (codes "constraintSpec" ∷ []) n.local) (shown_name m t s) ∙ constraints_fewer (name_of m) (name_other n m o)))

module _ (names : List (List ℕ)) (fewer : Fewer names) where
  -- an element of another name is none of these
  pub not_named : (local : List ℕ) (t : Tree) → (out-Tree t).name ≡ tei local → is_among sought_names local ≡ false → is_one_of names t ≡ false
  not_named local t h o = ap (λ n. is_same n.ns tei_namespace && is_among names n.local) h ∙ fewer local o

  pub not_shown : (n : ℕ) (m : Markup) (t : Tree) → IsOther n m → Shows tei_namespace [] m t → is_one_of names t ≡ false
  not_shown n m t o s = not_named (name_of m) t (shown_name m t s) (name_other n m o)

  own_none : (n : ℕ) (m : Markup) (t : Tree) (around : List Bind) → IsOther n m → Shows tei_namespace [] m t → own names around t ≡ []
  own_none n m t around o s = ap (λ b. if b then record { around = around; element = t } ∷ [] else []) (not_shown n m t o s)

  -- there is none where nothing stands in it
  none_in : (n : ℕ) (m : Markup) (t : Tree) (around : List Bind) → inside_of m ≡ none → IsOther n m → Shows tei_namespace [] m t → Finds names false around t []
  none_in n m t around is o s =
      let bare = none_shown (children_of t) (subst (λ ms. AllShown ms (children_of t)) is (shown_inside [] m t s)) in
      Finds.through [] (shown_searched n m t o s) refl (subst (λ ts. FindsAmong names false (within around t) ts []) (sym bare) FindsAmong.nothing)
      (sym (ap (λ fs. fs ++ []) (own_none n m t around o s)))

  -- at no depth is there one
  mutual
    pub none_within : (n : ℕ) (m : Markup) (t u : Tree) → IsOther n m → Shows tei_namespace [] m t → StandsWithin t u → is_one_of names u ≡ false
    none_within n m t u o s StandsWithin.itself = not_shown n m t o s
    none_within n (element name attributes inside) t u o s (StandsWithin.inside child stands w) =
        none_among (n - 1) inside (children_of t) u o.2 (shown_inside [] (element name attributes inside) t s) child stands w
    none_within n (line name attributes text) t u o s (StandsWithin.inside child stands w) = absurd (none_inside (line name attributes text) t child refl s stands)
    none_within n (declaring name prefixes attributes) t u o s (StandsWithin.inside child stands w) = absurd (none_inside (declaring name prefixes attributes) t child refl s stands)

    pub none_among : (n : ℕ) (ms : Markups) (ts : List Tree) (u : Tree) → AreOther n ms → AllShown ms ts → (child : Tree) → StandsIn ts child → StandsWithin child u → is_one_of names u ≡ false
    none_among n none [] u o s child stands w = absurd (nothing_stands child stands)
    none_among n none (t ∷ ts) u o s child stands w = absurd s
    none_among n (more m ms) [] u o s child stands w = absurd s
    none_among n (more m ms) (t ∷ ts) u o s child stands w =
        ⊎_elim (λ e. none_within n m t u o.0 s.0 (subst (λ c. StandsWithin c u) e w)) (λ later. none_among n ms ts u o.1 s.1 child later w) (first_or_later t child ts stands)

  -- so a search finds nothing
  mutual
    pub finds_none : (n : ℕ) (m : Markup) (t : Tree) (around : List Bind) → IsOther n m → Shows tei_namespace [] m t → Finds names false around t []
    finds_none n (element name attributes inside) t around o s =
        Finds.through [] (shown_searched n (element name attributes inside) t o s) refl
        (finds_nothing (n - 1) inside (children_of t) (within around t) o.2 (shown_inside [] (element name attributes inside) t s))
        (sym (ap (λ fs. fs ++ []) (own_none n (element name attributes inside) t around o s)))
    finds_none n (line name attributes text) t around o s = none_in n (line name attributes text) t around refl o s
    finds_none n (declaring name prefixes attributes) t around o s = none_in n (declaring name prefixes attributes) t around refl o s

    pub finds_nothing : (n : ℕ) (ms : Markups) (ts : List Tree) (around : List Bind) → AreOther n ms → AllShown ms ts → FindsAmong names false around ts []
    finds_nothing n none [] around o s = FindsAmong.nothing
    finds_nothing n none (t ∷ ts) around o s = absurd s
    finds_nothing n (more m ms) [] around o s = absurd s
    finds_nothing n (more m ms) (t ∷ ts) around o s = FindsAmong.element [] [] (finds_none n m t around o.0 s.0) (finds_nothing n ms ts around o.1 s.1) refl
