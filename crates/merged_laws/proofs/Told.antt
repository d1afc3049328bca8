-- What is told of the tree of a printed element: its name, what it says, and its children with their tags.
use Rattle.std.proofs.Common.{◌≡◌, ℕ, true, List, [], ◌∷◌, map, refl, sym, ap, ap₂, subst, ◌∙◌, ⊎_elim}
use Rattle.std.specs.Prelude.{codes}
use Rattle.odd_text.specs.declared.name.Bind.{Bind}
use Rattle.odd_text.specs.declared.name.Name.{Name}
use Rattle.odd_text.specs.Standing.{StandsIn}
use Rattle.odd_tree.specs.Elements.{attribute_value, children_of, elements_of, given}
use Rattle.odd_tree.specs.Markup.{Pair, Markup, declaring, element, line, none, more, all_of}
use Rattle.odd_tree.specs.declared.tree.Attr.{Attr}
use Rattle.odd_tree.specs.declared.tree.Node.{Node}
use Rattle.odd_tree.specs.declared.tree.Tree.{Tree, out-Tree}
use Rattle.odd_tree.proofs.InTree.{with_element, with_text}
use Rattle.odd_text.proofs.InList.{first_or_later, nothing_stands}
use Rattle.odd_tree.proofs.PrintedTrees.{AreLines, HasHead, Shows, attr_of, line_break}
use Rattle.odd_forms.specs.Names.{tei, tei_namespace}
use Rattle.odd_forms.specs.Tags.{Tag, tag_of, tags_in}
use Rattle.odd_emit.specs.Saying.{Said, pairs_of, spoken, spoken_with}
use Rattle.merged_laws.proofs.Said.{are_apart, locals, told, value_told}

-- the name of a printed element, and its tag
abbrev pub name_of : Markup → List ℕ
name_of (element name attributes inside) = name
name_of (line name attributes text) = name
name_of (declaring name prefixes attributes) = name

abbrev pub pairs_in : Markup → List Pair
pairs_in (element name attributes inside) = attributes
pairs_in (line name attributes text) = attributes
pairs_in (declaring name prefixes attributes) = attributes

abbrev pub tag_said : Markup → Tag
tag_said m = record { name = tei (name_of m); attrs = map attr_of (pairs_in m) }

-- the trees show the elements, one each in order
abbrev pub AreShown : List Markup → List Tree → Type 0
AreShown [] [] = Unit {0}
AreShown (m ∷ ms) (t ∷ ts) = Shows tei_namespace [] m t × AreShown ms ts
AreShown ms ts = ⊥

-- a shown tree has the name and the tag
shown_head : (binds : List Bind) (m : Markup) (t : Tree) → Shows tei_namespace binds m t → HasHead tei_namespace (name_of m) (pairs_in m) t
shown_head binds (element name attributes none) t s = s.0
shown_head binds (element name attributes (more m rest)) t s = s.0
shown_head binds (line name attributes text) t s = s.0
shown_head binds (declaring name prefixes attributes) t s = s.0

pub shown_name : (m : Markup) (t : Tree) → Shows tei_namespace [] m t → (out-Tree t).name ≡ tei (name_of m)
shown_name m t s = (shown_head [] m t s).named

pub shown_tag : (m : Markup) (t : Tree) → Shows tei_namespace [] m t → tag_of t ≡ tag_said m
shown_tag m t s =
    let made : Name → List Attr → Tag = λ name attrs. record { name = name; attrs = attrs } in
    ap₂ made (shown_head [] m t s).named (shown_head [] m t s).attributed

-- the tags of shown trees
pub shown_tags : (ms : List Markup) (ts : List Tree) → AreShown ms ts → map tag_of ts ≡ map tag_said ms
shown_tags [] [] s = refl
shown_tags [] (t ∷ ts) s = absurd s
shown_tags (m ∷ ms) [] s = absurd s
shown_tags (m ∷ ms) (t ∷ ts) s = ap₂ (λ x xs. x ∷ xs) (shown_tag m t s.0) (shown_tags ms ts s.1)

-- of nothing that is printed no tree is shown
pub none_shown : (ts : List Tree) → AreShown [] ts → ts ≡ []
none_shown [] s = refl
none_shown (t ∷ ts) s = absurd s

lines_shown : (ms : List Markup) (lines : List Node) → AreLines tei_namespace (all_of ms) lines → AreShown ms (elements_of lines)
lines_shown [] lines e = subst (λ ns. AreShown [] (elements_of ns)) (sym e) tt
lines_shown (m ∷ ms) lines (t, later, e, s, rest) =
    subst (AreShown (m ∷ ms)) (sym (ap elements_of e ∙ with_element t (line_break ∷ later) ∙ ap (λ ts. t ∷ ts) (with_text (codes "\n") later))) (s, lines_shown ms later rest)

-- what a tree has that shows an element
pub record IsTold (name : List ℕ) (said : List Said) (inside : List Markup) (t : Tree) : Type 0 where
  pub named : (out-Tree t).name ≡ tei name
  pub given : (local : List ℕ) → given t local ≡ told said local
  pub children : AreShown inside (children_of t)
  pub tags : tags_in t ≡ map tag_said inside

head_told : (name : List ℕ) (said : List Said) (t : Tree) (local : List ℕ) → are_apart (locals said) ≡ true → HasHead tei_namespace name (pairs_of said) t → given t local ≡ told said local
head_told name said t local h head = ap (λ xs. attribute_value xs local) head.attributed ∙ value_told said local h

inside_shown : (binds : List Bind) (name : List ℕ) (said : List Said) (inside : List Markup) (t : Tree) → Shows tei_namespace binds (spoken name said inside) t → AreShown inside (children_of t)
inside_shown binds name said [] t s = subst (λ ns. AreShown [] (elements_of ns)) (sym s.1) tt
inside_shown binds name said (m ∷ ms) t s =
    subst (AreShown (m ∷ ms)) (sym (ap elements_of s.1.1 ∙ with_text (codes "\n") s.1.0)) (lines_shown (m ∷ ms) s.1.0 s.1.2)

pub is_told : (binds : List Bind) (name : List ℕ) (said : List Said) (inside : List Markup) (t : Tree) → are_apart (locals said) ≡ true → Shows tei_namespace binds (spoken name said inside) t → IsTold name said inside t
is_told binds name said inside t h s =
    let head = shown_head binds (spoken name said inside) t s in
    let children = inside_shown binds name said inside t s in
    record { named = head.named; given = λ local. head_told name said t local h head; children = children; tags = shown_tags inside (children_of t) children }

-- the same of one that declares prefixes
pub told_with : (name : List ℕ) (prefixes : List Pair) (said : List Said) (t : Tree) → are_apart (locals said) ≡ true → Shows tei_namespace [] (spoken_with name prefixes said) t → IsTold name said [] t
told_with name prefixes said t h s =
    let children : AreShown [] (children_of t) = subst (λ ns. AreShown [] (elements_of ns)) (sym s.1) tt in
    record { named = s.0.named; given = λ local. head_told name said t local h s.0; children = children; tags = shown_tags [] (children_of t) children }

-- each child shows one of the elements, and what holds of all these holds of it
abbrev pub AllOf : (Markup → Type 0) → List Markup → Type 0
AllOf P [] = Unit {0}
AllOf P (m ∷ ms) = P m × AllOf P ms

pub child_shown : (P : Markup → Type 0) (ms : List Markup) (ts : List Tree) → AllOf P ms → AreShown ms ts → (u : Tree) → StandsIn ts u → (m : Markup) × P m × Shows tei_namespace [] m u
child_shown P [] [] a s u stands = absurd (nothing_stands u stands)
child_shown P [] (t ∷ ts) a s u stands = absurd s
child_shown P (m ∷ ms) [] a s u stands = absurd s
child_shown P (m ∷ ms) (t ∷ ts) a s u stands =
    ⊎_elim (λ e. (m, a.0, subst (Shows tei_namespace [] m) (sym e) s.0)) (λ later. child_shown P ms ts a.1 s.1 u later) (first_or_later t u ts stands)

-- what holds of what each item is made into
pub all_made_of : {A : Type 0} (f : A → Markup) (P : Markup → Type 0) (xs : List A) → ((x : A) → StandsIn xs x → P (f x)) → AllOf P (map f xs)
all_made_of f P [] h = tt
all_made_of f P (x ∷ xs) h = (h x ([], xs, refl), all_made_of f P xs (λ y s. h y (x ∷ s.0, s.1, ap (λ ys. x ∷ ys) s.2)))
