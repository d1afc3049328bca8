-- A formed tree has a formed tag and formed children.
use Rattle.std.proofs.Common.{ℕ, List, subst, sym, ⊎_elim}
use Rattle.odd_tree.proofs.InTree.{with_element, with_text}
use Rattle.odd_text.proofs.InList.{first_or_later, nothing_stands}
use Rattle.odd_text.specs.Standing.{StandsIn}
use Rattle.odd_tree.specs.Elements.{children_of, elements_of}
use Rattle.odd_tree.specs.Formed.{AreFormed, IsFormed, IsFormedTag}
use Rattle.odd_tree.specs.Formed as formed
use Rattle.odd_tree.specs.declared.tree.Node.{Node}
use Rattle.odd_tree.specs.declared.tree.Tree.{Tree}

-- the element is formed, between some places
abbrev pub IsFormedSomewhere : Tree → Type 0
IsFormedSomewhere t = (first : ℕ) × (end : ℕ) × IsFormed first end t

pub tag_formed : {first end : ℕ} {t : Tree} → IsFormed first end t → IsFormedTag t
tag_formed (formed.element h tag apart inside) = tag

-- the elements among formed nodes are formed
children_formed : {first end : ℕ} {nodes : List Node} → AreFormed first end nodes → (u : Tree) → StandsIn (elements_of nodes) u → IsFormedSomewhere u
children_formed (formed.nothing h) u s = absurd (nothing_stands u s)
children_formed (formed.text {bytes = bytes} {nodes = nodes} later) u s = children_formed later u (subst (λ ts. StandsIn ts u) (with_text bytes nodes) s)
children_formed {first = first} (formed.child {t = t} {nodes = nodes} between one later) u s =
    ⊎_elim (λ e. subst IsFormedSomewhere (sym e) (first, between, one)) (children_formed later u)
    (first_or_later t u (elements_of nodes) (subst (λ ts. StandsIn ts u) (with_element t nodes) s))

pub child_formed : {first end : ℕ} {t : Tree} → IsFormed first end t → (u : Tree) → StandsIn (children_of t) u → IsFormedSomewhere u
child_formed (formed.element h tag apart inside) u s = children_formed inside u s
