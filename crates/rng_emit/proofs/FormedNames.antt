-- The parts of a formed element are formed, its texts are of characters of XML, and its name class is plain.
use Rattle.std.proofs.Common.{◌++◌, ℕ, true, false, List, [], ◌∷◌, cond, codes, unwrap_or, Some, refl, sym, subst}
use Rattle.std.proofs.lemmas.List.Elements.{All-nil, All-cons, All-head, All-tail, All-filter, recursion_from_All}
use Rattle.std.specs.List.{AllByRecursion}
use Rattle.std.specs.Prelude.{All}
use Rattle.odd_text.specs.declared.name.Name.{Name}
use Rattle.odd_tokens.specs.Characters.{IsLegal}
use Rattle.odd_text.specs.Same.{is_same}
use Rattle.odd_tree.proofs.InTree.{with_element, with_text}
use Rattle.odd_tree.specs.Elements.{attribute_value, children_of, elements_of, given, is_named}
use Rattle.odd_tree.specs.Formed as formed
use Rattle.odd_tree.specs.Formed.{AreApart, AreFormed, IsFormed}
use Rattle.odd_tree.specs.declared.tree.Attr.{Attr}
use Rattle.odd_tree.specs.declared.tree.Node.{Node}
use Rattle.odd_tree.specs.declared.tree.Tree.{Tree, out-Tree}
use Rattle.rng_grammar.specs.Denoting as denoting
use Rattle.rng_grammar.specs.Denoting.{AreExcepted, AreSpaceParts, HasExcept, HasNames, HasText, IsNameClass, IsSpacePart, parts_of}
use Rattle.rng_grammar.specs.Names.{relax_ng_namespace}
use Rattle.rng_grammar.specs.declared.grammar.NameClass.{NameClass}
use Rattle.rng_grammar.specs.declared.grammar.NsPart.{NsPart}
use Rattle.rng_emit.proofs.Printable.{IsPlainClass, IsPlainName, IsPlainPart}

-- the element is formed, between some places
abbrev pub IsFormedSomewhere : Tree → Type 0
IsFormedSomewhere t = (first : ℕ) × (end : ℕ) × IsFormed first end t

abbrev pub AllFormed : List Tree → Type 0
AllFormed = AllByRecursion IsFormedSomewhere

-- the elements among formed nodes are
elements_formed : {first end : ℕ} {nodes : List Node} → AreFormed first end nodes → All IsFormedSomewhere (elements_of nodes)
elements_formed (formed.nothing h) = All-nil IsFormedSomewhere
elements_formed (formed.text {bytes = bytes} {nodes = nodes} later) = subst (All IsFormedSomewhere) (sym (with_text bytes nodes)) (elements_formed later)
elements_formed (formed.child {first = first} {t = t} {nodes = nodes} between one later) =
    subst (All IsFormedSomewhere) (sym (with_element t nodes)) (All-cons IsFormedSomewhere t (elements_of nodes) (first, between, one) (elements_formed later))

-- and so are the parts of a formed element
pub parts_formed : (t : Tree) → IsFormedSomewhere t → AllFormed (parts_of t)
parts_formed t (first, end, formed.element h tag apart nodes) =
    recursion_from_All IsFormedSomewhere (parts_of t) (All-filter (λ u. is_same (out-Tree u).name.ns relax_ng_namespace) IsFormedSomewhere (children_of t) (elements_formed nodes))

-- what stands beside one of some formed elements is formed
pub beside_formed : (before after : List Tree) (t : Tree) → AllFormed (before ++ t ∷ after) → AllFormed (before ++ after)
beside_formed [] after t all = all.1
beside_formed (u ∷ before) after t all = (all.0, beside_formed before after t all.1)

-- and so is the one
pub amid_formed : (before after : List Tree) (t : Tree) → AllFormed (before ++ t ∷ after) → IsFormedSomewhere t
amid_formed [] after t all = all.0
amid_formed (u ∷ before) after t all = amid_formed before after t all.1

-- a value among legal ones is legal, or else the default
value_legal : (attrs : List Attr) (local default : List ℕ) → IsLegal default → All (λ (a : Attr). IsLegal a.value) attrs → IsLegal (unwrap_or (attribute_value attrs local) default)
value_legal [] local default h all = h
value_legal (a ∷ rest) local default h all =
    elim (is_named a local) as (λ b. IsLegal (unwrap_or (cond b (Some a.value) (attribute_value rest local)) default)) [
      | true ↦ All-head (λ (x : Attr). IsLegal x.value) a rest all
      | false ↦ value_legal rest local default h (All-tail (λ (x : Attr). IsLegal x.value) a rest all)
    ]

-- so is the namespace that a formed element gives
pub space_legal : (default : List ℕ) (t : Tree) → IsLegal default → IsFormedSomewhere t → IsLegal (unwrap_or (given t (codes "ns")) default)
space_legal default t h (first, end, formed.element low tag apart nodes) = value_legal (out-Tree t).attrs (codes "ns") default h tag.valued

-- so is a text among nodes that are apart
text_legal : {nodes : List Node} {text : List ℕ} → AreApart nodes → HasText nodes text → IsLegal text
text_legal apart denoting.nothing = ([], refl, refl)
text_legal apart denoting.text = apart.1

-- and the text of a formed element
pub element_text_legal : (t : Tree) (text : List ℕ) → IsFormedSomewhere t → HasText (out-Tree t).children text → IsLegal text
element_text_legal t text (first, end, formed.element low tag apart nodes) h = text_legal apart h

-- names that stand under a legal default, and what an `except` leaves out, are plain
module _ {default : List ℕ} (legal : IsLegal default) where
  excepted_plain : {ts : List Tree} {spaces : List (List ℕ)} {names : List Name} → AllFormed ts → AreExcepted default ts spaces names → All IsLegal spaces × All IsPlainName names
  excepted_plain all denoting.none = (All-nil IsLegal, All-nil IsPlainName)
  excepted_plain all (denoting.space {t = t} {space = space} {spaces = spaces} h later) =
      let rest = excepted_plain all.1 later in
      (All-cons IsLegal space spaces (subst IsLegal (sym h.is) (space_legal default t legal all.0)) rest.0, rest.1)
  excepted_plain all (denoting.name {t = t} {name = name} {names = names} h later) =
      let rest = excepted_plain all.1 later in
      let one : IsPlainName name = record { named = h.is_ncname; legal = subst IsLegal (sym h.space) (space_legal default t legal all.0) } in
      (rest.0, All-cons IsPlainName name names one rest.1)

  except_plain : {ts : List Tree} {spaces : List (List ℕ)} {names : List Name} → AllFormed ts → HasExcept default ts spaces names → All IsLegal spaces × All IsPlainName names
  except_plain all denoting.none = (All-nil IsLegal, All-nil IsPlainName)
  except_plain all (denoting.one {t = t} h e are) = excepted_plain (subst AllFormed e (parts_formed t all.0)) are

-- so is a name class
module _ {default : List ℕ} (legal : IsLegal default) where
  part_plain : (t : Tree) (part : NsPart) → IsFormedSomewhere t → IsSpacePart default t part → IsPlainPart part
  part_plain t part f h =
      let space = subst IsLegal (sym h.space) (space_legal default t legal f) in
      record { legal = space; but = (except_plain space (parts_formed t f) h.but).1 }

  parts_plain : {ts : List Tree} {parts : List NsPart} → AllFormed ts → AreSpaceParts default ts parts → All IsPlainPart parts
  parts_plain all denoting.none = All-nil IsPlainPart
  parts_plain all (denoting.more {t = t} {part = part} {parts = parts} h later) = All-cons IsPlainPart part parts (part_plain t part all.0 h) (parts_plain all.1 later)

  class_plain : (t : Tree) {names : NameClass} → IsFormedSomewhere t → IsNameClass default t names → IsPlainClass names
  class_plain t f (denoting.any h but) = except_plain legal (parts_formed t f) but
  class_plain t f (denoting.space {part = part} h) = ((λ e. cc), All-cons IsPlainPart part [] (part_plain t part f h) (All-nil IsPlainPart))
  class_plain t f (denoting.spaces h hs) = ((λ e. cc), parts_plain (parts_formed t f) hs)

  pub names_plain : (t : Tree) {names : NameClass} {rest : List Tree} → IsFormedSomewhere t → HasNames default t names rest → IsPlainClass names
  names_plain t f (denoting.by_name h) = record { named = h.is_ncname; legal = space_legal default t legal f }
  names_plain t f (denoting.by_part {part = part} no_name no_space e h) = class_plain part (subst AllFormed e (parts_formed t f)).0 h
