-- The content of a datatype that breaks nothing says what one says that says the same in another order.
use Rattle.std.proofs.Common.{◌≡◌, ◌⊎◌, inl, inr, ⊎_elim, ℕ, true, ◌&&◌, List, ◌++◌, [], ◌∷◌, Option, Some, None, refl, sym, ap, ◌∙◌}
use Rattle.std.specs.Prelude.{codes, find}
use Rattle.odd_text.specs.declared.name.Bind.{Bind}
use Rattle.odd_text.specs.declared.name.Name.{Name}
use Rattle.odd_text.specs.Same.{is_same}
use Rattle.odd_text.specs.Standing.{StandsIn}
use Rattle.odd_tree.specs.Elements.{children_of}
use Rattle.odd_tree.specs.declared.tree.Tree.{Tree, out-Tree}
use Rattle.odd_forms.specs.Children.{IsChild}
use Rattle.odd_forms.specs.Deep.{DeepFault}
use Rattle.odd_forms.specs.Names.{HasName, is_one_of, tei_namespace}
use Rattle.odd_forms.specs.Table.{data_parts, form_at}
use Rattle.odd_text.specs.Same.{is_among}
use Rattle.odd_forms.specs.declared.element.Element.{Element}
use Rattle.odd_forms.specs.declared.element.Element.TheVariants as element
use Rattle.odd_forms.proofs.Children.{child_named}
use Rattle.odd_content.specs.Giving.{content_of, part_named}
use Rattle.order_laws.specs.Reordered.{IsReordered}
use Rattle.order_laws.proofs.GivenThere.{AllParts, AreKept, IsSoundAs, IsSoundPart, content_by, sound_kept}

-- the part breaks nothing, where an alternation may be one of data
abbrev IsSoundData : Element → Tree → Type 0
IsSoundData kind t = IsSoundPart kind t ⊎ ((kind ≡ element.Alternate) × (left : ℕ) × (around : List Bind) × IsSoundAs element.DataAlternate left around t)

-- which part of the content of a datatype an element of the name is
abbrev data_named : Name → Option Element
data_named name = find (λ e. is_same name.ns tei_namespace && is_among ((form_at e).name ∷ []) name.local) (data_parts ++ [])

-- the kind of a part there is the one that it has in other contents, but that an alternation is one of data
abbrev IsDataPart : Element → Tree → Type 0
IsDataPart kind t = IsChild element.DataContent kind t ⊎ ((kind ≡ element.Alternate) × IsChild element.DataContent element.DataAlternate t)

-- by its name
data_part : (kind : Element) (t : Tree) → HasName (form_at kind).name t → part_named (out-Tree t).name ≡ Some kind → IsDataPart kind t
data_part element.Sequence t h n = inl (ap data_named h)
data_part element.Alternate t h n = inr (refl, ap data_named h)
data_part element.ElementRef t h n = inl (ap data_named h)
data_part element.ClassRef t h n = inl (ap data_named h)
data_part element.MacroRef t h n = inl (ap data_named h)
data_part element.AnyElement t h n = inl (ap data_named h)
data_part element.TextNode t h n = inl (ap data_named h)
data_part element.Empty t h n = inl (ap data_named h)
data_part element.DataRef t h n = inl (ap data_named h)
data_part element.ValList t h n = inl (ap data_named h)
data_part element.ElementRefItem t h n = let e : Some element.ElementRef ≡ Some element.ElementRefItem = sym (ap part_named h) ∙ n in cc
data_part element.ClassRefItem t h n = let e : Some element.ClassRef ≡ Some element.ClassRefItem = sym (ap part_named h) ∙ n in cc
data_part element.MacroRefItem t h n = let e : Some element.MacroRef ≡ Some element.MacroRefItem = sym (ap part_named h) ∙ n in cc
data_part element.DataRefItem t h n = let e : Some element.DataRef ≡ Some element.DataRefItem = sym (ap part_named h) ∙ n in cc
data_part element.AttDataRef t h n = let e : Some element.DataRef ≡ Some element.AttDataRef = sym (ap part_named h) ∙ n in cc
data_part element.AttValList t h n = let e : Some element.ValList ≡ Some element.AttValList = sym (ap part_named h) ∙ n in cc
data_part element.DataAlternate t h n = let e : Some element.Alternate ≡ Some element.DataAlternate = sym (ap part_named h) ∙ n in cc
data_part kind t h n = let e : None ≡ Some kind = sym (ap part_named h) ∙ n in cc

-- so each part breaks nothing in a content or an alternation that does not
parts_sound : (t : Tree) → ((kind : Element) (child : Tree) → StandsIn (children_of t) child → IsChild element.DataContent kind child → IsSoundPart kind child)
    → AllParts IsSoundData (children_of t)
parts_sound t sound kind child s n =
    ⊎_elim (λ is. inl (sound kind child s is)) (λ is. let p = sound element.DataAlternate child s is.1 in inr (is.0, p.0, p.1, p.2)) (data_part kind child (child_named element.Content kind child n) n)

-- and so does each part in it, at any depth
data_kept : AreKept IsSoundData
data_kept = record {
  values = λ t fine. ⊎_elim (sound_kept.values t) (λ f. let e : element.ValList ≡ element.Alternate = f.0 in cc) fine;
  sequence = λ t fine. ⊎_elim (λ f kind child s n. inl (sound_kept.sequence t f kind child s n)) (λ f. let e : element.Sequence ≡ element.Alternate = f.0 in cc) fine;
  alternate = λ t fine.
      ⊎_elim (λ f kind child s n. inl (sound_kept.alternate t f kind child s n))
      (λ f. parts_sound t (λ kind child s is. (_, _, λ rule g. f.3 rule (DeepFault.inside kind child s is g)))) fine;
}

-- the content of a datatype that breaks nothing, however deep the levels in it may be
pub data_content_there : (left : ℕ) (around : List Bind) {t u : Tree} → IsReordered t u → is_one_of (codes "content" ∷ []) t ≡ true → IsSoundAs element.DataContent left around t → content_of around t ≡ content_of around u
data_content_there left around {t} r is sound =
    content_by IsSoundData data_kept around r is (parts_sound t (λ kind child s is. (_, _, λ rule g. sound rule (DeepFault.inside kind child s is g))))
