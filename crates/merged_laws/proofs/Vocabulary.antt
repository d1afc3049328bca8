-- In what is printed of a library no element has a name that is looked for, and at most 65 elements stand in one another.
use Rattle.std.proofs.Common.{◌≡◌, ◌-◌, ◌+◌, ℕ, List, [], ◌∷◌, map, Option, Some, None, refl, subst, arith}
use Rattle.std.specs.Option.{option_map}
use Rattle.odd_text.specs.Standing.{StandsIn}
use Rattle.odd_tree.specs.Markup.{Markup, all_of}
use Rattle.odd_text.proofs.InList.{stands_first, stands_later}
use Rattle.odd_attributes.specs.declared.att_def.Datatype.{Datatype}
use Rattle.odd_attributes.specs.declared.att_edit.AttEdit.{AttEdit}
use Rattle.odd_attributes.specs.declared.att_edit.AttEdit.TheVariants as edit
use Rattle.odd_attributes.specs.declared.val_edit.ValEdit.{ValEdit}
use Rattle.odd_attributes.specs.declared.val_edit.ValEdit.TheVariants as vals
use Rattle.odd_content.specs.Formed.{AreFormedWithin, IsFormedContent, IsFormedWithin}
use Rattle.odd_content.specs.declared.content.Content.{Content, Empty, Text, Value, Vals, Element, Class, Macro, Any, Sequence', Alternate', Row_of-Content, end_of-Content, more_of-Content}
use Rattle.odd_library.specs.Formed.{IsFormedPart}
use Rattle.odd_library.specs.declared.library.Component.{Component}
use Rattle.odd_library.specs.declared.library.Component.TheVariants as component
use Rattle.odd_text.specs.declared.key.Kind.{Kind}
use Rattle.odd_text.specs.declared.key.Kind.TheVariants as of
use Rattle.rng_types.specs.declared.item.Item.{Item}
use Rattle.rng_types.specs.declared.item.Item.TheVariants as item
use Rattle.rng_types.specs.declared.val_list.ValList.{ValList}
use Rattle.odd_emit.specs.Attributes.{alt_markup, datatype_markup, edit_markup, edits_markup, mark_markup, vals_markup}
use Rattle.odd_emit.specs.Components.{classes_markup, component_markup, member_markup}
use Rattle.odd_emit.specs.Contents.{content_markup, facet_markup, item_markup, list_markup, part_markup, parts_markup, value_markup}
use Rattle.odd_emit.specs.Saying.{present}
use Rattle.merged_laws.proofs.Declarations.{class_inside, element_inside}
use Rattle.merged_laws.proofs.Present.{AllThere, IfThere}
use Rattle.merged_laws.proofs.Sought.{AreOther, IsOther}

-- those that items are made into, and those that are there
all_other : {A : Type 0} (n : ℕ) (f : A → Markup) → (xs : List A) → ((x : A) → StandsIn xs x → IsOther n (f x)) → AreOther n (all_of (map f xs))
all_other n f [] h = tt
all_other n f (x ∷ xs) h = (h x (stands_first x xs), all_other n f xs (λ y s. h y (stands_later x y xs s)))

present_other : (n : ℕ) (ms : List (Option Markup)) → AllThere (IsOther n) ms → AreOther n (all_of (present ms))
present_other n [] h = tt
present_other n (None ∷ ms) h = present_other n ms h.1
present_other n (Some m ∷ ms) h = (h.0, present_other n ms h.1)

-- data and lists of values
item_other : (n : ℕ) (i : Item) → IsOther (n + 2) (item_markup i)
item_other n (item.Key key) = (omega arith, refl, tt)
item_other n (item.Typed k facets) = (omega arith, refl, all_other (n + 2 - 1) facet_markup facets (λ f s. (omega arith, refl, tt)))

list_other : (n : ℕ) (l : ValList) → IsOther (n + 2) (list_markup l)
list_other n l = (omega arith, refl, all_other (n + 2 - 1) value_markup l.values (λ v s. (omega arith, refl, tt)))

-- contents
mutual
  part_other : (left : ℕ) (c : Content) → IsFormedWithin left c → IsOther (left + 2) (part_markup c)
  part_other left Empty f = (omega arith, refl, tt)
  part_other left Text f = (omega arith, refl, tt)
  part_other left (Value i) f = item_other left i
  part_other left (Vals l) f = list_other left l
  part_other left (Element key b) f = (omega arith, refl, tt)
  part_other left (Class key p b) f = (omega arith, refl, tt)
  part_other left (Macro key b) f = (omega arith, refl, tt)
  part_other left (Any c b) f = (omega arith, refl)
  part_other left (Sequence' shape parts b) f =
      let same : left - 1 + 2 ≡ left + 2 - 1 = omega (arith, f.0) in
      (omega arith, refl, subst (λ n. AreOther n (all_of (parts_markup parts))) same (parts_other (left - 1) parts f.1))
  part_other left (Alternate' shape parts b) f =
      let same : left - 1 + 2 ≡ left + 2 - 1 = omega (arith, f.0) in
      (omega arith, refl, subst (λ n. AreOther n (all_of (parts_markup parts))) same (parts_other (left - 1) parts f.1))

  parts_other : {n : _} (left : ℕ) (row : Row_of-Content n) → AreFormedWithin left row → AreOther (left + 2) (all_of (parts_markup row))
  parts_other left end_of-Content f = tt
  parts_other left (more_of-Content part parts) f = (part_other left part f.0, parts_other left parts f.1)

content_other : (c : Content) → IsFormedContent c → IsOther 63 (content_markup c)
content_other c f = (omega arith, refl, (part_other 60 c f, tt))

-- attributes
alt_other : (n : ℕ) (o : Option (List ℕ)) → IfThere (IsOther (n + 1)) (alt_markup o)
alt_other n None = tt
alt_other n (Some x) = (omega arith, refl)

datatype_other : (d : Option Datatype) → IfThere (IsOther 61) (option_map datatype_markup d)
datatype_other None = tt
datatype_other (Some d) = (omega arith, refl, (item_other 58 d.item, tt))

set_other : (l : Option ValList) → IfThere (IsOther 61) (option_map list_markup l)
set_other None = tt
set_other (Some l) = list_other 59 l

vals_other : (v : Option ValEdit) → IfThere (IsOther 61) (option_map vals_markup v)
vals_other None = tt
vals_other (Some (vals.Set l)) = list_other 59 l
vals_other (Some (vals.Change k marks)) = (omega arith, refl, all_other 60 mark_markup marks (λ m s. (omega arith, refl, tt)))
vals_other (Some vals.Delete) = (omega arith, refl, tt)

edit_other : (e : List ℕ × AttEdit) → IsOther 62 (edit_markup e)
edit_other (ident, edit.Set def) = (omega arith, refl, present_other 61 (alt_markup def.alt ∷ option_map datatype_markup def.datatype ∷ option_map list_markup def.vals ∷ []) (alt_other 60 def.alt, (datatype_other def.datatype, (set_other def.vals, tt))))
edit_other (ident, edit.Change fields) = (omega arith, refl, present_other 61 (alt_markup fields.alt ∷ option_map datatype_markup fields.datatype ∷ option_map vals_markup fields.vals ∷ []) (alt_other 60 fields.alt, (datatype_other fields.datatype, (vals_other fields.vals, tt))))
edit_other (ident, edit.Delete) = (omega arith, refl, tt)

edits_other : (edits : List (List ℕ × AttEdit)) → IfThere (IsOther 63) (edits_markup edits)
edits_other [] = tt
edits_other (e ∷ es) = (omega arith, refl, all_other 62 edit_markup (e ∷ es) (λ x s. edit_other x))

-- components
classes_other : (words : List (List ℕ)) → IfThere (IsOther 63) (classes_markup words)
classes_other [] = tt
classes_other (w ∷ ws) = (omega arith, refl, all_other 62 member_markup (w ∷ ws) (λ x s. (omega arith, refl, tt)))

pub component_other : (k : Kind) (ident : List ℕ) (part : Component) → IsFormedPart k part → IsOther 64 (component_markup ident part)
component_other of.Element ident (component.Element part) f =
    (omega arith, refl, present_other 63 (element_inside part) (alt_other 62 part.alt, (classes_other part.classes, (content_other part.content f.content, (edits_other part.atts, tt)))))
component_other of.Class ident (component.Class part) f = (omega arith, refl, present_other 63 (class_inside part) (classes_other part.classes, (edits_other part.atts, tt)))
component_other of.Macro ident (component.Macro part) f = (omega arith, refl, (content_other part.content f.content, tt))
component_other of.Datatype ident (component.Datatype part) f = (omega arith, refl, (content_other part.content f.content.0, tt))
component_other _ ident _ f = absurd f
