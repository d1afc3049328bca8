-- A `datatype` that is printed is read as it, and breaks nothing.
use Rattle.std.proofs.Common.{◌≡◌, ◌||◌, ℕ, true, List, [], ◌∷◌, map, Option, Some, refl, ap, ◌∙◌}
use Rattle.std.specs.Prelude.{codes}
use Rattle.std.specs.Option.{option_map}
use Rattle.odd_tree.specs.Elements.{children_of}
use Rattle.odd_tree.specs.Markup.{Markup}
use Rattle.odd_tree.specs.declared.tree.Tree.{Tree, out-Tree}
use Rattle.odd_tree.proofs.PrintedTrees.{IsPlain, Shows}
use Rattle.rng_types.specs.declared.bounds.Bounds.{Bounds}
use Rattle.rng_types.specs.declared.item.Item.{Item}
use Rattle.odd_forms.specs.Names.{first_named, tei, tei_namespace}
use Rattle.odd_forms.specs.Table.{form_at}
use Rattle.odd_forms.specs.Words.{is_given_among}
use Rattle.odd_forms.specs.declared.element.Element.TheVariants as kind
use Rattle.odd_content.specs.Occurrence.{bounds_in}
use Rattle.odd_attributes.specs.declared.att_def.Datatype.{Datatype}
use Rattle.odd_attributes.specs.Formed.{IsFormedDatatype}
use Rattle.odd_attributes.specs.Giving.{datatype_by}
use Rattle.odd_emit.specs.Attributes.{datatype_markup}
use Rattle.odd_emit.specs.Contents.{bounds_said, item_markup}
use Rattle.merged_laws.proofs.Fits.{child_called, has_tagged}
use Rattle.merged_laws.proofs.Items.{att_item_sound, item_back, item_named, item_plain}
use Rattle.merged_laws.proofs.Often.{bounds_back, bounds_in_order, greatest_formed}
use Rattle.merged_laws.proofs.Present.{AreNamed, IsFoundAs, first_present, has_present, once_present}
use Rattle.merged_laws.proofs.Said.{told}
use Rattle.merged_laws.proofs.Says.{IsSound, Says, says_plain, says_told, sound}
use Rattle.merged_laws.proofs.Told.{name_of, tag_said}

-- what is in it, as the one place of a `dataRef`
abbrev places : List (List ℕ)
places = codes "dataRef" ∷ []

abbrev held : Datatype → List (Option Markup)
held d = Some (item_markup d.item) ∷ []

held_named : (d : Datatype) → AreNamed places (held d)
held_named d = (item_named d.item, tt)

-- it is the reference that may stand there
item_is : (i : Item) → child_called kind.Datatype (tei (name_of (item_markup i))) ≡ Some kind.AttDataRef
item_is i = ap (λ name. child_called kind.Datatype (tei name)) (item_named i)

module _ (d : Datatype) (f : IsFormedDatatype d) where
  ref_there : (has_tagged kind.AttDataRef (map tag_said (item_markup d.item ∷ [])) || is_given_among [] (told (bounds_said d.bounds) [])) ≡ true
  ref_there = ap (λ b. b || is_given_among [] (told (bounds_said d.bounds) [])) (has_present (codes "dataRef") places (held d) (held_named d) refl)

  datatype_says : Says kind.Datatype (bounds_said d.bounds) (item_markup d.item ∷ [])
  datatype_says = record {
    sayable = refl;
    right = refl;
    formed = (f.bounds.least, (greatest_formed d.bounds.max f.bounds.greatest, tt));
    met = λ binds. (bounds_in_order d.bounds f.bounds, (ref_there, tt));
    few = once_present (form_at kind.Datatype).once places (held d) (held_named d) refl;
  }

  -- its markup is plain
  pub datatype_plain : IsPlain (datatype_markup d)
  datatype_plain = says_plain kind.Datatype (bounds_said d.bounds) (item_markup d.item ∷ []) datatype_says (item_plain d.item f.item, tt)

  -- it breaks nothing
  pub datatype_sound : (left : ℕ) → IsSound kind.Datatype left (datatype_markup d)
  datatype_sound left =
      sound kind.Datatype left (bounds_said d.bounds) (item_markup d.item ∷ []) datatype_says (λ e none. cc)
      ((kind.AttDataRef, item_is d.item, att_item_sound left d.item f.item), tt)

  -- a tree that shows it gives it
  pub datatype_back : (t : Tree) → Shows tei_namespace [] (datatype_markup d) t → datatype_by t (first_named (codes "dataRef") t) ≡ Some d
  datatype_back t s =
      let k = says_told kind.Datatype (bounds_said d.bounds) (item_markup d.item ∷ []) t datatype_says s in
      let ref : IsFoundAs (codes "dataRef") (children_of t) (Some (item_markup d.item)) (first_named (codes "dataRef") t) =
      first_present (codes "dataRef") places (held d) (children_of t) (held_named d) refl k.children in
      let made : Item → Bounds → Datatype = λ item bounds. record { item = item; bounds = bounds } in
      ap (datatype_by t) ref.1 ∙ ap (option_map (λ item. made item (bounds_in (out-Tree t).attrs))) (item_back d.item ref.0 f.item ref.3)
      ∙ ap (λ bounds. Some (made d.item bounds)) (bounds_back t d.bounds f.bounds (k.given (codes "minOccurs")) (k.given (codes "maxOccurs")))
