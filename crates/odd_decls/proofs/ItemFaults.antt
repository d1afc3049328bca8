-- What an item breaks by itself, where it is an element of the table, a group, or none of these.
use Rattle.std.proofs.Common.{◌≡◌, ℕ, ◌&&◌, List, [], ◌∷◌, ◌++◌, Option, Some, None, IsTrue, codes, find, sym, ap, subst, ◌∙◌}
use Rattle.std.proofs.lemmas.Option.{same_Some}
use Rattle.odd_forms.proofs.Children.{child_named, named_one, one_named}
use Rattle.odd_forms.proofs.Forms.{named_placed}
use Rattle.odd_text.proofs.Least.{least_same}
use Rattle.odd_forms.specs.Deep.{DeepFault}
use Rattle.odd_forms.specs.Faults.{ChildFault, child_in}
use Rattle.odd_text.specs.Least.{IsLeast}
use Rattle.odd_forms.specs.Names.{is_one_of, tei_namespace}
use Rattle.odd_forms.specs.Table.{form_at}
use Rattle.odd_text.specs.Same.{is_among}
use Rattle.odd_forms.specs.declared.element.Element.{Element}
use Rattle.odd_forms.specs.declared.element.Element.TheVariants as element
use Rattle.odd_items.specs.Groups.{group_names}
use Rattle.odd_text.specs.declared.name.Bind.{Bind}
use Rattle.odd_text.specs.Same.{is_same}
use Rattle.odd_tree.specs.declared.tree.Tree.{Tree}
use Rattle.odd_decls.specs.Items.{IsItem}
use Rattle.odd_decls.specs.Offences.{ItemFault}

-- an element of this name is a group in a `schemaSpec`
pub group_placed : (t : Tree) → IsTrue (is_one_of group_names t) → child_in (form_at element.SchemaSpec) t ≡ Some element.SpecGrp
group_placed t h =
    ap (λ n. find (λ e. is_same n.ns tei_namespace && is_among ((form_at e).name ∷ []) n.local) ((form_at element.SchemaSpec).many ++ (form_at element.SchemaSpec).once))
    (one_named (codes "specGrp") t h)

-- and a group has this name
pub placed_group : (t : Tree) → child_in (form_at element.SchemaSpec) t ≡ Some element.SpecGrp → IsTrue (is_one_of group_names t)
placed_group t is = named_one (codes "specGrp") t (child_named element.SchemaSpec element.SpecGrp t is)

-- any other element of the table is an item
pub item_placed : (t : Tree) (e : Element) → child_in (form_at element.SchemaSpec) t ≡ Some e → (e ≡ element.SpecGrp → ⊥) → IsItem e t
item_placed t e is other = (is, λ group. other (same_Some _ _ (sym is ∙ group_placed t group)))

-- a group breaks nothing by itself
pub group_least : (around : List Bind) (item : Tree) → child_in (form_at element.SchemaSpec) item ≡ Some element.SpecGrp → IsLeast (ItemFault around item) None
group_least around item is rule (ItemFault.misplaced f) = named_placed element.SchemaSpec element.SpecGrp item rule is f
group_least around item is rule (ItemFault.deep e other f) = other.1 (placed_group item is)

-- an item that is an element of the table breaks what it breaks at any depth
pub item_least : (around : List Bind) (item : Tree) (e : Element) (a : Option ℕ) → IsItem e item → IsLeast (DeepFault e 60 around item) a → IsLeast (ItemFault around item) a
item_least around item e a is = least_same (DeepFault e 60 around item) (ItemFault around item) a (λ rule f. ItemFault.deep e is f) back
  where
    back : (rule : ℕ) → ItemFault around item rule → DeepFault e 60 around item rule
    back rule (ItemFault.misplaced f) = absurd (named_placed element.SchemaSpec e item rule is.0 f)
    back rule (ItemFault.deep k also f) = subst (λ x. DeepFault x 60 around item rule) (same_Some _ _ (sym also.0 ∙ is.0)) f

-- and any other breaks what it breaks by standing there
pub other_least : (around : List Bind) (item : Tree) (a : Option ℕ) → child_in (form_at element.SchemaSpec) item ≡ None → IsLeast (ChildFault (form_at element.SchemaSpec) item) a
    → IsLeast (ItemFault around item) a
other_least around item a not = least_same (ChildFault (form_at element.SchemaSpec) item) (ItemFault around item) a (λ rule f. ItemFault.misplaced f) back
  where
    back : (rule : ℕ) → ItemFault around item rule → ChildFault (form_at element.SchemaSpec) item rule
    back rule (ItemFault.misplaced f) = f
    back rule (ItemFault.deep e is f) = let no : Some e ≡ None = sym is.0 ∙ not in cc
