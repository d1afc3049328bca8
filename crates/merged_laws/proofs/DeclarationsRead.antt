-- A tree that shows the declaration of a component is read as a spec that adds the component, and as an item it breaks nothing.
use Rattle.std.proofs.Common.{◌≡◌, ℕ, Bool, true, false, ◌&&◌, if◌then◌else◌, List, [], ◌∷◌, Some, None, refl, sym, ap, subst, ◌∙◌}
use Rattle.std.specs.Prelude.{codes, unwrap_or}
use Rattle.std.specs.Cmp.Lexicographic.{same_text}
use Rattle.std.specs.Option.{option_map}
use Rattle.std.proofs.lemmas.Bool.{both_ways}
use Rattle.std.proofs.lemmas.Option.{same_Some}
use Rattle.odd_text.specs.declared.key.Key.{Key}
use Rattle.odd_text.specs.declared.key.Kind.{Kind}
use Rattle.odd_text.specs.declared.key.Kind.TheVariants as of
use Rattle.odd_text.specs.declared.name.Bind.{Bind}
use Rattle.odd_tokens.specs.Characters.{IsNCName}
use Rattle.odd_text.specs.Same.{is_same}
use Rattle.odd_tree.specs.Elements.{children_of, given, within}
use Rattle.odd_tree.specs.Markup.{Markup}
use Rattle.odd_tree.specs.declared.tree.Tree.{Tree, out-Tree}
use Rattle.odd_tree.proofs.PrintedTrees.{IsPlain, Shows}
use Rattle.odd_decls.specs.Declares.{IsReadAs, mode_given, mode_named, namespace_by}
use Rattle.odd_decls.specs.Items.{IsItem}
use Rattle.odd_decls.specs.Offences.{ItemFault}
use Rattle.odd_forms.proofs.Forms.{named_placed}
use Rattle.odd_forms.specs.Deep.{DeepFault}
use Rattle.odd_forms.specs.Names.{is_one_of, tei, tei_namespace}
use Rattle.odd_text.specs.Same.{is_among}
use Rattle.odd_forms.specs.declared.element.Element.{Element}
use Rattle.odd_forms.specs.declared.element.Element.TheVariants as kind
use Rattle.odd_items.specs.Groups.{group_names}
use Rattle.odd_library.specs.Formed.{IsFormedClass, IsFormedElement, IsFormedOther, IsFormedPart}
use Rattle.odd_library.specs.Library.{component_of}
use Rattle.odd_library.specs.declared.library.ClassPart.{ClassPart}
use Rattle.odd_library.specs.declared.library.Component.{Component}
use Rattle.odd_library.specs.declared.library.Component.TheVariants as component
use Rattle.odd_library.specs.declared.library.ElementPart.{ElementPart}
use Rattle.odd_library.specs.declared.library.OtherPart.{OtherPart}
use Rattle.odd_library.specs.declared.spec.Mode.TheVariants as mode
use Rattle.odd_library.specs.declared.spec.Spec.{Spec}
use Rattle.odd_emit.specs.Components.{class_markup, component_markup, element_markup, module_value, ns_value, other_markup, type_word}
use Rattle.odd_emit.specs.Saying.{a_text, present, written}
use Rattle.merged_laws.proofs.AttributeLists.{edits_given}
use Rattle.merged_laws.proofs.Declarations.{class_inside, class_named, class_names, class_plain, class_said, class_says, class_sound, data_plain, data_says, data_sound, element_inside, element_named, element_names, element_plain, element_said, element_says, element_sound, macro_plain, macro_says, macro_sound, other_inside, other_named, other_names, other_said}
use Rattle.merged_laws.proofs.Fits.{child_called}
use Rattle.merged_laws.proofs.Given.{alt_there, class_no_content, classes_again, classes_there, content_there, data_no_classes, macro_no_classes, membership_if}
use Rattle.merged_laws.proofs.Says.{IsSound, says_told}
use Rattle.merged_laws.proofs.Told.{IsTold, name_of, shown_name}

-- the item is read as a declaration of the component by itself, under any declarations around it
pub record IsReadItem (item : Tree) (key : Key) (part : Component) : Type 0 where
  pub spec : Spec
  pub is : (around : List Bind) → IsReadAs tei_namespace (record { around = around; element = item }) spec
  pub keyed : spec.key ≡ key
  pub adds : spec.mode ≡ mode.Add
  pub made : component_of spec ≡ part

-- an element of the name of a declaration is that item
item_is : (e : Element) (local : List ℕ) (item : Tree) → (out-Tree item).name ≡ tei local → child_called kind.SchemaSpec (tei local) ≡ Some e → is_among group_names local ≡ false → IsItem e item
item_is e local item named is other =
    (ap (child_called kind.SchemaSpec) named ∙ is, λ group. both_ways (is_one_of group_names item) (ap (λ n. is_same n.ns tei_namespace && is_among group_names n.local) named ∙ other) group)

-- it breaks nothing where its markup is sound
item_free : (e : Element) (m : Markup) (item : Tree) → child_called kind.SchemaSpec (tei (name_of m)) ≡ Some e → IsSound e 60 m → Shows tei_namespace [] m item
    → (around : List Bind) (rule : ℕ) → ItemFault around item rule → ⊥
item_free e m item is sound s around rule (ItemFault.misplaced f) = named_placed kind.SchemaSpec e item rule (ap (child_called kind.SchemaSpec) (shown_name m item s) ∙ is) f
item_free e m item is sound s around rule (ItemFault.deep other called f) =
    let same : other ≡ e = same_Some _ _ (sym called.0 ∙ ap (child_called kind.SchemaSpec) (shown_name m item s) ∙ is) in
    sound around item s rule (subst (λ k. DeepFault k 60 around item rule) same f)

-- attributes read back

module_back : (m : List ℕ) → unwrap_or (option_map written (module_value m)) [] ≡ m
module_back [] = refl
module_back (c ∷ cs) = refl

ns_back : (ns : List ℕ) → unwrap_or (option_map written (ns_value ns)) tei_namespace ≡ ns
ns_back ns =
    elim (is_same ns tei_namespace) as (λ b. is_same ns tei_namespace ≡ b → unwrap_or (option_map written (if b then None else Some (a_text ns))) tei_namespace ≡ ns) [
      | true ↦ λ e. sym (same_text ns tei_namespace (sym e))
      | false ↦ λ e. refl
    ] refl

type_back : (gives : Bool) → is_same (type_word gives) (codes "atts") ≡ gives
type_back true = refl
type_back false = refl

-- it adds
adds_given : (item : Tree) → given item (codes "mode") ≡ Some (codes "add") → mode_given item ≡ mode.Add
adds_given item h = ap (λ o. mode_named (unwrap_or o (codes "add"))) h

module_given : (item : Tree) (m : List ℕ) → given item (codes "module") ≡ option_map written (module_value m) → m ≡ unwrap_or (given item (codes "module")) []
module_given item m h = sym (ap (λ o. unwrap_or o []) h ∙ module_back m)

-- Each kind of component

abbrev element_spec : List ℕ → ElementPart → Spec
element_spec ident part = record {
  key = record { kind = of.Element; ident = ident };
  mode = mode.Add;
  «module» = part.«module»;
  ns = Some part.ns;
  alt = part.alt;
  gives = None;
  classes = membership_if part.classes;
  content = Some part.content;
  atts = part.atts;
}

abbrev class_spec : List ℕ → ClassPart → Spec
class_spec ident part = record {
  key = record { kind = of.Class; ident = ident };
  mode = mode.Add;
  «module» = part.«module»;
  ns = None;
  alt = None;
  gives = Some part.gives;
  classes = membership_if part.classes;
  content = None;
  atts = part.atts;
}

abbrev other_spec : Kind → List ℕ → OtherPart → Spec
other_spec k ident part = record {
  key = record { kind = k; ident = ident };
  mode = mode.Add;
  «module» = part.«module»;
  ns = None;
  alt = None;
  gives = None;
  classes = None;
  content = Some part.content;
  atts = [];
}

element_read : (ident : List ℕ) (part : ElementPart) (item : Tree) → IsNCName ident → IsFormedElement part → Shows tei_namespace [] (element_markup ident part) item
    → IsReadItem item (record { kind = of.Element; ident = ident }) (component.Element part)
element_read ident part item n f s = record {
  spec = element_spec ident part;
  is = λ around. record {
    is_spec = record { element = kind.ElementSpec; is_item = item_is kind.ElementSpec (codes "elementSpec") item told.named refl refl; of_kind = refl; ident = told.given (codes "ident"); named = n };
    of_mode = sym (adds_given item (told.given (codes "mode")));
    of_module = module_given item part.«module» (told.given (codes "module"));
    ns = sym (ap (λ m. namespace_by m tei_namespace item) (adds_given item (told.given (codes "mode"))) ∙ ap (λ o. Some (unwrap_or o tei_namespace)) (told.given (codes "ns")) ∙ ap Some (ns_back part.ns));
    alt = sym (alt_there element_names (element_inside part) item (element_named part) refl told.children part.alt refl f.alt);
    gives = refl;
    atts = edits_given part.atts element_names (element_inside part) item f.atts (element_named part) refl told.children refl;
    children = record {
      content = content_there element_names (element_inside part) item (element_named part) refl told.children kind.ElementSpec kind.Content (within around item) part.content refl refl f.content;
      classes = classes_there element_names (element_inside part) item (element_named part) refl told.children kind.ElementSpec part.classes refl refl f.classes;
    };
  };
  keyed = refl;
  adds = refl;
  made = ap (λ ws. component.Element (record { «module» = part.«module»; ns = part.ns; alt = part.alt; classes = ws; content = part.content; atts = part.atts })) (classes_again part.classes);
}
  where
    told : IsTold (codes "elementSpec") (element_said ident part) (present (element_inside part)) item
    told = says_told kind.ElementSpec (element_said ident part) (present (element_inside part)) item (element_says ident part n f) s

class_read : (ident : List ℕ) (part : ClassPart) (item : Tree) → IsNCName ident → IsFormedClass part → Shows tei_namespace [] (class_markup ident part) item
    → IsReadItem item (record { kind = of.Class; ident = ident }) (component.Class part)
class_read ident part item n f s = record {
  spec = class_spec ident part;
  is = λ around. record {
    is_spec = record { element = kind.ClassSpec; is_item = item_is kind.ClassSpec (codes "classSpec") item told.named refl refl; of_kind = refl; ident = told.given (codes "ident"); named = n };
    of_mode = sym (adds_given item (told.given (codes "mode")));
    of_module = module_given item part.«module» (told.given (codes "module"));
    ns = refl;
    alt = refl;
    gives = sym (ap (option_map (λ word. is_same word (codes "atts"))) (told.given (codes "type")) ∙ ap Some (type_back part.gives));
    atts = edits_given part.atts class_names (class_inside part) item f.atts (class_named part) refl told.children refl;
    children = record {
      content = class_no_content (within around item) (children_of item);
      classes = classes_there class_names (class_inside part) item (class_named part) refl told.children kind.ClassSpec part.classes refl refl f.classes;
    };
  };
  keyed = refl;
  adds = refl;
  made = ap (λ ws. component.Class (record { «module» = part.«module»; gives = part.gives; classes = ws; atts = part.atts })) (classes_again part.classes);
}
  where
    told : IsTold (codes "classSpec") (class_said ident part) (present (class_inside part)) item
    told = says_told kind.ClassSpec (class_said ident part) (present (class_inside part)) item (class_says ident part n f) s

macro_read : (ident : List ℕ) (part : OtherPart) (item : Tree) → IsNCName ident → IsFormedOther of.Macro part → Shows tei_namespace [] (other_markup (codes "macroSpec") ident part) item
    → IsReadItem item (record { kind = of.Macro; ident = ident }) (component.Macro part)
macro_read ident part item n f s = record {
  spec = other_spec of.Macro ident part;
  is = λ around. record {
    is_spec = record { element = kind.MacroSpec; is_item = item_is kind.MacroSpec (codes "macroSpec") item told.named refl refl; of_kind = refl; ident = told.given (codes "ident"); named = n };
    of_mode = sym (adds_given item (told.given (codes "mode")));
    of_module = module_given item part.«module» (told.given (codes "module"));
    ns = refl;
    alt = refl;
    gives = refl;
    atts = refl;
    children = record {
      content = content_there other_names (other_inside part) item (other_named part) refl told.children kind.MacroSpec kind.Content (within around item) part.content refl refl f.content;
      classes = macro_no_classes (children_of item);
    };
  };
  keyed = refl;
  adds = refl;
  made = refl;
}
  where
    told : IsTold (codes "macroSpec") (other_said ident part) (present (other_inside part)) item
    told = says_told kind.MacroSpec (other_said ident part) (present (other_inside part)) item (macro_says ident part n f.of_module) s

data_read : (ident : List ℕ) (part : OtherPart) (item : Tree) → IsNCName ident → IsFormedOther of.Datatype part → Shows tei_namespace [] (other_markup (codes "dataSpec") ident part) item
    → IsReadItem item (record { kind = of.Datatype; ident = ident }) (component.Datatype part)
data_read ident part item n f s = record {
  spec = other_spec of.Datatype ident part;
  is = λ around. record {
    is_spec = record { element = kind.DataSpec; is_item = item_is kind.DataSpec (codes "dataSpec") item told.named refl refl; of_kind = refl; ident = told.given (codes "ident"); named = n };
    of_mode = sym (adds_given item (told.given (codes "mode")));
    of_module = module_given item part.«module» (told.given (codes "module"));
    ns = refl;
    alt = refl;
    gives = refl;
    atts = refl;
    children = record {
      content = content_there other_names (other_inside part) item (other_named part) refl told.children kind.DataSpec kind.DataContent (within around item) part.content refl refl f.content.0;
      classes = data_no_classes (children_of item);
    };
  };
  keyed = refl;
  adds = refl;
  made = refl;
}
  where
    told : IsTold (codes "dataSpec") (other_said ident part) (present (other_inside part)) item
    told = says_told kind.DataSpec (other_said ident part) (present (other_inside part)) item (data_says ident part n f.of_module) s

-- Any component

-- its markup is plain
pub component_plain : (k : Kind) (ident : List ℕ) (part : Component) → IsNCName ident → IsFormedPart k part → IsPlain (component_markup ident part)
component_plain of.Element ident (component.Element part) n f = element_plain ident part n f
component_plain of.Class ident (component.Class part) n f = class_plain ident part n f
component_plain of.Macro ident (component.Macro part) n f = macro_plain ident part n f
component_plain of.Datatype ident (component.Datatype part) n f = data_plain ident part n f
component_plain _ ident _ n f = absurd f

-- a tree that shows it is read as it
pub component_read : (k : Kind) (ident : List ℕ) (part : Component) (item : Tree) → IsNCName ident → IsFormedPart k part → Shows tei_namespace [] (component_markup ident part) item
    → IsReadItem item (record { kind = k; ident = ident }) part
component_read of.Element ident (component.Element part) item n f s = element_read ident part item n f s
component_read of.Class ident (component.Class part) item n f s = class_read ident part item n f s
component_read of.Macro ident (component.Macro part) item n f s = macro_read ident part item n f s
component_read of.Datatype ident (component.Datatype part) item n f s = data_read ident part item n f s
component_read _ ident _ item n f s = absurd f

-- and as an item breaks nothing
pub component_free : (k : Kind) (ident : List ℕ) (part : Component) (item : Tree) → IsNCName ident → IsFormedPart k part → Shows tei_namespace [] (component_markup ident part) item
    → (around : List Bind) (rule : ℕ) → ItemFault around item rule → ⊥
component_free of.Element ident (component.Element part) item n f s = item_free kind.ElementSpec (element_markup ident part) item refl (element_sound ident part n f) s
component_free of.Class ident (component.Class part) item n f s = item_free kind.ClassSpec (class_markup ident part) item refl (class_sound ident part n f) s
component_free of.Macro ident (component.Macro part) item n f s = item_free kind.MacroSpec (other_markup (codes "macroSpec") ident part) item refl (macro_sound ident part n f) s
component_free of.Datatype ident (component.Datatype part) item n f s = item_free kind.DataSpec (other_markup (codes "dataSpec") ident part) item refl (data_sound ident part n f) s
component_free _ ident _ item n f s = absurd f
