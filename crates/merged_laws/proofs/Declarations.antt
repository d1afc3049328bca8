-- The declaration that is printed of a component says what is right by its form: its markup is plain, and a tree that shows it breaks nothing.
use Rattle.std.proofs.Common.{◌≡◌, ℕ, Bool, true, false, if◌then◌else◌, List, [], ◌∷◌, Option, Some, None, refl, sym, subst, ⊎_elim}
use Rattle.std.specs.Prelude.{IsTrue, codes}
use Rattle.std.specs.Option.{IfSome}
use Rattle.odd_tokens.proofs.Ascii.{is_printable, ncname_legal}
use Rattle.odd_tokens.specs.Characters.{IsLegal, IsNCName}
use Rattle.odd_text.specs.Same.{is_same}
use Rattle.odd_tree.specs.Markup.{Markup}
use Rattle.odd_tree.proofs.PrintedTrees.{IsPlain}
use Rattle.odd_forms.specs.Form as kinds
use Rattle.odd_forms.specs.Names.{tei, tei_namespace}
use Rattle.odd_forms.specs.Table.{form_at}
use Rattle.odd_text.specs.Same.{is_among}
use Rattle.odd_forms.specs.declared.element.Element.{Element}
use Rattle.odd_forms.specs.declared.element.Element.TheVariants as kind
use Rattle.odd_library.specs.Formed.{IsFormedClass, IsFormedElement, IsFormedOther, IsModule}
use Rattle.odd_library.specs.declared.library.ClassPart.{ClassPart}
use Rattle.odd_library.specs.declared.library.ElementPart.{ElementPart}
use Rattle.odd_library.specs.declared.library.OtherPart.{OtherPart}
use Rattle.odd_library.specs.FormedMembers.{AreClasses}
use Rattle.odd_text.specs.declared.key.Kind.TheVariants as of
use Rattle.odd_emit.specs.Attributes.{alt_markup, edits_markup, ident_said}
use Rattle.odd_emit.specs.Components.{class_markup, classes_markup, element_markup, module_said, module_value, ns_value, other_markup, type_word}
use Rattle.odd_emit.specs.Contents.{content_markup, mode_said}
use Rattle.odd_emit.specs.Saying.{Said, a_text, a_word, present, says, says_if}
use Rattle.merged_laws.proofs.AttributeLists.{edits_named, edits_placed, edits_plain}
use Rattle.merged_laws.proofs.ContentRead.{content_plain, content_sound}
use Rattle.merged_laws.proofs.DataContentRead.{data_content_sound}
use Rattle.merged_laws.proofs.Fits.{IsFormedIfThere, child_called, fits}
use Rattle.merged_laws.proofs.Lines.{line_plain, line_sound, word_collapsed}
use Rattle.merged_laws.proofs.Memberships.{classes_plain, classes_sound}
use Rattle.merged_laws.proofs.Present.{AreNamed, IfThere, all_present, once_present}
use Rattle.merged_laws.proofs.Says.{IsPlaced, IsSound, Says, says_plain, sound}
use Rattle.merged_laws.proofs.Told.{name_of}
use Rattle.merged_laws.proofs.Values.{name_word}

-- What they say

abbrev pub element_said : List ℕ → ElementPart → List Said
element_said ident part = ident_said ident ∷ module_said part.«module» ∷ mode_said (codes "add") ∷ says_if (codes "ns") (ns_value part.ns) ∷ []

abbrev pub class_said : List ℕ → ClassPart → List Said
class_said ident part = ident_said ident ∷ says (codes "type") (a_word (type_word part.gives)) ∷ module_said part.«module» ∷ mode_said (codes "add") ∷ []

abbrev pub other_said : List ℕ → OtherPart → List Said
other_said ident part = ident_said ident ∷ module_said part.«module» ∷ mode_said (codes "add") ∷ []

-- and their children, each with its name where it is there
abbrev pub element_inside : ElementPart → List (Option Markup)
element_inside part = alt_markup part.alt ∷ classes_markup part.classes ∷ Some (content_markup part.content) ∷ edits_markup part.atts ∷ []

abbrev pub class_inside : ClassPart → List (Option Markup)
class_inside part = classes_markup part.classes ∷ edits_markup part.atts ∷ []

abbrev pub other_inside : OtherPart → List (Option Markup)
other_inside part = Some (content_markup part.content) ∷ []

abbrev pub element_names : List (List ℕ)
element_names = codes "altIdent" ∷ codes "classes" ∷ codes "content" ∷ codes "attList" ∷ []

abbrev pub class_names : List (List ℕ)
class_names = codes "classes" ∷ codes "attList" ∷ []

abbrev pub other_names : List (List ℕ)
other_names = codes "content" ∷ []

alt_named : (o : Option (List ℕ)) → IfThere (λ m. name_of m ≡ codes "altIdent") (alt_markup o)
alt_named None = tt
alt_named (Some x) = refl

classes_named : (words : List (List ℕ)) → IfThere (λ m. name_of m ≡ codes "classes") (classes_markup words)
classes_named [] = tt
classes_named (w ∷ ws) = refl

pub element_named : (part : ElementPart) → AreNamed element_names (element_inside part)
element_named part = (alt_named part.alt, (classes_named part.classes, (refl, (edits_named part.atts, tt))))

pub class_named : (part : ClassPart) → AreNamed class_names (class_inside part)
class_named part = (classes_named part.classes, (edits_named part.atts, tt))

pub other_named : (part : OtherPart) → AreNamed other_names (other_inside part)
other_named part = (refl, tt)

-- What they say is right

module_formed : (m : List ℕ) → IsModule m → IsFormedIfThere kinds.name (module_value m)
module_formed [] h = tt
module_formed (c ∷ cs) h = ⊎_elim (λ e. cc) (λ n. n) h

ns_formed : (ns : List ℕ) → IsLegal ns → IsFormedIfThere kinds.text (ns_value ns)
ns_formed ns h = elim (is_same ns tei_namespace) as (λ b. IsFormedIfThere kinds.text (if b then None else Some (a_text ns))) [
  | true ↦ tt
  | false ↦ h
]

element_right : (ident m ns : List ℕ) → fits (form_at kind.ElementSpec) (ident_said ident ∷ module_said m ∷ mode_said (codes "add") ∷ says_if (codes "ns") (ns_value ns) ∷ []) ≡ true
element_right ident [] ns = refl
element_right ident (c ∷ cs) ns = refl

class_right : (ident m : List ℕ) (gives : Bool) → fits (form_at kind.ClassSpec) (ident_said ident ∷ says (codes "type") (a_word (type_word gives)) ∷ module_said m ∷ mode_said (codes "add") ∷ []) ≡ true
class_right ident [] gives = refl
class_right ident (c ∷ cs) gives = refl

macro_right : (ident m : List ℕ) → fits (form_at kind.MacroSpec) (ident_said ident ∷ module_said m ∷ mode_said (codes "add") ∷ []) ≡ true
macro_right ident [] = refl
macro_right ident (c ∷ cs) = refl

data_right : (ident m : List ℕ) → fits (form_at kind.DataSpec) (ident_said ident ∷ module_said m ∷ mode_said (codes "add") ∷ []) ≡ true
data_right ident [] = refl
data_right ident (c ∷ cs) = refl

type_among : (gives : Bool) → IsTrue (is_among (codes "model" ∷ codes "atts" ∷ []) (type_word gives))
type_among true = refl
type_among false = refl

type_printable : (gives : Bool) → IsTrue (is_printable (type_word gives))
type_printable true = refl
type_printable false = refl

pub element_says : (ident : List ℕ) (part : ElementPart) → IsNCName ident → IsFormedElement part → Says kind.ElementSpec (element_said ident part) (present (element_inside part))
element_says ident part n f = record {
  sayable = refl;
  right = element_right ident part.«module» part.ns;
  formed = (n, (module_formed part.«module» f.of_module, ((refl, refl), (ns_formed part.ns f.ns, tt))));
  met = λ binds. tt;
  few = once_present (form_at kind.ElementSpec).once element_names (element_inside part) (element_named part) refl;
}

pub class_says : (ident : List ℕ) (part : ClassPart) → IsNCName ident → IsFormedClass part → Says kind.ClassSpec (class_said ident part) (present (class_inside part))
class_says ident part n f = record {
  sayable = refl;
  right = class_right ident part.«module» part.gives;
  formed = (n, ((type_among part.gives, type_printable part.gives), (module_formed part.«module» f.of_module, ((refl, refl), tt))));
  met = λ binds. ((λ e. cc), tt);
  few = once_present (form_at kind.ClassSpec).once class_names (class_inside part) (class_named part) refl;
}

pub macro_says : (ident : List ℕ) (part : OtherPart) → IsNCName ident → IsModule part.«module» → Says kind.MacroSpec (other_said ident part) (present (other_inside part))
macro_says ident part n m = record {
  sayable = refl;
  right = macro_right ident part.«module»;
  formed = (n, (module_formed part.«module» m, ((refl, refl), tt)));
  met = λ binds. tt;
  few = once_present (form_at kind.MacroSpec).once other_names (other_inside part) (other_named part) refl;
}

pub data_says : (ident : List ℕ) (part : OtherPart) → IsNCName ident → IsModule part.«module» → Says kind.DataSpec (other_said ident part) (present (other_inside part))
data_says ident part n m = record {
  sayable = refl;
  right = data_right ident part.«module»;
  formed = (n, (module_formed part.«module» m, ((refl, refl), tt)));
  met = λ binds. (refl, tt);
  few = once_present (form_at kind.DataSpec).once other_names (other_inside part) (other_named part) refl;
}

-- The name in documents, and the memberships, where they are there

alt_plain : (o : Option (List ℕ)) → IfSome o IsNCName → IfThere IsPlain (alt_markup o)
alt_plain None n = tt
alt_plain (Some x) n = line_plain kind.AltIdent x (ncname_legal x n)

alt_placed : (o : Option (List ℕ)) → IfSome o IsNCName → IfThere (IsPlaced kind.ElementSpec 60) (alt_markup o)
alt_placed None n = tt
alt_placed (Some x) n =
    (kind.AltIdent, refl, line_sound kind.AltIdent kinds.name x refl refl refl refl (subst IsNCName (sym (word_collapsed x (name_word x n))) n) 60 refl)

memberships_plain : (words : List (List ℕ)) → AreClasses words → IfThere IsPlain (classes_markup words)
memberships_plain [] k = tt
memberships_plain (w ∷ ws) k = classes_plain (w ∷ ws) k

memberships_placed : (e : Element) (words : List (List ℕ)) → child_called e (tei (codes "classes")) ≡ Some kind.Classes → AreClasses words → IfThere (IsPlaced e 60) (classes_markup words)
memberships_placed e [] is k = tt
memberships_placed e (w ∷ ws) is k = (kind.Classes, is, classes_sound (w ∷ ws) k 60)

-- Each component

-- its markup is plain
pub element_plain : (ident : List ℕ) (part : ElementPart) → IsNCName ident → IsFormedElement part → IsPlain (element_markup ident part)
element_plain ident part n f =
    says_plain kind.ElementSpec (element_said ident part) (present (element_inside part)) (element_says ident part n f)
    (all_present IsPlain (element_inside part)
    (alt_plain part.alt f.alt, (memberships_plain part.classes f.classes, (content_plain part.content f.content, (edits_plain part.atts f.atts, tt)))))

pub class_plain : (ident : List ℕ) (part : ClassPart) → IsNCName ident → IsFormedClass part → IsPlain (class_markup ident part)
class_plain ident part n f =
    says_plain kind.ClassSpec (class_said ident part) (present (class_inside part)) (class_says ident part n f)
    (all_present IsPlain (class_inside part) (memberships_plain part.classes f.classes, (edits_plain part.atts f.atts, tt)))

pub macro_plain : (ident : List ℕ) (part : OtherPart) → IsNCName ident → IsFormedOther of.Macro part → IsPlain (other_markup (codes "macroSpec") ident part)
macro_plain ident part n f =
    says_plain kind.MacroSpec (other_said ident part) (present (other_inside part)) (macro_says ident part n f.of_module) (content_plain part.content f.content, tt)

pub data_plain : (ident : List ℕ) (part : OtherPart) → IsNCName ident → IsFormedOther of.Datatype part → IsPlain (other_markup (codes "dataSpec") ident part)
data_plain ident part n f =
    says_plain kind.DataSpec (other_said ident part) (present (other_inside part)) (data_says ident part n f.of_module) (content_plain part.content f.content.0, tt)

-- and it breaks nothing
pub element_sound : (ident : List ℕ) (part : ElementPart) → IsNCName ident → IsFormedElement part → IsSound kind.ElementSpec 60 (element_markup ident part)
element_sound ident part n f =
    sound kind.ElementSpec 60 (element_said ident part) (present (element_inside part)) (element_says ident part n f) (λ e none. cc)
    (all_present (IsPlaced kind.ElementSpec 60) (element_inside part) (
      alt_placed part.alt f.alt,
      (
        memberships_placed kind.ElementSpec part.classes refl f.classes,
        ((kind.Content, refl, content_sound part.content f.content), (edits_placed kind.ElementSpec 60 part.atts refl f.atts, tt)),
      ),
    ))

pub class_sound : (ident : List ℕ) (part : ClassPart) → IsNCName ident → IsFormedClass part → IsSound kind.ClassSpec 60 (class_markup ident part)
class_sound ident part n f =
    sound kind.ClassSpec 60 (class_said ident part) (present (class_inside part)) (class_says ident part n f) (λ e none. cc)
    (all_present (IsPlaced kind.ClassSpec 60) (class_inside part)
    (memberships_placed kind.ClassSpec part.classes refl f.classes, (edits_placed kind.ClassSpec 60 part.atts refl f.atts, tt)))

pub macro_sound : (ident : List ℕ) (part : OtherPart) → IsNCName ident → IsFormedOther of.Macro part → IsSound kind.MacroSpec 60 (other_markup (codes "macroSpec") ident part)
macro_sound ident part n f =
    sound kind.MacroSpec 60 (other_said ident part) (present (other_inside part)) (macro_says ident part n f.of_module) (λ e none. cc)
    ((kind.Content, refl, content_sound part.content f.content), tt)

pub data_sound : (ident : List ℕ) (part : OtherPart) → IsNCName ident → IsFormedOther of.Datatype part → IsSound kind.DataSpec 60 (other_markup (codes "dataSpec") ident part)
data_sound ident part n f =
    sound kind.DataSpec 60 (other_said ident part) (present (other_inside part)) (data_says ident part n f.of_module) (λ e none. cc)
    ((kind.DataContent, refl, data_content_sound part.content f.content.0 f.content.1), tt)
