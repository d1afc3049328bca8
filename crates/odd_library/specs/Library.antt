-- The library before the first file, and what a declaration declares by itself.
use Rattle.std.specs.Prelude.{◌≡◌, ℕ, false, List, [], ◌∷◌, Option, Some, None, codes, unwrap_or}
use Rattle.odd_forms.specs.Names.{tei_namespace}
use Rattle.odd_content.specs.declared.content.Content.{Content}
use Rattle.odd_content.specs.declared.content.Content.TheVariants as content
use Rattle.odd_text.specs.declared.key.Kind.{Kind}
use Rattle.odd_text.specs.declared.key.Kind.TheVariants as kind
use Rattle.odd_library.specs.Membership.{classes_over}
use Rattle.odd_library.specs.declared.library.ClassPart.{ClassPart}
use Rattle.odd_library.specs.declared.library.Component.{Component}
use Rattle.odd_library.specs.declared.library.ElementPart.{ElementPart}
use Rattle.odd_library.specs.declared.library.OtherPart.{OtherPart}
use Rattle.odd_library.specs.declared.library.Component.TheVariants as component
use Rattle.odd_library.specs.declared.library.Library.{Library}
use Rattle.odd_library.specs.declared.spec.Spec.{Spec}

-- the module of a component, which may be empty
abbrev pub module_of : Component → List ℕ
module_of (component.Element part) = part.«module»
module_of (component.Class part) = part.«module»
module_of (component.Macro part) = part.«module»
module_of (component.Datatype part) = part.«module»

-- the content of an element, a macro or a datatype
abbrev pub content_of : Component → Option Content
content_of (component.Element part) = Some part.content
content_of (component.Class part) = None
content_of (component.Macro part) = Some part.content
content_of (component.Datatype part) = Some part.content

-- a spec as an element, a class, or a macro or datatype: without a namespace that is TEI's, without memberships it is a member of no class, and without a
-- content the content is empty
abbrev pub element_of : Spec → ElementPart
element_of spec = record {
  «module» = spec.«module»;
  ns = unwrap_or spec.ns tei_namespace;
  alt = spec.alt;
  classes = classes_over spec.classes [];
  content = unwrap_or spec.content content.Empty;
  atts = spec.atts;
}

abbrev pub class_of : Spec → ClassPart
class_of spec = record { «module» = spec.«module»; gives = unwrap_or spec.gives false; classes = classes_over spec.classes []; atts = spec.atts }

abbrev pub other_of : Spec → OtherPart
other_of spec = record { «module» = spec.«module»; content = unwrap_or spec.content content.Empty }

-- as a component of the kind
abbrev pub component_as : Kind → Spec → Component
component_as kind.Element spec = component.Element (element_of spec)
component_as kind.Class spec = component.Class (class_of spec)
component_as kind.Macro spec = component.Macro (other_of spec)
component_as kind.Datatype spec = component.Datatype (other_of spec)

abbrev pub component_of : Spec → Component
component_of spec = component_as spec.key.kind spec

-- no component, the ident bare and the start word TEI
pub record IsEmptyLibrary (library : Library) : Type 0 where
  pub ident : library.ident ≡ codes "bare"
  pub start : library.start ≡ codes "TEI" ∷ []
  pub holds : library.parts ≡ []
