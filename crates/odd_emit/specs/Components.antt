-- The elements of a merged ODD that stand for the components of a library, and its text.
use Rattle.std.specs.Prelude.{ℕ, Bool, true, false, if◌then◌else◌, List, [], ◌∷◌, map, Option, Some, None, codes}
use Rattle.odd_text.specs.declared.key.Key.{Key}
use Rattle.odd_text.specs.Same.{is_same}
use Rattle.odd_tree.specs.Markup.{Markup, file_printed}
use Rattle.odd_forms.specs.Names.{tei_namespace}
use Rattle.odd_library.specs.declared.library.ClassPart.{ClassPart}
use Rattle.odd_library.specs.declared.library.Component.{Component}
use Rattle.odd_library.specs.declared.library.Component.TheVariants as component
use Rattle.odd_library.specs.declared.library.ElementPart.{ElementPart}
use Rattle.odd_library.specs.declared.library.Library.{Library}
use Rattle.odd_library.specs.declared.library.OtherPart.{OtherPart}
use Rattle.odd_emit.specs.Attributes.{alt_markup, edits_markup, ident_said}
use Rattle.odd_emit.specs.Contents.{content_markup, key_said, mode_said}
use Rattle.odd_emit.specs.Saying.{Said, Value, a_name, a_text, a_word, present, says, says_if, some_names, spoken}

-- the classes that a component is a member of, where there is one
abbrev pub member_markup : List ℕ → Markup
member_markup key = spoken (codes "memberOf") (key_said key ∷ []) []

abbrev pub classes_markup : List (List ℕ) → Option Markup
classes_markup [] = None
classes_markup (word ∷ words) = Some (spoken (codes "classes") (mode_said (codes "replace") ∷ []) (map member_markup (word ∷ words)))

-- a module, unless it is empty
abbrev pub module_value : List ℕ → Option Value
module_value [] = None
module_value (c ∷ cs) = Some (a_name (c ∷ cs))

abbrev pub module_said : List ℕ → Said
module_said name = says_if (codes "module") (module_value name)

-- the namespace of an element in documents, unless it is TEI's
abbrev pub ns_value : List ℕ → Option Value
ns_value ns = if is_same ns tei_namespace then None else Some (a_text ns)

abbrev pub type_word : Bool → List ℕ
type_word true = codes "atts"
type_word false = codes "model"

-- each component is the declaration of its kind, which adds it
abbrev pub element_markup : List ℕ → ElementPart → Markup
element_markup ident part =
    spoken (codes "elementSpec") (ident_said ident ∷ module_said part.«module» ∷ mode_said (codes "add") ∷ says_if (codes "ns") (ns_value part.ns) ∷ [])
    (present (alt_markup part.alt ∷ classes_markup part.classes ∷ Some (content_markup part.content) ∷ edits_markup part.atts ∷ []))

abbrev pub class_markup : List ℕ → ClassPart → Markup
class_markup ident part =
    spoken (codes "classSpec") (ident_said ident ∷ says (codes "type") (a_word (type_word part.gives)) ∷ module_said part.«module» ∷ mode_said (codes "add") ∷ [])
    (present (classes_markup part.classes ∷ edits_markup part.atts ∷ []))

abbrev pub other_markup : List ℕ → List ℕ → OtherPart → Markup
other_markup name ident part = spoken name (ident_said ident ∷ module_said part.«module» ∷ mode_said (codes "add") ∷ []) (content_markup part.content ∷ [])

abbrev pub component_markup : List ℕ → Component → Markup
component_markup ident (component.Element part) = element_markup ident part
component_markup ident (component.Class part) = class_markup ident part
component_markup ident (component.Macro part) = other_markup (codes "macroSpec") ident part
component_markup ident (component.Datatype part) = other_markup (codes "dataSpec") ident part

abbrev pub entry_markup : Key × Component → Markup
entry_markup entry = component_markup entry.0.ident entry.1

-- the file: a `schemaSpec` with the ident and the start words of the library, and its components in order of their keys
abbrev pub schema_markup : Library → Markup
schema_markup library =
    spoken (codes "schemaSpec") (says (codes "xmlns") (a_text tei_namespace) ∷ ident_said library.ident ∷ says (codes "start") (some_names library.start) ∷ [])
    (map entry_markup library.parts)

abbrev pub merged_odd : Library → List ℕ
merged_odd library = file_printed (schema_markup library)
