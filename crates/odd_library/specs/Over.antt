-- Declarations laid over components, and two declarations of one key as one (TEI Guidelines, the chapter Documentation Elements).
use Rattle.std.specs.Prelude.{◌≡◌, ℕ, List, [], ◌∷◌, Option, Some, None, unwrap_or}
use Rattle.std.specs.Option.{option_map}
use Rattle.odd_overlay.specs.Overlaid.{joined_at}
use Rattle.odd_overlay.specs.Tabled.{or_else}
use Rattle.odd_library.specs.Membership.{classes_over, membership_joined}
use Rattle.odd_attributes.specs.Attributes.{atts_joined}
use Rattle.odd_library.specs.Library.{component_of}
use Rattle.odd_library.specs.declared.library.ClassPart.{ClassPart}
use Rattle.odd_library.specs.declared.library.Component.{Component}
use Rattle.odd_library.specs.declared.library.Component.TheVariants as component
use Rattle.odd_library.specs.declared.library.ElementPart.{ElementPart}
use Rattle.odd_library.specs.declared.library.OtherPart.{OtherPart}
use Rattle.odd_library.specs.declared.spec.Mode.{Mode}
use Rattle.odd_library.specs.declared.spec.Mode.TheVariants as mode
use Rattle.odd_library.specs.declared.spec.Spec.{Spec}

-- a spec laid over a component: its module stays, as does the type of a class; memberships and attributes are edited; and what else the spec gives is put in
-- place of what was there
abbrev pub element_laid_over : ElementPart → Spec → ElementPart
element_laid_over part spec = record {
  «module» = part.«module»;
  ns = unwrap_or spec.ns part.ns;
  alt = or_else spec.alt part.alt;
  classes = classes_over spec.classes part.classes;
  content = unwrap_or spec.content part.content;
  atts = atts_joined part.atts spec.atts;
}

abbrev pub class_laid_over : ClassPart → Spec → ClassPart
class_laid_over part spec =
    record { «module» = part.«module»; gives = part.gives; classes = classes_over spec.classes part.classes; atts = atts_joined part.atts spec.atts }

abbrev pub other_laid_over : OtherPart → Spec → OtherPart
other_laid_over part spec = record { «module» = part.«module»; content = unwrap_or spec.content part.content }

abbrev pub laid_over : Component → Spec → Component
laid_over (component.Element part) spec = component.Element (element_laid_over part spec)
laid_over (component.Class part) spec = component.Class (class_laid_over part spec)
laid_over (component.Macro part) spec = component.Macro (other_laid_over part spec)
laid_over (component.Datatype part) spec = component.Datatype (other_laid_over part spec)

-- what is held where a spec of the mode is over what was held
abbrev pub declared : Mode → Spec → Option Component → Option Component
declared mode.Add spec held = Some (component_of spec)
declared mode.Replace spec held = Some (component_of spec)
declared mode.Delete spec held = None
declared mode.Change spec held = option_map (λ part. laid_over part spec) held

abbrev pub spec_laid : Spec → Option Component → Option Component
spec_laid spec held = declared spec.mode spec held

-- a spec that sets a component, changed by a later one: its module and its type stay
abbrev pub set_changed : Spec → Spec → Spec
set_changed before spec = record {
  key = before.key;
  mode = before.mode;
  «module» = before.«module»;
  ns = or_else spec.ns before.ns;
  alt = or_else spec.alt before.alt;
  gives = before.gives;
  classes = joined_at membership_joined before.classes spec.classes;
  content = or_else spec.content before.content;
  atts = atts_joined before.atts spec.atts;
}

-- the earlier module where it is given, else the later one
abbrev pub module_joined : List ℕ → List ℕ → List ℕ
module_joined [] later = later
module_joined (c ∷ cs) later = c ∷ cs

-- two changes: the module and the type are the earlier's where it gives them
abbrev pub both_changed : Spec → Spec → Spec
both_changed before spec =
    record (set_changed before spec) { «module» = module_joined before.«module» spec.«module»; gives = or_else before.gives spec.gives }

-- two specs of one key as one: to add, to replace and to delete stand alone
abbrev pub joined_as : Mode → Mode → Spec → Spec → Spec
joined_as before mode.Add a b = b
joined_as before mode.Replace a b = b
joined_as before mode.Delete a b = b
joined_as mode.Add mode.Change a b = set_changed a b
joined_as mode.Replace mode.Change a b = set_changed a b
joined_as mode.Delete mode.Change a b = a
joined_as mode.Change mode.Change a b = both_changed a b

abbrev pub spec_joined : Spec → Spec → Spec
spec_joined a b = joined_as a.mode b.mode a b

-- two specs join where they have one key
abbrev pub HaveOneKey : Spec → Spec → Type 0
HaveOneKey a b = a.key ≡ b.key
