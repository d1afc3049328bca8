-- Declarations laid over components one after another, and as one.
use Rattle.std.specs.Prelude.{◌≡◌, ℕ, false, List, [], ◌∷◌, Option, Some, None, unwrap_or, refl}
use Rattle.std.proofs.Common.{sym, ap}
use Rattle.odd_text.specs.declared.key.Key.{Key}
use Rattle.odd_text.specs.declared.key.Kind.{Kind}
use Rattle.odd_text.specs.declared.key.Kind.TheVariants as kind
use Rattle.odd_attributes.specs.Attributes.{atts_joined, atts_regrouped}
use Rattle.odd_attributes.specs.Values.{or_else_assoc, unwrap_or_else}
use Rattle.odd_content.specs.declared.content.Content.TheVariants as content
use Rattle.odd_forms.specs.Names.{tei_namespace}
use Rattle.odd_library.specs.Membership.{classes_twice, membership_joined, membership_regrouped}
use Rattle.odd_overlay.specs.Overlaid.{regrouped_at}
use Rattle.odd_overlay.specs.Tabled.{or_else}
use Rattle.odd_library.specs.Library.{component_as}
use Rattle.odd_library.specs.Over.{HaveOneKey, both_changed, laid_over, module_joined, set_changed, spec_joined, spec_laid}
use Rattle.odd_library.specs.declared.library.Component.{Component}
use Rattle.odd_library.specs.declared.library.Component.TheVariants as component
use Rattle.odd_library.specs.declared.spec.Mode.{Mode}
use Rattle.odd_library.specs.declared.spec.Mode.TheVariants as mode
use Rattle.odd_library.specs.declared.spec.Spec.{Spec}

-- what a spec declares by itself, changed by a later one
set_twice : (k : Kind) (a b : Spec) → laid_over (component_as k a) b ≡ component_as k (set_changed a b)
set_twice kind.Element a b = λ i.
    component.Element (record {
      «module» = a.«module»;
      ns = unwrap_or_else b.ns a.ns tei_namespace i;
      alt = or_else b.alt a.alt;
      classes = classes_twice a.classes b.classes [] i;
      content = unwrap_or_else b.content a.content content.Empty i;
      atts = atts_joined a.atts b.atts;
    })
set_twice kind.Class a b = λ i.
    component.Class (record { «module» = a.«module»; gives = unwrap_or a.gives false; classes = classes_twice a.classes b.classes [] i; atts = atts_joined a.atts b.atts })
set_twice kind.Macro a b = λ i. component.Macro (record { «module» = a.«module»; content = unwrap_or_else b.content a.content content.Empty i })
set_twice kind.Datatype a b = λ i. component.Datatype (record { «module» = a.«module»; content = unwrap_or_else b.content a.content content.Empty i })

-- a component that two specs change
changed_twice : (part : Component) (a b : Spec) → laid_over (laid_over part a) b ≡ laid_over part (both_changed a b)
changed_twice (component.Element part) a b = λ i.
    component.Element (record {
      «module» = part.«module»;
      ns = unwrap_or_else b.ns a.ns part.ns i;
      alt = or_else_assoc b.alt a.alt part.alt i;
      classes = classes_twice a.classes b.classes part.classes i;
      content = unwrap_or_else b.content a.content part.content i;
      atts = atts_regrouped part.atts a.atts b.atts i;
    })
changed_twice (component.Class part) a b = λ i.
    component.Class (record { «module» = part.«module»; gives = part.gives; classes = classes_twice a.classes b.classes part.classes i; atts = atts_regrouped part.atts a.atts b.atts i })
changed_twice (component.Macro part) a b = λ i. component.Macro (record { «module» = part.«module»; content = unwrap_or_else b.content a.content part.content i })
changed_twice (component.Datatype part) a b = λ i. component.Datatype (record { «module» = part.«module»; content = unwrap_or_else b.content a.content part.content i })

module_regrouped : (a b c : List ℕ) → module_joined (module_joined a b) c ≡ module_joined a (module_joined b c)
module_regrouped [] b c = refl
module_regrouped (x ∷ a) b c = refl

-- three specs of which the later two change
set_regrouped : (a b c : Spec) → set_changed (set_changed a b) c ≡ set_changed a (both_changed b c)
set_regrouped a b c = λ i. record {
  key = a.key;
  mode = a.mode;
  «module» = a.«module»;
  ns = or_else_assoc c.ns b.ns a.ns i;
  alt = or_else_assoc c.alt b.alt a.alt i;
  gives = a.gives;
  classes = regrouped_at membership_joined membership_regrouped a.classes b.classes c.classes i;
  content = or_else_assoc c.content b.content a.content i;
  atts = atts_regrouped a.atts b.atts c.atts i;
}

both_regrouped : (a b c : Spec) → both_changed (both_changed a b) c ≡ both_changed a (both_changed b c)
both_regrouped a b c = λ i.
    record (set_regrouped a b c i) { «module» = module_regrouped a.«module» b.«module» c.«module» i; gives = sym (or_else_assoc a.gives b.gives c.gives) i }

-- a spec as one of the mode
abbrev in_mode : Mode → Spec → Spec
in_mode m spec = record spec { mode = m }

laid_in : (m n : Mode) (a b : Spec) (x : Option Component) → spec_laid (in_mode n b) (spec_laid (in_mode m a) x) ≡ spec_laid (spec_joined (in_mode m a) (in_mode n b)) x
laid_in m mode.Add a b x = refl
laid_in m mode.Replace a b x = refl
laid_in m mode.Delete a b x = refl
laid_in mode.Add mode.Change a b x = ap Some (set_twice a.key.kind (in_mode mode.Add a) (in_mode mode.Change b))
laid_in mode.Replace mode.Change a b x = ap Some (set_twice a.key.kind (in_mode mode.Replace a) (in_mode mode.Change b))
laid_in mode.Delete mode.Change a b x = refl
laid_in mode.Change mode.Change a b None = refl
laid_in mode.Change mode.Change a b (Some part) = ap Some (changed_twice part (in_mode mode.Change a) (in_mode mode.Change b))

-- to lay one spec and then another is to lay the two as one
pub spec_one_by_one : (a b : Spec) (x : Option Component) → spec_laid b (spec_laid a x) ≡ spec_laid (spec_joined a b) x
spec_one_by_one a b x = laid_in a.mode b.mode a b x

joined_in : (l m n : Mode) (a b c : Spec) → spec_joined (spec_joined (in_mode l a) (in_mode m b)) (in_mode n c) ≡ spec_joined (in_mode l a) (spec_joined (in_mode m b) (in_mode n c))
joined_in l m mode.Add a b c = refl
joined_in l m mode.Replace a b c = refl
joined_in l m mode.Delete a b c = refl
joined_in l mode.Add mode.Change a b c = refl
joined_in l mode.Replace mode.Change a b c = refl
joined_in l mode.Delete mode.Change a b c = refl
joined_in mode.Add mode.Change mode.Change a b c = set_regrouped (in_mode mode.Add a) b c
joined_in mode.Replace mode.Change mode.Change a b c = set_regrouped (in_mode mode.Replace a) b c
joined_in mode.Delete mode.Change mode.Change a b c = refl
joined_in mode.Change mode.Change mode.Change a b c = both_regrouped (in_mode mode.Change a) b c

-- three specs are one, however they are grouped
pub spec_regrouped : (a b c : Spec) → spec_joined (spec_joined a b) c ≡ spec_joined a (spec_joined b c)
spec_regrouped a b c = joined_in a.mode b.mode c.mode a b c

-- two specs as one have the key of one of them
joined_key : (P : Key → Type 0) (m n : Mode) (a b : Spec) → P a.key → P b.key → P (spec_joined (in_mode m a) (in_mode n b)).key
joined_key P m mode.Add a b h k = k
joined_key P m mode.Replace a b h k = k
joined_key P m mode.Delete a b h k = k
joined_key P mode.Add mode.Change a b h k = h
joined_key P mode.Replace mode.Change a b h k = h
joined_key P mode.Delete mode.Change a b h k = h
joined_key P mode.Change mode.Change a b h k = h

pub spec_joined_leads : (a b c : Spec) → HaveOneKey a b → HaveOneKey a c → HaveOneKey b c → HaveOneKey (spec_joined a b) c
spec_joined_leads a b c h k l = joined_key (λ key. key ≡ c.key) a.mode b.mode a b k l

pub spec_joined_follows : (a b c : Spec) → HaveOneKey b c → HaveOneKey a b → HaveOneKey a c → HaveOneKey a (spec_joined b c)
spec_joined_follows a b c h k l = joined_key (λ key. a.key ≡ key) b.mode c.mode b c k l
