-- What a declaration of a file gives by itself is formed, as is a component with it laid over, and so is the library before the first file.
use Rattle.std.proofs.Common.{◌≡◌, [], ◌∷◌, Option, Some, None, IsSome, refl, sym, ap, subst}
use Rattle.std.proofs.lemmas.List.Elements.{All-cons, All-nil}
use Rattle.std.specs.FinMap.{find, is_sorted}
use Rattle.std.specs.Option.{IfSome}
use Rattle.std.specs.Prelude.{codes, unwrap_or}
use Rattle.odd_text.specs.Key.{key_cmp}
use Rattle.odd_text.specs.Text.{text_cmp}
use Rattle.odd_text.specs.declared.key.Kind.{Kind}
use Rattle.odd_text.specs.declared.key.Kind.TheVariants as kind
use Rattle.odd_tokens.proofs.Ascii.{ascii_legal, is_name}
use Rattle.odd_tokens.specs.Characters.{IsLegal, IsNCName}
use Rattle.odd_text.proofs.InList.{nothing_stands}
use Rattle.odd_text.proofs.SetOf.{none_rising, rising_more}
use Rattle.odd_forms.specs.Names.{tei_namespace}
use Rattle.odd_attributes.proofs.Formed.{joined_formed}
use Rattle.odd_content.specs.declared.content.Content.{Content}
use Rattle.odd_content.specs.declared.content.Content.TheVariants as content
use Rattle.odd_library.proofs.FormedMembers.{classes_formed}
use Rattle.odd_overlay.proofs.Laid.{or_else_holds}
use Rattle.odd_library.specs.Formed.{AreStartWords, IsFormedContentOf, IsFormedLibrary, IsFormedPart, IsFormedSpec, StandsAlone}
use Rattle.odd_library.specs.Library.{IsEmptyLibrary, component_as, component_of}
use Rattle.odd_library.specs.Over.{laid_over}
use Rattle.odd_library.specs.declared.library.Component.{Component}
use Rattle.odd_library.specs.declared.library.Component.TheVariants as component
use Rattle.odd_library.specs.declared.library.Library.{Library}
use Rattle.odd_library.specs.declared.spec.Spec.{Spec}

-- what is given, or else a default
given_or : {A : Type 0} (P : A → Type 0) (o : Option A) (default : A) → IfSome o P → P default → P (unwrap_or o default)
given_or P None default given h = h
given_or P (Some value) default given h = given

-- the content of a declaration of the kind, or else one that is such
content_formed : (spec : Spec) → IsFormedSpec spec → (k : Kind) → spec.key.kind ≡ k → (default : Content) → IsFormedContentOf k default → IsFormedContentOf k (unwrap_or spec.content default)
content_formed spec f k is default h = given_or (IsFormedContentOf k) spec.content default (subst (λ k. IfSome spec.content (IsFormedContentOf k)) is f.content) h

-- what a declaration gives by itself as a component of its kind
made_formed : (spec : Spec) → IsFormedSpec spec → (k : Kind) → spec.key.kind ≡ k → StandsAlone k spec → IsFormedPart k (component_as k spec)
made_formed spec f kind.Element is alone = record {
  of_module = f.of_module;
  ns = given_or IsLegal spec.ns tei_namespace f.ns (ascii_legal tei_namespace refl);
  alt = f.alt;
  classes = classes_formed spec.classes [] f.classes (none_rising text_cmp, All-nil IsNCName);
  content = content_formed spec f kind.Element is content.Empty tt;
  atts = f.atts;
}
made_formed spec f kind.Class is alone =
    record { of_module = f.of_module; classes = classes_formed spec.classes [] f.classes (none_rising text_cmp, All-nil IsNCName); atts = f.atts }
made_formed spec f kind.Macro is alone = record { of_module = f.of_module; content = content_formed spec f kind.Macro is content.Empty tt }
made_formed spec f kind.Datatype is alone =
    record { of_module = f.of_module; content = given spec.content (subst (λ k. IfSome spec.content (IsFormedContentOf k)) is f.content) alone }
  where
    given : (o : Option Content) → IfSome o (IsFormedContentOf kind.Datatype) → IsSome o → IsFormedContentOf kind.Datatype (unwrap_or o content.Empty)
    given None h some = cc
    given (Some c) h some = h

pub alone_formed : (spec : Spec) → IsFormedSpec spec → StandsAlone spec.key.kind spec → IsFormedPart spec.key.kind (component_of spec)
alone_formed spec f alone = made_formed spec f spec.key.kind refl alone

-- with a declaration of its kind laid over it a component stays formed
pub over_formed : (spec : Spec) → IsFormedSpec spec → (k : Kind) → spec.key.kind ≡ k → (part : Component) → IsFormedPart k part → IsFormedPart k (laid_over part spec)
over_formed spec f kind.Element is (component.Element part) h = record {
  of_module = h.of_module;
  ns = given_or IsLegal spec.ns part.ns f.ns h.ns;
  alt = or_else_holds IsNCName spec.alt part.alt f.alt h.alt;
  classes = classes_formed spec.classes part.classes f.classes h.classes;
  content = content_formed spec f kind.Element is part.content h.content;
  atts = joined_formed part.atts spec.atts h.atts f.atts;
}
over_formed spec f kind.Class is (component.Class part) h =
    record { of_module = h.of_module; classes = classes_formed spec.classes part.classes f.classes h.classes; atts = joined_formed part.atts spec.atts h.atts f.atts }
over_formed spec f kind.Macro is (component.Macro part) h = record { of_module = h.of_module; content = content_formed spec f kind.Macro is part.content h.content }
over_formed spec f kind.Datatype is (component.Datatype part) h = record { of_module = h.of_module; content = content_formed spec f kind.Datatype is part.content h.content }
over_formed spec f k is part h = absurd h

-- the start word of the empty library is a set of one name
start_formed : AreStartWords (codes "TEI" ∷ [])
start_formed = record {
  some = λ e. cc;
  rising = rising_more text_cmp (codes "TEI") [] (λ word s. absurd (nothing_stands word s)) (none_rising text_cmp);
  named = All-cons IsNCName (codes "TEI") [] (is_name (codes "TEI") refl) (All-nil IsNCName);
}

pub empty_formed : (library : Library) → IsEmptyLibrary library → IsFormedLibrary library
empty_formed library is = record {
  ident = subst IsNCName (sym is.ident) (is_name (codes "bare") refl);
  start = subst AreStartWords (sym is.start) start_formed;
  rising = ap (is_sorted key_cmp) is.holds;
  formed = λ key part held. (let none : find key_cmp key library.parts ≡ None = ap (find key_cmp key) is.holds in cc);
}
