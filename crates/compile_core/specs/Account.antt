-- The account of an element: its name in documents, its module, the classes that it is a member of, and the attributes that it offers, with what gives each.
use Rattle.std.specs.Prelude.{◌≡◌, ℕ, Bool, List, [], ◌∷◌, ◌++◌, Option, None, Some, if◌then◌else◌, codes}
use Rattle.std.specs.FinMap.{find}
use Rattle.std.specs.List.{flat_map}
use Rattle.odd_text.specs.Key.{key_cmp}
use Rattle.odd_text.specs.Text.{text_cmp}
use Rattle.odd_text.specs.declared.name.Name.{Name}
use Rattle.odd_text.specs.declared.offence.Offence.{Offence}
use Rattle.odd_text.specs.declared.offence.Who.TheVariants as who
use Rattle.odd_text.specs.Sorted.{IsSet}
use Rattle.odd_library.specs.Odd.{element_key}
use Rattle.odd_library.specs.declared.library.Component.TheVariants as component
use Rattle.odd_library.specs.declared.library.ElementPart.{ElementPart}
use Rattle.odd_library.specs.declared.library.Library.{Library}
use Rattle.odd_meaning.specs.Classes.{IsMember}
use Rattle.odd_meaning.specs.Naming.{element_name}
use Rattle.odd_classes.specs.Offered.{IsOfferOfOne, offer_cmp}
use Rattle.odd_classes.specs.declared.offering.Offer.{Offer}

-- a line begins with what it tells
abbrev pub line : List ℕ → List ℕ → List ℕ
line word rest = word ++ codes " " ++ rest ++ codes "\n"

abbrev pub name_written : Name → List ℕ
name_written name = codes "{" ++ name.ns ++ codes "}" ++ name.local

-- an empty module has none
abbrev pub module_line : List ℕ → List ℕ
module_line [] = []
module_line (c ∷ cs) = line (codes "module") (c ∷ cs)

abbrev pub member_line : List ℕ → List ℕ
member_line class = line (codes "member") class

-- whether the element has to have the attribute, and the class that gives it, or `-` where the element does
abbrev pub usage_word : Bool → List ℕ
usage_word needed = if needed then codes "req" else codes "opt"

abbrev pub giver_word : Option (List ℕ) → List ℕ
giver_word None = codes "-"
giver_word (Some class) = class

abbrev pub offer_line : Offer → List ℕ
offer_line offer = line (codes "attribute") (offer.ident ++ codes " " ++ usage_word offer.def.needed ++ codes " " ++ giver_word offer.giver)

abbrev pub account_text : List ℕ → ElementPart → List (List ℕ) → List Offer → List ℕ
account_text ident part classes offers =
    line (codes "element") ident ++ line (codes "name") (name_written (element_name ident part)) ++ module_line part.«module» ++ flat_map member_line classes ++ flat_map offer_line offers

-- an element is held at the ident
abbrev pub IsHeldElement : Library → List ℕ → Type 0
IsHeldElement library ident = (part : ElementPart) × (find key_cmp (element_key ident) library.parts ≡ Some (component.Element part))

-- The text tells of a held element the classes that it is a member of and the attributes that it offers, in order, each once.
pub record IsAccount (library : Library) (ident text : List ℕ) : Type 0 where
  pub part : ElementPart
  pub held : find key_cmp (element_key ident) library.parts ≡ Some (component.Element part)
  pub classes : List (List ℕ)
  pub are_classes : IsSet text_cmp (λ class. IsMember library class (element_key ident)) classes
  pub offers : List Offer
  pub are_offers : IsSet offer_cmp (IsOfferOfOne library ident) offers
  pub printed : text ≡ account_text ident part classes offers

-- no element is held at the ident that was asked for
pub record IsAskedOffence (library : Library) (ident : List ℕ) (offence : Offence) : Type 0 where
  pub file : offence.file ≡ 0
  pub rule : offence.rule ≡ 21
  pub asked : offence.who ≡ who.Asked ident
  pub missing : IsHeldElement library ident → ⊥
