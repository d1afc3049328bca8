-- Who is a member of a class, and which macros a macro reaches (TEI Guidelines, the chapter Documentation Elements).
use Rattle.std.specs.Prelude.{◌≡◌, ℕ, false, List, Option, Some, None, length, sum_by}
use Rattle.std.specs.FinMap.{find}
use Rattle.odd_text.specs.Key.{key_cmp}
use Rattle.odd_text.specs.Text.{text_cmp}
use Rattle.odd_text.specs.declared.key.Key.{Key}
use Rattle.odd_text.specs.declared.key.Kind.{Kind}
use Rattle.odd_text.specs.declared.key.Kind.TheVariants as kind
use Rattle.odd_graph.specs.Graph.{Chained}
use Rattle.odd_text.specs.Sorted.{IsSet}
use Rattle.odd_library.specs.Odd.{element_key}
use Rattle.odd_library.specs.declared.library.ClassPart.{ClassPart}
use Rattle.odd_library.specs.declared.library.Component.{Component}
use Rattle.odd_library.specs.declared.library.Component.TheVariants as component
use Rattle.odd_library.specs.declared.library.ElementPart.{ElementPart}
use Rattle.odd_library.specs.declared.library.Library.{Library}
use Rattle.odd_meaning.specs.Links.{IsLinked, class_key, classes_of, macro_key, macros_of}

-- an element or a class is a member of each held class among its memberships, and of each class of which such a class is a member
abbrev pub IsMember : Library → List ℕ → Key → Type 0
IsMember library class key = Chained (IsLinked classes_of library) key (class_key class)

-- a held macro reaches each held macro that its content names, and each that such a macro reaches
abbrev pub Reaches : Library → List ℕ → List ℕ → Type 0
Reaches library one other = Chained (IsLinked macros_of library) (macro_key one) (macro_key other)

-- a held element that is a member of the class
pub record IsElementOf (library : Library) (class ident : List ℕ) : Type 0 where
  pub part : ElementPart
  pub held : find key_cmp (element_key ident) library.parts ≡ Some (component.Element part)
  pub member : IsMember library class (element_key ident)

-- what is held at the ident is a class of type `model`
pub record IsModel (library : Library) (ident : List ℕ) : Type 0 where
  pub part : ClassPart
  pub held : find key_cmp (class_key ident) library.parts ≡ Some (component.Class part)
  pub gives : part.gives ≡ false

-- the idents of elements of each class
abbrev pub Members : Type 0
Members = List ℕ → Option (List (List ℕ))

-- those of the elements that are members of a class of type `model`, in rising order, and of another class none
abbrev pub IsListed : Library → List ℕ → Option (List (List ℕ)) → Type 0
IsListed library class None = IsModel library class → ⊥
IsListed library class (Some idents) = IsModel library class × IsSet text_cmp (IsElementOf library class) idents

abbrev pub AreMembers : Library → Members → Type 0
AreMembers library members = (class : List ℕ) → IsListed library class (members class)

-- how many idents there are
abbrev pub listed_count : Option (List (List ℕ)) → ℕ
listed_count None = 0
listed_count (Some idents) = length idents

abbrev pub count_at : Members → Kind → List ℕ → ℕ
count_at members kind.Class ident = listed_count (members ident)
count_at members k ident = 0

-- how many of an entry that is a class, and of all of them
abbrev pub class_count : Members → Key × Component → ℕ
class_count members (key, part) = count_at members key.kind key.ident

abbrev pub members_count : Members → Library → ℕ
members_count members library = sum_by (class_count members) library.parts
