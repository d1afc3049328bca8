-- What a content admits in a library, for any marking of the children. No pattern is spoken of.
use Rattle.std.specs.Prelude.{◌≡◌, ◌⊎◌, ◌≤◌, ℕ, zero, suc, false, List, [], ◌∷◌, Option, Some, None, IsTrue}
use Rattle.std.specs.FinMap.{find}
use Rattle.std.specs.List.{list_any}
use Rattle.odd_text.specs.Key.{key_cmp}
use Rattle.odd_tree.specs.Significant.{Marking, is_element}
use Rattle.odd_tree.specs.Splits.{Counted, Then}
use Rattle.odd_tree.specs.declared.tree.Node.{Node, Element as AnElement}
use Rattle.odd_tree.specs.declared.tree.Tree.{Tree}
use Rattle.rng_types.specs.declared.bounds.Bounds.{Bounds}
use Rattle.odd_content.specs.Picking.{is_picked}
use Rattle.odd_content.specs.declared.content.Content.{Content, Empty, Text, Value, Vals, Element, Class, Macro, Any, Sequence', Alternate', Row_of-Content, end_of-Content, more_of-Content}
use Rattle.odd_content.specs.declared.content.Pick.{Pick}
use Rattle.odd_library.specs.Odd.{element_key}
use Rattle.odd_library.specs.declared.library.Component.TheVariants as component
use Rattle.odd_library.specs.declared.library.Library.{Library}
use Rattle.odd_library.specs.declared.library.OtherPart.{OtherPart}
use Rattle.odd_meaning.specs.Classes.{IsMember}
use Rattle.odd_meaning.specs.Labels.{Label, element, condition}
use Rattle.odd_meaning.specs.Links.{macro_key}

abbrev pub IsUpTo : Option ℕ → ℕ → Type 0
IsUpTo None n = Unit {0}
IsUpTo (Some max) n = n ≤ max

abbrev pub IsWithin : Bounds → ℕ → Type 0
IsWithin b n = (b.min ≤ n) × IsUpTo b.max n

-- one element that counts for the label
pub record IsOne (counts : Marking Label) (l : Label) (w : List Node) : Type 0 where
  pub tree : Tree
  pub alone : w ≡ AnElement tree ∷ []
  pub counted : counts tree l

-- one element that counts for a member of the class, of those that the reference names
pub record IsOneMember (library : Library) (counts : Marking Label) (class : List ℕ) (p : Pick) (w : List Node) : Type 0 where
  pub ident : List ℕ
  pub member : IsMember library class (element_key ident)
  pub picked : IsTrue (is_picked p ident)
  pub one : IsOne counts (element ident) w

-- what the macro of an ident admits
abbrev pub Macros : Type 1
Macros = List ℕ → List Node → Type 0

abbrev mutual
  -- `empty` no child, `textNode` any number of texts; of any other part a number of pieces within its bounds; data admits no list of children, but their text as a value (Values.antt)
  pub AdmitsBy : Macros → Library → Marking Label → Content → List Node → Type 0
  AdmitsBy macros library m Empty w = w ≡ []
  AdmitsBy macros library m Text w = list_any is_element w ≡ false
  AdmitsBy macros library m (Value item) w = ⊥
  AdmitsBy macros library m (Vals list) w = ⊥
  AdmitsBy macros library m (Element key b) w = Counted (IsWithin b) (IsOne m (element key)) w
  AdmitsBy macros library m (Class key p b) w = Counted (IsWithin b) (IsOneMember library m key p) w
  AdmitsBy macros library m (Macro key b) w = Counted (IsWithin b) (macros key) w
  AdmitsBy macros library m (Any c b) w = Counted (IsWithin b) (IsOne m (condition c)) w
  AdmitsBy macros library m (Sequence' shape parts b) w = Counted (IsWithin b) (InOrder macros library m parts) w
  AdmitsBy macros library m (Alternate' shape parts b) w = Counted (IsWithin b) (ByOne macros library m parts) w

  -- one piece a part, in order
  pub InOrder : {n : _} → Macros → Library → Marking Label → Row_of-Content n → List Node → Type 0
  InOrder macros library m end_of-Content w = w ≡ []
  InOrder macros library m (more_of-Content part parts) w = Then (AdmitsBy macros library m part) (InOrder macros library m parts) w

  -- what one part admits
  pub ByOne : {n : _} → Macros → Library → Marking Label → Row_of-Content n → List Node → Type 0
  ByOne macros library m end_of-Content w = ⊥
  ByOne macros library m (more_of-Content part parts) w = AdmitsBy macros library m part w ⊎ ByOne macros library m parts w

-- a held macro admits what its content admits, down to so many macros in one another
abbrev pub MacroAdmits : ℕ → Library → Marking Label → Macros
MacroAdmits zero library m key w = ⊥
MacroAdmits (suc levels) library m key w =
    (part : OtherPart) × (find key_cmp (macro_key key) library.parts ≡ Some (component.Macro part)) × AdmitsBy (MacroAdmits levels library m) library m part.content w

-- which is the least such relation
abbrev pub IsOfMacro : Library → Marking Label → Macros
IsOfMacro library m key w = (levels : ℕ) × MacroAdmits levels library m key w

abbrev pub Admits : Library → Marking Label → Content → List Node → Type 0
Admits library m = AdmitsBy (IsOfMacro library m) library m
