-- What holds of each content model that a `content` gives which breaks no rule.
use Rattle.std.specs.Prelude.{◌≡◌, ◌≢◌, ◌<◌, ◌-◌, ℕ, false, List, [], Some, All}
use Rattle.std.specs.List.{list_any}
use Rattle.odd_text.specs.NameOrder.{name_cmp}
use Rattle.odd_text.specs.Text.{text_cmp}
use Rattle.odd_text.specs.declared.name.Bind.{Bind}
use Rattle.odd_text.specs.declared.name.Name.{Name}
use Rattle.odd_tokens.specs.Characters.{IsLegal, IsNCName, is_space}
use Rattle.odd_tree.specs.Names.{IsBinding, xmlns_namespace}
use Rattle.odd_forms.specs.Excepting.{IsPrefixed}
use Rattle.odd_text.specs.Sorted.{AreRising}
use Rattle.rng_types.specs.Bounds.{IsFormedBounds}
use Rattle.rng_types.specs.declared.bounds.Bounds.{Bounds}
use Rattle.odd_content.specs.FormedData.{IsFormedData, IsFormedList}
use Rattle.odd_content.specs.declared.content.Condition.{Condition}
use Rattle.odd_content.specs.declared.content.Content.{Content, Empty, Text, Value, Vals, Element, Class, Macro, Any, Sequence', Alternate', Row_of-Content, end_of-Content, more_of-Content}
use Rattle.odd_content.specs.declared.content.Pick.{Pick}
use Rattle.odd_content.specs.declared.content.Pick.TheVariants as pick

-- declarations of namespaces that may be in force around a content
abbrev pub AreBound : List Bind → Type 0
AreBound binds = All IsBinding binds × All (λ (b : Bind). IsLegal b.ns) binds

-- a namespace that a condition names
pub record IsNamespace (space : List ℕ) : Type 0 where
  pub legal : IsLegal space
  pub filled : space ≢ []
  pub unspaced : list_any is_space space ≡ false

-- one that it excepts is not written as a prefixed name
pub record IsExceptedNamespace (space : List ℕ) : Type 0 where
  pub is_namespace : IsNamespace space
  pub unprefixed : (prefix local : List ℕ) → IsPrefixed space prefix local → ⊥

-- a name that it excepts
pub record IsExceptedName (name : Name) : Type 0 where
  pub named : IsNCName name.local
  pub legal : IsLegal name.ns
  pub filled : name.ns ≢ []
  pub unreserved : name.ns ≢ xmlns_namespace

-- each list of a condition is in rising order, each item once
pub record IsFormedCondition (c : Condition) : Type 0 where
  pub require_rise : AreRising text_cmp c.require
  pub require : All IsNamespace c.require
  pub spaces_rise : AreRising text_cmp c.spaces
  pub spaces : All IsExceptedNamespace c.spaces
  pub names_rise : AreRising name_cmp c.names
  pub names : All IsExceptedName c.names

-- an `include` or `except` has a word, and each is a name
abbrev pub IsFormedPick : Pick → Type 0
IsFormedPick pick.All = Unit {0}
IsFormedPick (pick.Include words) = (words ≢ []) × All IsNCName words
IsFormedPick (pick.Except words) = (words ≢ []) × All IsNCName words

abbrev mutual
  -- a content of which so many levels at most stand in one another
  pub IsFormedWithin : ℕ → Content → Type 0
  IsFormedWithin left Empty = Unit {0}
  IsFormedWithin left Text = Unit {0}
  IsFormedWithin left (Value item) = IsFormedData item
  IsFormedWithin left (Vals list) = IsFormedList list
  IsFormedWithin left (Element key b) = IsNCName key × IsFormedBounds b
  IsFormedWithin left (Class key p b) = IsNCName key × IsFormedPick p × IsFormedBounds b
  IsFormedWithin left (Macro key b) = IsNCName key × IsFormedBounds b
  IsFormedWithin left (Any c b) = IsFormedCondition c × IsFormedBounds b
  IsFormedWithin left (Sequence' shape parts b) = (0 < left) × AreFormedWithin (left - 1) parts × IsFormedBounds b
  IsFormedWithin left (Alternate' shape parts b) = (0 < left) × AreFormedWithin (left - 1) parts × IsFormedBounds b

  pub AreFormedWithin : {n : _} → ℕ → Row_of-Content n → Type 0
  AreFormedWithin left end_of-Content = Unit {0}
  AreFormedWithin left (more_of-Content part parts) = IsFormedWithin left part × AreFormedWithin left parts

-- a content has at most 60 levels
abbrev pub IsFormedContent : Content → Type 0
IsFormedContent = IsFormedWithin 60

-- bounds that are not given
abbrev pub once : Bounds
once = record { min = 1; max = Some 1 }

abbrev mutual
  -- the forms that the content of a datatype has: items, lists of values, and alternations of these
  pub IsOfData : Content → Type 0
  IsOfData (Value item) = Unit {0}
  IsOfData (Vals list) = Unit {0}
  IsOfData (Alternate' shape parts b) = (b ≡ once) × AreOfData parts
  IsOfData Empty = ⊥
  IsOfData Text = ⊥
  IsOfData (Element key b) = ⊥
  IsOfData (Class key p b) = ⊥
  IsOfData (Macro key b) = ⊥
  IsOfData (Any c b) = ⊥
  IsOfData (Sequence' shape parts b) = ⊥

  pub AreOfData : {n : _} → Row_of-Content n → Type 0
  AreOfData end_of-Content = Unit {0}
  AreOfData (more_of-Content part parts) = IsOfData part × AreOfData parts
