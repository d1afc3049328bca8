-- Which components of the library before it a file chooses.
use Rattle.std.specs.Prelude.{◌≡◌, ℕ, Bool, true, false, ◌&&◌, List, Some, IsTrue}
use Rattle.std.specs.FinMap.{find}
use Rattle.std.specs.List.{list_any}
use Rattle.std.specs.Ordering.{eq_by_cmp}
use Rattle.odd_text.specs.Key.{key_cmp}
use Rattle.odd_text.specs.declared.key.Key.{Key}
use Rattle.odd_text.specs.declared.key.Kind.{Kind}
use Rattle.odd_text.specs.declared.key.Kind.TheVariants as kind
use Rattle.odd_text.specs.Same.{is_same}
use Rattle.odd_content.specs.Picking.{is_picked}
use Rattle.odd_content.specs.declared.content.Pick.{Pick}
use Rattle.odd_library.specs.Library.{module_of}
use Rattle.odd_library.specs.declared.library.Component.{Component}
use Rattle.odd_library.specs.declared.library.Library.{Library}
use Rattle.odd_library.specs.declared.odd.Entry.{Entry}
use Rattle.odd_library.specs.declared.odd.Entry.TheVariants as entry
use Rattle.odd_library.specs.declared.odd.OddDoc.{OddDoc}

-- a reference to a module takes the elements that it names, and what is no element in either case
abbrev pub is_taken : Pick → Kind → List ℕ → Bool
is_taken p kind.Element ident = is_picked p ident
is_taken p kind.Class ident = true
is_taken p kind.Macro ident = true
is_taken p kind.Datatype ident = true

-- the item refers to the component that is held at the key: by its module, or by its key
abbrev pub refers : Entry → Key → Component → Bool
refers (entry.Module at name p) key part = is_same name (module_of part) && is_taken p key.kind key.ident
refers (entry.Take at taken) key part = eq_by_cmp key_cmp taken key
refers (entry.Spec at spec) key part = false

abbrev pub is_referred : List Entry → Key → Component → Bool
is_referred entries key part = list_any (λ e. refers e key part) entries

-- the library holds a component at the key, and an item of the file refers to it
pub record IsChosen (library : Library) (doc : OddDoc) (key : Key) : Type 0 where
  pub part : Component
  pub held : find key_cmp key library.parts ≡ Some part
  pub referred : IsTrue (is_referred doc.entries key part)
