-- What the parts of the reading of an item answer.
use Rattle.std.specs.Prelude.{◌≡◌, ℕ, List, [], Option, Some, None, codes, unwrap_or}
use Rattle.std.specs.Borrow.{Bor}
use Rattle.std.specs.Option.{option_map}
use Rattle.odd_text.specs.declared.key.Key.{Key}
use Rattle.odd_text.specs.declared.key.Kind.{Kind}
use Rattle.odd_text.specs.declared.name.Bind.{Bind}
use Rattle.odd_tree.specs.Elements.{given}
use Rattle.odd_tree.specs.declared.tree.Tree.{Tree, out-Tree}
use Rattle.odd_content.specs.declared.content.Content.{Content}
use Rattle.odd_forms.specs.declared.element.Element.{Element}
use Rattle.odd_forms.specs.declared.element.Element.TheVariants as element
use Rattle.odd_content.specs.Giving.{pick_given}
use Rattle.odd_library.specs.declared.membership.Membership.{Membership}
use Rattle.odd_attributes.specs.declared.att_edit.AttEdit.{AttEdit}
use Rattle.odd_decls.specs.Declares.{namespace_with, AreAttsDeclared, ChildrenGive, alt_declared, IsEntryOf, kind_taken, mode_given, type_given}
use Rattle.odd_decls.specs.Items.{IsSpecOf}
use Rattle.odd_items.specs.Search.{Found}
use Rattle.odd_library.specs.declared.odd.Entry.TheVariants as entry
use Rattle.odd_library.specs.declared.odd.Entry.{Entry}

-- the entry of a declaration with this key, and with what its children give
abbrev pub entry_made : List ℕ → Tree → Key → Option Content → Option Membership → List (List ℕ × AttEdit) → Entry
entry_made around item key content classes atts = entry.Spec (out-Tree item).at (record {
  key = key;
  mode = mode_given item;
  «module» = unwrap_or (given item (codes "module")) [];
  ns = namespace_with key.kind (mode_given item) around item;
  alt = alt_declared key.kind item;
  gives = type_given key.kind item;
  classes = classes;
  content = content;
  atts = atts;
})

-- it is made of the key that the declaration has, and of the edits of attributes that it gives
pub record IsEntryWith (around : List ℕ) (item : Tree) (c : Option Content) (m : Option Membership) (made : Entry) : Type 0 where
  pub key : Key
  pub is_spec : IsSpecOf key item
  pub atts : List (List ℕ × AttEdit)
  pub declared : AreAttsDeclared key.kind item atts
  pub is_made : made ≡ entry_made around item key c m atts

-- where it has a key
abbrev pub IsEntryMade : List ℕ → Tree → Option Content → Option Membership → Option Entry → Type 0
IsEntryMade around item c m None = (key : Key) → IsSpecOf key item → ⊥
IsEntryMade around item c m (Some made) = IsEntryWith around item c m made

-- what a declaration gives, by what its children do, with the namespace and the declarations around it
abbrev pub IsSpecRead : List ℕ → List Bind → Element → Tree → Option Entry → Type 0
IsSpecRead ns around e item made = (c : Option Content) × (m : Option Membership) × ChildrenGive around e item c m × IsEntryMade ns item c m made

-- the entry of an item that refers to a component of the kind, where it has a key
abbrev pub taken_of : Option Kind → Tree → Option Entry
taken_of None item = None
taken_of (Some kind) item = option_map (λ ident. entry.Take (out-Tree item).at (record { kind = kind; ident = ident })) (given item (codes "key"))

-- the entry of an item that refers to something, where it has a key
abbrev pub reference_of : Element → Tree → Option Entry
reference_of element.ModuleRef item = option_map (λ key. entry.Module (out-Tree item).at key (pick_given item)) (given item (codes "key"))
reference_of e item = taken_of (kind_taken e) item

-- an item is read as the entry, or as none
abbrev pub GivesEntry : List ℕ → Found → Option Entry → Type 0
GivesEntry ns item None = (made : Entry) → IsEntryOf ns item made → ⊥
GivesEntry ns item (Some made) = IsEntryOf ns item made

-- the key of what the element declares, where it declares a component whose ident is a name
abbrev pub IsKeyOf : Tree → Option Key → Type 0
IsKeyOf t None = (key : Key) → IsSpecOf key t → ⊥
IsKeyOf t (Some key) = IsSpecOf key t

-- the key of a kind and an ident
abbrev pub seen_key : Option (Kind × Bor (List ℕ)) → Option Key
seen_key given = option_map (λ p. record { kind = p.0; ident = p.1.now }) given
