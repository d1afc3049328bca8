-- Which attributes an element may have, and which it has to have (TEI Guidelines, the chapter Documentation Elements).
use Rattle.std.specs.Prelude.{◌≡◌, ℕ, List, All, IsTrue}
use Rattle.odd_text.specs.declared.key.Key.{Key}
use Rattle.odd_text.specs.Standing.{StandsIn}
use Rattle.odd_tree.specs.declared.tree.Attr.{Attr}
use Rattle.odd_attributes.specs.declared.att_def.AttDef.{AttDef}
use Rattle.odd_library.specs.Odd.{element_key}
use Rattle.odd_library.specs.declared.library.Library.{Library}
use Rattle.odd_meaning.specs.Naming.{attribute_name}
use Rattle.odd_meaning.specs.Offering.{Offers}
use Rattle.odd_meaning.specs.Values.{IsAdmittedValue}

-- the element offers an attribute of the name, and the value is one that it admits
pub record IsAdmittedAttribute (library : Library) (element : List ℕ) (a : Attr) : Type 0 where
  pub ident : List ℕ
  pub def : AttDef
  pub giver : Key
  pub offered : Offers library (element_key element) ident def giver
  pub named : a.name ≡ attribute_name ident def
  pub value : IsAdmittedValue library def a.value

-- each attribute that is there is one that the element admits, and each that it offers and needs is there
pub record AreAdmittedAttributes (library : Library) (element : List ℕ) (attrs : List Attr) : Type 0 where
  pub admitted : All (IsAdmittedAttribute library element) attrs
  pub complete : (ident : List ℕ) (def : AttDef) (giver : Key) → Offers library (element_key element) ident def giver → IsTrue def.needed
      → (a : Attr) × StandsIn attrs a × (a.name ≡ attribute_name ident def)
