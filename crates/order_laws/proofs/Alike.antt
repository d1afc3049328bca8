-- Trees that say the same in another order have the same tags, and their children are the same as sets and in number.
use Rattle.std.proofs.Common.{◌≡◌, ◌&&◌, not, ℕ, List, [], ◌∷◌, ◌++◌, ap, codes}
use Rattle.odd_text.specs.declared.name.Bind.{Bind}
use Rattle.odd_text.specs.Same.{is_same}
use Rattle.odd_tree.specs.Elements.{attribute_value, given, within}
use Rattle.odd_tree.specs.declared.tree.Tree.{Tree, out-Tree}
use Rattle.odd_forms.specs.Names.{is_one_of, is_tei, tei_namespace}
use Rattle.odd_text.specs.Same.{is_among}
use Rattle.odd_items.specs.Groups.{id_among, id_of}
use Rattle.odd_items.specs.Search.{is_searched}
use Rattle.order_laws.specs.Reordered.{IsReordered, element}

pub same_name : {t u : Tree} → IsReordered t u → (out-Tree t).name ≡ (out-Tree u).name
same_name (element n a b s c) = n

pub same_attrs : {t u : Tree} → IsReordered t u → (out-Tree t).attrs ≡ (out-Tree u).attrs
same_attrs (element n a b s c) = a

pub same_binds : {t u : Tree} → IsReordered t u → (out-Tree t).binds ≡ (out-Tree u).binds
same_binds (element n a b s c) = b

pub same_given : {t u : Tree} (local : List ℕ) → IsReordered t u → given t local ≡ given u local
same_given local r = ap (λ attrs. attribute_value attrs local) (same_attrs r)

pub same_id : {t u : Tree} → IsReordered t u → id_of t ≡ id_of u
same_id r = ap id_among (same_attrs r)

pub same_within : {t u : Tree} (around : List Bind) → IsReordered t u → within around t ≡ within around u
same_within around r = ap (λ binds. around ++ binds) (same_binds r)

pub same_one_of : {t u : Tree} (locals : List (List ℕ)) → IsReordered t u → is_one_of locals t ≡ is_one_of locals u
same_one_of locals r = ap (λ name. is_same name.ns tei_namespace && is_among locals name.local) (same_name r)

pub same_tei : {t u : Tree} → IsReordered t u → is_tei t ≡ is_tei u
same_tei r = ap (λ name. is_same name.ns tei_namespace) (same_name r)

pub same_searched : {t u : Tree} → IsReordered t u → is_searched t ≡ is_searched u
same_searched r = ap (λ name. is_same name.ns tei_namespace && not (is_same name.ns tei_namespace && is_among (codes "constraintSpec" ∷ []) name.local)) (same_name r)
