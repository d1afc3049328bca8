-- A chain that has no offence without `aside` is read with it as the same: from none of its files a constraint is taken out.
use Rattle.std.proofs.Common.{◌≡◌, ℕ, true, false, List, [], refl, sym, ap, subst, codes}
use Rattle.std.proofs.lemmas.Bool.{and_from, and_parts}
use Rattle.odd_text.specs.declared.name.Bind.{Bind}
use Rattle.odd_text.specs.Same.{is_same}
use Rattle.odd_text.proofs.InList.{standing, stands_first, stands_later}
use Rattle.odd_tree.proofs.PrintedTrees.{same_from}
use Rattle.odd_text.specs.Standing.{StandsIn}
use Rattle.odd_tree.specs.Elements.{children_of, within}
use Rattle.odd_tree.specs.Formed.{IsFormed}
use Rattle.odd_tree.specs.declared.tree.Tree.{Tree, out-Tree}
use Rattle.odd_forms.proofs.Children.{one_named}
use Rattle.odd_text.proofs.Least.{any_stands}
use Rattle.odd_forms.specs.Deep.{DeepFault, is_level, left_inside}
use Rattle.odd_forms.specs.Faults.{ChildFault, FormFault}
use Rattle.odd_forms.specs.Names.{is_one_of}
use Rattle.odd_forms.specs.Table.{form_at}
use Rattle.odd_forms.specs.declared.element.Element.{Element}
use Rattle.odd_items.proofs.AllLeft.{all_left}
use Rattle.odd_items.specs.Constraints.{IsConstraint, IsReadIn, LeavesOutConstraints}
use Rattle.odd_items.specs.Constraints as inner
use Rattle.odd_items.specs.Groups.{schema_names}
use Rattle.odd_items.specs.Search.{Finds, Found}
use Rattle.odd_decls.proofs.OneDoc.{HasNone}
use Rattle.odd_decls.specs.Aside.{IsConstraintOf, IsLeftOut, IsReadOf}
use Rattle.odd_decls.specs.Aside as aside
use Rattle.odd_decls.specs.Declares.{Declares, DeclaresWhole}
use Rattle.odd_decls.specs.Items.{at_of}
use Rattle.odd_decls.specs.Offences.{ItemFault, ItemsOffend, Offends}
use Rattle.odd_library.specs.declared.library.Library.{Library}
use Rattle.odd_library.specs.declared.odd.OddDoc.{OddDoc}
use Rattle.odd_chain.proofs.Files.{docs_give, of_chain, whole}
use Rattle.odd_chain.specs.Files.{AreDeclared, Gives}
use Rattle.odd_chain.specs.Files as files

-- a constraint is left out by its name where the element of the table leaves them out
by_name : (g : Element) (c : Tree) → LeavesOutConstraints g → IsConstraint c → is_one_of (form_at g).left_out_children c ≡ true
by_name g c leaves is =
    let names = (form_at g).left_out_children in
    let local : (out-Tree c).name.local ≡ codes "constraintSpec" = ap (λ n. n.local) (one_named (codes "constraintSpec") c is) in
    and_from _ _ (and_parts _ _ is).0 ((any_stands (is_same (out-Tree c).name.local) names).1 (codes "constraintSpec", standing names (codes "constraintSpec") leaves, same_from _ _ local))

-- an element in which one stands that may not breaks rule 2, wherever it is read
read_fault : {e g : Element} {t parent : Tree} → IsReadIn e t g parent → (c : Tree) → LeavesOutConstraints g → StandsIn (children_of parent) c → IsConstraint c → (levels : ℕ) (around : List Bind)
    → DeepFault e levels around t 2
read_fault {g = g} inner.itself c leaves stands is levels around = DeepFault.itself (FormFault.child c stands (ChildFault.left_out (by_name g c leaves is)))
read_fault {e = e} {t = t} (inner.inside {f = f} child of there read) c leaves stands is levels around =
    DeepFault.inside f child there of (read_fault read c leaves stands is (left_inside (is_level (form_at e) t) levels) (within around t))

-- and so does the item
item_fault : (around : List Bind) (item c : Tree) → IsConstraintOf item c → ItemFault around item 2
item_fault around item c (aside.itself is) = ItemFault.misplaced (ChildFault.left_out is)
item_fault around item c (aside.inside e of (inner.child g parent read leaves stands is)) = ItemFault.deep e of (read_fault read c leaves stands is 60 around)

-- so in a file without an offence none is left out
none_left_out : (t : Tree) (schemas : List Found) → HasNone t → Finds schema_names false [] t schemas → (c : Tree) → IsLeftOut t schemas c → ⊥
none_left_out t schemas none finds c (item, is, of) =
    none (at_of item) 2 (record { schemas = schemas; found = finds; offends = Offends.item (ItemsOffend.alone item is (item_fault item.around item.element c of) refl) })

-- and what it declares without `aside` it declares with it
declares_aside : (end : ℕ) (t : Tree) (doc : OddDoc) → IsFormed 0 end t → Declares t false doc → Declares t true doc
declares_aside end t doc is_formed d = by_read d.read doc.asides d.is_read d.declares refl
  where
    by_read : (u : Tree) (n : ℕ) → IsReadOf t false u n → DeclaresWhole u doc → doc.asides ≡ n → Declares t true doc
    by_read u n aside.whole w e =
        let all = all_left (IsLeftOut t w.schemas) (none_left_out t w.schemas w.unoffended w.found) 0 end t is_formed in
        record { read = t; is_read = subst (IsReadOf t true t) (sym e) (aside.without w.schemas w.found all); declares = w }

-- so do all files
declared_aside : (trees : List Tree) (docs : List OddDoc) → ((t : Tree) → StandsIn trees t → (end : ℕ) × IsFormed 0 end t) → AreDeclared false trees docs → AreDeclared true trees docs
declared_aside trees docs are_formed files.none = files.none
declared_aside trees docs are_formed (files.more {t = t} {trees = rest} {doc = doc} {docs = others} d are) =
    let f = are_formed t (stands_first t rest) in
    files.more (declares_aside f.0 t doc f.1 d) (declared_aside rest others (λ u s. are_formed u (stands_later t u rest s)) are)

pub gives_aside : (trees : List Tree) (library : Library) → ((t : Tree) → StandsIn trees t → (end : ℕ) × IsFormed 0 end t) → Gives false trees library → Gives true trees library
gives_aside trees library formed g =
    docs_give trees g.docs library (declared_aside trees g.docs formed g.declared) (λ file at o. g.unoffended file at (of_chain trees g.docs (whole trees g.docs g.declared) file at o)) g.is_library
