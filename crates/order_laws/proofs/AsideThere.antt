-- Of two files that say the same in another order the same constraints are taken out, so what is read of them says the same in another order too.
use Rattle.std.proofs.Common.{◌≡◌, ℕ, ◌≤◌, Bool, true, false, List, [], ◌∷◌, length, refl, sym, subst, ◌∙◌, codes}
use Rattle.odd_text.specs.Standing.{StandsIn}
use Rattle.odd_tree.specs.Elements.{children_of}
use Rattle.odd_tree.specs.Formed.{IsFormed}
use Rattle.odd_tree.specs.declared.tree.Tree.{Tree}
use Rattle.odd_forms.specs.Table.{form_at}
use Rattle.odd_forms.specs.declared.element.Element.{Element}
use Rattle.odd_items.specs.Constraints.{IsConstraint, IsConstraintIn, IsReadIn}
use Rattle.odd_items.specs.Constraints as inner
use Rattle.odd_items.specs.Groups.{schema_names}
use Rattle.odd_items.specs.Search.{Finds, Found}
use Rattle.odd_decls.proofs.ReadWith.{one_read}
use Rattle.odd_decls.specs.Aside.{IsConstraintOf, IsLeftOut, IsReadOf}
use Rattle.odd_decls.specs.Aside as left
use Rattle.order_laws.specs.Reordered.{IsReordered}
use Rattle.order_laws.proofs.Alike.{same_one_of}
use Rattle.order_laws.proofs.FaultsThere.{is_item_there, same_child_in}
use Rattle.order_laws.proofs.OnceEach.{HasOneOfEach}
use Rattle.order_laws.proofs.OneToOne.{matched_few}
use Rattle.order_laws.proofs.PairsProofs.{paired}
use Rattle.order_laws.proofs.Pairing.{AreBeside, AreFirstsBeside, HasOwnIds, IsPairing, firsts_of_few, firsts_turned, item_there, own_ids_there, pairing, turned}
use Rattle.order_laws.proofs.WithoutThere.{SameGone, left_there}

-- an element that says the same as a constraint is one
constraint_there : {c d : Tree} → IsReordered c d → IsConstraint c → IsConstraint d
constraint_there r is = sym (same_one_of (codes "constraintSpec" ∷ []) r) ∙ is

module _ {Beside : Tree → Tree → Type 0} {t u : Tree} (p : IsPairing Beside t u) where
  -- what is read in an element is beside what is read in the one beside it
  parent_there : {e g : Element} {x parent : Tree} (y : Tree) → Beside x y → IsReadIn e x g parent → (other : Tree) × IsReadIn e y g other × Beside parent other
  parent_there y b inner.itself = (y, inner.itself, b)
  parent_there {e = e} {x = x} y b (inner.inside child is s read) =
      let c = p.child x y child b s in
      let h = parent_there c.0 c.2 read in
      (h.0, inner.inside c.0 (sym (same_child_in (form_at e) (p.alike child c.0 c.2)) ∙ is) c.1 h.1, h.2)

  -- one element is beside each
  one_beside : (c d other : Tree) → Beside c d → Beside c other → other ≡ d
  one_beside c d other b k = (p.one c other c d k b refl).1

  -- a constraint that may not stand in an element is beside one that may not stand in the one beside it
  constraint_in_there : {e : Element} {x c : Tree} (y d : Tree) → Beside x y → Beside c d → IsConstraintIn e x c → IsConstraintIn e y d
  constraint_in_there {c = c} y d b k (inner.child g parent read leaves s is) =
      let h = parent_there y b read in
      let i = p.child parent h.0 c h.2 s in
      inner.child g h.0 h.1 leaves (subst (StandsIn (children_of h.0)) (one_beside c d i.0 k i.2) i.1) (constraint_there (p.alike c d k) is)

  -- beside an item that is such a constraint, or has one in it, stands one that is so or has the one beside it
  constraint_of_there : {x c : Tree} (y d : Tree) → Beside x y → Beside c d → IsConstraintOf x c → IsConstraintOf y d
  constraint_of_there {x = x} y d b k (left.itself is) = subst (IsConstraintOf y) (one_beside x d y k b) (left.itself (constraint_there (p.alike x y b) is))
  constraint_of_there {x = x} y d b k (left.inside e is c) = left.inside e (is_item_there e (p.alike x y b) is) (constraint_in_there y d b k c)

  -- an element is a constraint that would break rule 2 where the one beside it is
  pub left_out_there : HasOwnIds t → {schemas others : List Found} → AreFirstsBeside Beside schemas others → (c d : Tree) → Beside c d → IsLeftOut t schemas c → IsLeftOut u others d
  left_out_there own firsts c d b (item, is, k) = let h = item_there p own firsts is in (h.0, h.1, constraint_of_there h.0.element d h.2.beside b k)

  -- where a file has one `schemaSpec` at most, the other has one beside it, or none
  schemas_there : ((found : List Found) → Finds schema_names false [] t found → length found ≤ 1) → {schemas : List Found} → Finds schema_names false [] t schemas
      → (others : List Found) × Finds schema_names false [] u others × AreFirstsBeside Beside schemas others
  schemas_there few {schemas = schemas} finds =
      let h = p.finds schema_names false schemas finds in
      (h.0, h.1, firsts_of_few (matched_few (AreBeside Beside) schemas h.0 h.2 (few schemas finds)))

-- of a file that says the same in another order something is read that does so too, and as many constraints are taken out
pub read_made : (aside : Bool) {t u r : Tree} {m first end other_first other_end : ℕ} → IsFormed first end t → IsFormed other_first other_end u → IsReordered t u → (aside ≡ true → HasOneOfEach t)
    → IsReadOf t aside r m → (s : Tree) × IsReadOf u aside s m × IsReordered r s
read_made false {u = u} formed other_formed is each left.whole = (u, left.whole, is)
read_made true {t = t} {u = u} formed other_formed is each (left.without schemas finds without) =
    let once = each refl in
    let pairs = paired is in
    let p = pairing formed other_formed pairs.1 in
    let (others, found, firsts) = schemas_there p once.schema finds in
    let gone : SameGone (IsLeftOut t schemas) (IsLeftOut u others) pairs.0 =
    λ q s. (left_out_there p once.ids firsts q.0 q.1 s, left_out_there (turned p) (own_ids_there p once.ids) (firsts_turned firsts) q.1 q.0 s) in
    let h = left_there (IsLeftOut t schemas) (IsLeftOut u others) pairs.1 gone without in
    (h.0, left.without others found h.1.is_left, h.1.reordered)

-- so what is read of two files that say the same in another order, with `aside` or without, does so, and as many constraints are taken out
pub read_there : (aside : Bool) {t u r s : Tree} {m n first end other_first other_end : ℕ} → IsFormed first end t → IsFormed other_first other_end u → IsReordered t u → (aside ≡ true → HasOneOfEach t)
    → IsReadOf t aside r m → IsReadOf u aside s n → IsReordered r s × (m ≡ n)
read_there aside {u = u} {r = r} {s = s} {m = m} {n = n} formed other_formed is each read other_read =
    let h = read_made aside formed other_formed is each read in
    let same = one_read u h.0 s aside m n h.1 other_read in
    (subst (IsReordered r) same.0 h.2, same.1)
