-- What is read of a file, with `aside` or without: one tree, and what the file offends and declares is what that tree does.
use Rattle.std.proofs.Common.{◌≡◌, ℕ, Bool, true, false, List, [], refl, sym, subst}
use Rattle.std.specs.List.{Contains}
use Rattle.odd_text.specs.declared.offence.Offence.{Offence}
use Rattle.odd_tree.specs.Formed.{IsFormed}
use Rattle.odd_tree.specs.declared.tree.Tree.{Tree, out-Tree}
use Rattle.odd_items.proofs.ConstraintsLeft.{constraint_stands, left_by_places}
use Rattle.odd_items.proofs.Remaining.{formed_left, one_left}
use Rattle.odd_items.proofs.Standing.{StandsUnder, item_under, one_search}
use Rattle.odd_items.specs.Constraints.{AddsPlaces}
use Rattle.odd_items.specs.Groups.{schema_names}
use Rattle.odd_items.specs.Search.{Finds, Found}
use Rattle.odd_items.specs.Without.{IsWithout}
use Rattle.odd_library.specs.declared.odd.OddDoc.{OddDoc}
use Rattle.odd_decls.specs.Aside.{IsConstraintOf, IsLeftOut, IsReadOf}
use Rattle.odd_decls.specs.Aside as left
use Rattle.odd_decls.specs.Declares.{Declares, DeclaresWhole}
use Rattle.odd_decls.specs.Offences.{HasOffence, IsRefusal, OffendsWhole}
use Rattle.odd_decls.specs.Reading.{IsRefusalWhole}

-- a file is read as one tree
pub one_read : (t u v : Tree) (aside : Bool) (m n : ℕ) → IsReadOf t aside u m → IsReadOf t aside v n → (u ≡ v) × (m ≡ n)
one_read t u v aside m n left.whole left.whole = (refl, refl)
one_read t u v aside m n (left.without schemas finds is) (left.without others found also) =
    let same : others ≡ schemas = one_search schema_names false [] t others schemas found finds in
    one_left (IsLeftOut t schemas) t u v m n is (subst (λ fs. IsWithout (IsLeftOut t fs) t v n) same also)

-- what is read of a formed file is formed
pub formed_read : (first end : ℕ) (t u : Tree) (aside : Bool) (n : ℕ) → IsFormed first end t → IsReadOf t aside u n → IsFormed first end u
formed_read first end t u aside n formed left.whole = formed
formed_read first end t u aside n formed (left.without schemas finds is) = formed_left (IsLeftOut t schemas) first end t u n formed is

-- a file that declares a doc has no offence
pub declared_sound : (t : Tree) (aside : Bool) (doc : OddDoc) → Declares t aside doc → (place rule : ℕ) → HasOffence t aside place rule → ⊥
declared_sound t aside doc d place rule h =
    let same = one_read t h.read d.read aside h.asides doc.asides h.is_read d.is_read in
    d.declares.unoffended place rule (subst (λ u. OffendsWhole u place rule) same.0 h.offends)

-- an offence of the file as it is read is one of the file, and the first of these the first
pub refused_with : (t u : Tree) (aside : Bool) (n file : ℕ) (offence : Offence) → IsReadOf t aside u n → IsRefusalWhole u file offence → IsRefusal t aside file offence
refused_with t u aside n file offence is r = record {
  is_one = record { in_file = r.in_file; place = r.place; placed = r.placed; offends = record { read = u; asides = n; is_read = is; offends = r.is_first.is_one } };
  first = λ place rule h.
      let same = one_read t h.read u aside h.asides n h.is_read is in
      r.is_first.first place rule (subst (λ w. OffendsWhole w place rule) same.0 h.offends);
}

-- what is left out of the file stands there
left_out_stands : (t : Tree) (schemas : List Found) → Finds schema_names false [] t schemas → (c : Tree) → IsLeftOut t schemas c → (f : Found) × StandsUnder [] t f × (f.element ≡ c)
left_out_stands t schemas finds c h = of_item h.0 (item_under t schemas finds h.0 h.1) h.2 refl
  where
    of_item : (item : Found) → StandsUnder [] t item → {s : Tree} → IsConstraintOf s c → item.element ≡ s → (f : Found) × StandsUnder [] t f × (f.element ≡ c)
    of_item item under (left.itself k) same = (item, under, same)
    of_item item under {s} (left.inside e is h) same = constraint_stands t item under e s c same h

-- where the elements are gone whose places were put into a set, a formed file is read as what is left
pub places_left : (first end : ℕ) (t u : Tree) (schemas : List Found) (places : List ℕ) (count : ℕ) → IsFormed first end t → Finds schema_names false [] t schemas
    → AddsPlaces (IsLeftOut t schemas) [] places → IsWithout (λ c. Contains places (out-Tree c).at) t u count → IsReadOf t true u count
places_left first end t u schemas places count formed finds adds is =
    left.without schemas finds (left_by_places first end t u (IsLeftOut t schemas) places count formed (left_out_stands t schemas finds) adds is)

-- what is declared by the tree that is read of a file is declared by the file
pub declares_with : (t u : Tree) (aside : Bool) (n : ℕ) → IsReadOf t aside u n → (doc : OddDoc) → DeclaresWhole u doc × (doc.asides ≡ n) → Declares t aside doc
declares_with t u aside n is doc d = record { read = u; is_read = subst (IsReadOf t aside u) (sym d.1) is; declares = d.0 }
