-- The items of a file, whose places rise: which of two stands before the other.
use Rattle.std.proofs.Common.{◌≡◌, ◌<◌, ℕ, List, ◌∷◌, ◌++◌, sym, ap, ◌∙◌, append_assoc, arith}
use Rattle.odd_items.specs.declared.listing.Item.{Item}
use Rattle.odd_text.specs.Standing.{StandsIn}
use Rattle.odd_tree.specs.declared.tree.Tree.{out-Tree}
use Rattle.odd_decls.proofs.Where.{order}
use Rattle.odd_decls.proofs.Where as where_in
use Rattle.odd_decls.specs.FileItems.{ItemsRise}

-- where an item begins
abbrev pub begins_at : Item → ℕ
begins_at item = (out-Tree item.tree.now).at

module _ (items before : List Item) (item : Item) (after : List Item) (rises : ItemsRise items) (parts : items ≡ before ++ item ∷ after) (earlier : Item) where
  -- what stands before an item stands among the items
  pub before_stands : StandsIn before earlier → StandsIn items earlier
  before_stands s = (s.0, s.1 ++ item ∷ after, parts ∙ ap (λ xs. xs ++ item ∷ after) s.2 ∙ append_assoc s.0 (earlier ∷ s.1) (item ∷ after))

  -- and begins before it
  pub before_begins : StandsIn before earlier → begins_at earlier < begins_at item
  unfolding before_stands
  before_begins s = rises s.0 s.1 after earlier item (before_stands s).2

  -- and what begins before it stands before it
  pub begins_before : StandsIn items earlier → begins_at earlier < begins_at item → StandsIn before earlier
  begins_before s low = elim (order before item after s.0 earlier s.1 (sym parts ∙ s.2)) [
    | where_in.earlier r h k ↦ (s.0, r, h)
    | where_in.same h i k ↦ let at : begins_at item ≡ begins_at earlier = ap begins_at i in absurd (omega arith)
    | where_in.later r h k ↦
        let other : begins_at item < begins_at earlier = rises before r s.1 item earlier (parts ∙ ap (λ xs. before ++ item ∷ xs) k) in
        absurd (omega arith)
  ]
