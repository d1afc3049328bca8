-- Tables that are taken or copied, node by node.
use Rattle.std.proofs.Common.{◌≡◌, ◌≢◌, ◌<◌, ◌+◌, ◌⊎◌, ◌↔◌, inl, inr, ⊎_elim, ℕ, zero, suc, Bool, true, false, List, [], ◌∷◌, ◌++◌, Option, Some, None, cond, length, get_or, set, slice_get, take, refl, sym, ap, subst, arith, ◌∙◌}
use Rattle.std.proofs.Math.ListN.{length-set}
use Rattle.std.proofs.lemmas.Option.{same_Some, slice_get_within}
use Rattle.std.specs.List.{Contains}
use Rattle.odd_graph.proofs.OneMore.{contains_next}
use Rattle.odd_offers.specs.Tables.{Table}
use Rattle.odd_text.proofs.InList.{stands_push}
use Rattle.odd_classes.specs.Inheriting.{AreLeft, AreTablesAt, HasTable}

-- the tables of some nodes were made, and those are gone alone that are of these and no longer needed
pub record TakenSoFar (last : List ℕ) (at : ℕ) (nodes : List ℕ) (old new : List (Option Table)) (made : List Table) : Type 0 where
  pub are : AreTablesAt old nodes made
  pub left : (node : ℕ) → (slice_get new node ≡ slice_get old node) ⊎ ((slice_get new node ≡ Some None) × (get_or last node 0 ≡ at) × Contains nodes node)
  pub same : length new ≡ length old

-- what stands at a place where something was put at one
pub put_at : {X : Type 0} (xs : List X) (i : ℕ) (y : X) (at : ℕ) → i < length xs → ((i ≡ at) × (slice_get (set xs i y) at ≡ Some y)) ⊎ ((i ≢ at) × (slice_get (set xs i y) at ≡ slice_get xs at))
put_at [] i y at l = absurd (omega arith)
put_at (x ∷ xs) zero y zero l = inl (refl, refl)
put_at (x ∷ xs) zero y (suc at) l = inr (λ e. omega (arith, e), refl)
put_at (x ∷ xs) (suc i) y zero l = inr (λ e. omega (arith, e), refl)
put_at (x ∷ xs) (suc i) y (suc at) l = ⊎_elim (λ h. inl (omega (arith, h.0), h.1)) (λ h. inr (λ e. h.0 (omega (arith, e)), h.1)) (put_at xs i y at (omega arith))

module _ (last : List ℕ) (at : ℕ) (nodes : List ℕ) (i : ℕ) (within : i < length nodes) (old now : List (Option Table)) (made : List Table) (so : TakenSoFar last at (take i nodes) old now made) where
  -- the next node
  abbrev node : ℕ
  node = get_or nodes i 0

  -- what the front with the next node contains
  next : (n : ℕ) → Contains (take (i + 1) nodes) n ↔ (Contains (take i nodes) n ⊎ (node ≡ n))
  next n = contains_next nodes i 0 n within

  -- a table at the next node is made
  module _ (table : Table) (has : slice_get now node ≡ Some (Some table)) where
    was : HasTable old node table
    was = ⊎_elim (λ same. sym same ∙ has) (λ gone. let none : Some (Some table) ≡ Some None = sym has ∙ gone.0 in cc) (so.left node)

    with_table : AreTablesAt old (take (i + 1) nodes) (made ++ table ∷ [])
    with_table other = (
      λ s. ⊎_elim (λ earlier. let h = (so.are other).0 earlier in (h.0, (next h.0).1 (inl h.1), h.2)) (λ is. (node, (next node).1 (inr refl), subst (HasTable old node) is was)) ((stands_push made table other).0 s),
      λ h. (stands_push made table other).1
          (⊎_elim (λ earlier. inl ((so.are other).1 (h.0, earlier, h.2))) (λ is. inr (same_Some table other (same_Some (Some table) (Some other) (sym was ∙ ap (slice_get old) is ∙ h.2)))) ((next h.0).0 h.1)),
    )

    -- and stays, where it is copied, or is gone, where it is taken
    pub table_made : (is_last : Bool) → (is_last ≡ true → get_or last node 0 ≡ at) → TakenSoFar last at (take (i + 1) nodes) old (set now node (cond is_last None (Some table))) (made ++ table ∷ [])
    table_made is_last ends = record {
      are = with_table;
      left = λ n. elim (put_at now node (cond is_last None (Some table)) n (slice_get_within now node (Some table) has)) [
        | inl here ↦ by_last n here.0 is_last refl here.1
        | inr other ↦ ⊎_elim (λ same. inl (other.1 ∙ same)) (λ gone. inr (other.1 ∙ gone.0, gone.1, (next n).1 (inl gone.2))) (so.left n)
      ];
      same = length-set now node (cond is_last None (Some table)) ∙ so.same;
    }
      where
        by_last : (n : ℕ) → node ≡ n → (b : Bool) → is_last ≡ b → slice_get (set now node (cond is_last None (Some table))) n ≡ Some (cond is_last None (Some table))
            → (slice_get (set now node (cond is_last None (Some table))) n ≡ slice_get old n)
            ⊎ ((slice_get (set now node (cond is_last None (Some table))) n ≡ Some None) × (get_or last n 0 ≡ at) × Contains (take (i + 1) nodes) n)
        by_last n here true e put = inr (put ∙ ap (λ b. Some (cond b None (Some table))) e, ap (λ m. get_or last m 0) (sym here) ∙ ends e, (next n).1 (inr here))
        by_last n here false e put = inl (put ∙ ap (λ b. Some (cond b None (Some table))) e ∙ sym was ∙ ap (slice_get old) here)

  -- where there is none, nothing is made
  without_table : ((table : Table) → HasTable old node table → Contains (take i nodes) node) → AreTablesAt old (take (i + 1) nodes) made
  without_table none other = (
    λ s. let h = (so.are other).0 s in (h.0, (next h.0).1 (inl h.1), h.2),
    λ h. ⊎_elim (λ earlier. (so.are other).1 (h.0, earlier, h.2))
        (λ is. let has : HasTable old node other = ap (slice_get old) is ∙ h.2 in (so.are other).1 (node, none other has, has)) ((next h.0).0 h.1),
  )

  left_still : (n : ℕ) → (slice_get now n ≡ slice_get old n) ⊎ ((slice_get now n ≡ Some None) × (get_or last n 0 ≡ at) × Contains (take (i + 1) nodes) n)
  left_still n = ⊎_elim (λ same. inl same) (λ gone. inr (gone.0, gone.1, (next n).1 (inl gone.2))) (so.left n)

  -- also where the place is none
  pub none_made : (node < length now → ⊥) → TakenSoFar last at (take (i + 1) nodes) old now made
  none_made outside = record {
    are = without_table (λ table has. ⊎_elim (λ same. absurd (outside (slice_get_within now node (Some table) (same ∙ has)))) (λ gone. gone.2) (so.left node));
    left = left_still;
    same = so.same;
  }

  -- an empty place stays one
  pub empty_made : (is_last : Bool) → slice_get now node ≡ Some None → TakenSoFar last at (take (i + 1) nodes) old (set now node (cond is_last None None)) made
  empty_made is_last empty = record {
    are = without_table (λ table has. ⊎_elim (λ same. let no : Some None ≡ Some (Some table) = sym empty ∙ same ∙ has in cc) (λ gone. gone.2) (so.left node));
    left = λ n. elim (put_at now node (cond is_last None None) n (slice_get_within now node None empty)) [
      | inl here ↦ ⊎_elim (λ same. inl (here.1 ∙ both_none is_last ∙ sym empty ∙ ap (slice_get now) here.0 ∙ same)) (λ gone. inr (here.1 ∙ both_none is_last, gone.1, gone.2)) (left_still n)
      | inr other ↦ ⊎_elim (λ same. inl (other.1 ∙ same)) (λ gone. inr (other.1 ∙ gone.0, gone.1, gone.2)) (left_still n)
    ];
    same = length-set now node (cond is_last None None) ∙ so.same;
  }
    where
      both_none : (b : Bool) → ◌≡◌ {A = Option (Option Table)} (Some (cond b None None)) (Some None)
      both_none true = refl
      both_none false = refl

-- all tables of the nodes
pub all_taken : (last : List ℕ) (at : ℕ) (nodes : List ℕ) (old new : List (Option Table)) (made : List Table) → TakenSoFar last at nodes old new made → AreLeft last at old new
all_taken last at nodes old new made so node = ⊎_elim (λ same. inl same) (λ gone. inr (gone.0, gone.1)) (so.left node)
