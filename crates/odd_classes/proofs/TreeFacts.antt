-- What a tree holds at a key, and what a put there does, by its entries.
use Rattle.std.proofs.Common.{◌≡◌, Bool, List, [], ◌∷◌, cond, Some, refl, sym, ap, ◌∙◌}
use Rattle.std.proofs.lemmas.Cmp.{eq_by_cmp_equiv}
use Rattle.std.specs.BTreeMap.{BTreeMap, get, is_at}
use Rattle.std.specs.Cmp.{IsTotalOrder}
use Rattle.std.specs.FinMap.{find}
use Rattle.std.specs.Map.{lookup}
use Rattle.std.specs.Ordering.{eq_by_cmp}
use Rattle.std.specs.declared.cmp.Ordering.{Ordering}
use Rattle.odd_text.specs.Map.{SetsOnly}

module _ {K V : Type 0} (order : K → K → Ordering) where
  -- a look-up among the entries finds the value of the first at the key
  looked_up : (key : K) (entries : List (K × V)) → lookup (is_at (order key)) entries ≡ find order key entries
  looked_up key [] = refl
  looked_up key (e ∷ entries) = ap (cond (eq_by_cmp order key e.0) (Some e.1)) (looked_up key entries)

  -- a tree has at a key what is found there among its entries
  pub got_found : (tree : BTreeMap K V) (key : K) → get order tree key ≡ find order key tree.entries
  got_found tree key = looked_up key tree.entries

  -- a tree that has the value at the key, and else what the old one has, sets only that
  pub tree_sets : IsTotalOrder order → (old new : BTreeMap K V) (key : K) (value : V)
      → ((asked : K) → get order new asked ≡ cond (is_at (order key) asked) (Some value) (get order old asked)) → SetsOnly order old.entries new.entries key value
  tree_sets total old new key value updates asked =
      sym (got_found new asked) ∙ updates asked ∙ ap (cond (eq_by_cmp order key asked) (Some value)) (got_found old asked)
      ∙ ap (λ (same : Bool). cond same (Some value) (find order asked old.entries)) ((eq_by_cmp_equiv total).symm key asked)
