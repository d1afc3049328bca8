-- Small theorems on what contents admit.
use Rattle.std.proofs.Common.{◌≡◌, ℕ, zero, suc, List, [], ◌∷◌, ◌++◌, length, codes, ◌≤◌, refl, sym, ap, arith, length-append}
use Rattle.std.proofs.lemmas.List.{append-nil}
use Rattle.std.specs.Prelude.{Option, Some, None}
use Rattle.odd_tree.specs.Significant.{Marking}
use Rattle.odd_tree.specs.Splits.{Counted, Pieces}
use Rattle.odd_tree.specs.declared.tree.Node.{Node, Element as AnElement}
use Rattle.odd_tree.specs.declared.tree.Tree.{Tree}
use Rattle.rng_types.specs.declared.bounds.Bounds.{Bounds}
use Rattle.odd_content.specs.declared.content.Content.{Content, Alternate, Element, Sequence}
use Rattle.odd_library.specs.declared.library.Library.{Library}
use Rattle.odd_meaning.specs.Contents.{Admits, IsOfMacro, IsOne, IsWithin}
use Rattle.odd_meaning.proofs.Rows.{OneOf, alternate_admits, sequence_admits}
use Rattle.odd_meaning.specs.Labels.{Label, element}

abbrev b : Label
b = element (codes "b")

abbrev b_times : ℕ → Option ℕ → Content
b_times min max = Element (codes "b") (record { min = min; max = max })

one : (m : Marking Label) (t : Tree) → m t b → IsOne m b (AnElement t ∷ [])
one m t h = record { tree = t; alone = refl; counted = h }

-- pieces of one element each are as many as the elements
as_many : (m : Marking Label) (n : ℕ) (w : List Node) → Pieces (IsOne m b) n w → length w ≡ n
as_many m zero w h = ap length h
as_many m (suc n) w h =
    let first : length h.left ≡ 1 = ap length h.first.alone in
    let rest : length h.right ≡ n = as_many m n h.right h.second in
    omega (arith, ap length h.split, length-append h.left h.right, first, rest)

module _ (library : Library) where
  -- two elements are admitted two to four times
  two_admitted : (m : Marking Label) (t u : Tree) → m t b → m u b → Admits library m (b_times 2 (Some 4)) (AnElement t ∷ AnElement u ∷ [])
  two_admitted m t u h k = record {
    count = 2;
    allowed = (omega arith, omega arith);
    pieces = record {
      left = AnElement t ∷ [];
      right = AnElement u ∷ [];
      split = refl;
      first = one m t h;
      second = record { left = AnElement u ∷ []; right = []; split = refl; first = one m u k; second = refl };
    };
  }

  -- one is not, and five are not
  one_not : (m : Marking Label) (t : Tree) → Admits library m (b_times 2 (Some 4)) (AnElement t ∷ []) → ⊥
  one_not m t a = let n = as_many m a.count _ a.pieces in omega (arith, n, a.allowed.0)

  five_not : (m : Marking Label) (t : Tree) → Admits library m (b_times 2 (Some 4)) (AnElement t ∷ AnElement t ∷ AnElement t ∷ AnElement t ∷ AnElement t ∷ []) → ⊥
  five_not m t a = let n = as_many m a.count _ a.pieces in omega (arith, n, a.allowed.1)

  -- no times: no child alone
  none_admitted : (m : Marking Label) → Admits library m (b_times 0 (Some 0)) []
  none_admitted m = record { count = 0; allowed = (omega arith, omega arith); pieces = refl }

  none_else : (m : Marking Label) (t : Tree) → Admits library m (b_times 0 (Some 0)) (AnElement t ∷ []) → ⊥
  none_else m t a = let n = as_many m a.count _ a.pieces in omega (arith, n, a.allowed.1)

  -- nothing is admitted any number of times from one on, where no part admits anything
  nothing_not : (m : Marking Label) (w : List Node) → Admits library m (Alternate [] (record { min = 1; max = None })) w → ⊥
  nothing_not m w a = none (c.count) c.allowed.0 c.pieces
    where
      c : Counted (IsWithin (record { min = 1; max = None })) (OneOf (Admits library m) []) w
      c = (alternate_admits (IsOfMacro library m) library m [] (record { min = 1; max = None }) w).0 a

      none : (n : ℕ) → 1 ≤ n → Pieces (OneOf (Admits library m) []) n w → ⊥
      none zero h p = omega (arith, h)
      none (suc n) h p = p.first

  abbrev once : Bounds
  once = record { min = 1; max = Some 1 }

  abbrev both_optional : Content
  both_optional = Sequence (b_times 0 (Some 1) ∷ b_times 0 (Some 1) ∷ []) once

  none_of_it : (m : Marking Label) → Admits library m (b_times 0 (Some 1)) []
  none_of_it m = record { count = 0; allowed = (omega arith, omega arith); pieces = refl }

  one_of_it : (m : Marking Label) (t : Tree) → m t b → Admits library m (b_times 0 (Some 1)) (AnElement t ∷ [])
  one_of_it m t h =
      record { count = 1; allowed = (omega arith, omega arith); pieces = record { left = AnElement t ∷ []; right = []; split = refl; first = one m t h; second = refl } }

  in_two : (m : Marking Label) (u v : List Node) → Admits library m (b_times 0 (Some 1)) u → Admits library m (b_times 0 (Some 1)) v → Admits library m both_optional (u ++ v)
  in_two m u v h k = (sequence_admits (IsOfMacro library m) library m _ once (u ++ v)).1 (record {
    count = 1;
    allowed = (omega arith, omega arith);
    pieces = record {
      left = u ++ v;
      right = [];
      split = sym (append-nil (u ++ v));
      first = record { left = u; right = v; split = refl; first = h; second = record { left = v; right = []; split = sym (append-nil v); first = k; second = refl } };
      second = refl;
    };
  })

  -- a sequence whose parts may be empty admits no child
  empty_admitted : (m : Marking Label) → Admits library m both_optional []
  empty_admitted m = in_two m [] [] (none_of_it m) (none_of_it m)

  -- and one element in two ways: as the first part or as the second
  first_part : (m : Marking Label) (t : Tree) → m t b → Admits library m both_optional (AnElement t ∷ [])
  first_part m t h = in_two m (AnElement t ∷ []) [] (one_of_it m t h) (none_of_it m)

  second_part : (m : Marking Label) (t : Tree) → m t b → Admits library m both_optional (AnElement t ∷ [])
  second_part m t h = in_two m [] (AnElement t ∷ []) (none_of_it m) (one_of_it m t h)
