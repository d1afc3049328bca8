-- What a vector's iterator has left.
use Rattle.std.proofs.Common.{◌≡◌, ℕ, List, [], ◌∷◌, length, drop, map, Option, Some, None, refl, sym, ap, ◌∙◌}
use Rattle.std.proofs.lemmas.Iterator.{YieldsList}
use Rattle.std.proofs.lemmas.Iterator.Adapters.{YieldsList-from_vec}
use Rattle.std.specs.Vec.Iter.{into_iter_items, into_iter_steps}
use Rattle.std.specs.declared.vec.IntoIter.{IntoIter}

none_of : {X : Type 0} (xs : List X) → length xs ≡ 0 → xs ≡ []
none_of [] e = refl
none_of (x ∷ xs) e = cc

-- after one call of `next` all but the first is left
pub all_but_first : {X Z : Type 0} (f : X → List ℕ) (s t : IntoIter X Z) (r : Option X) → into_iter_steps s r t → drop 1 (map f (into_iter_items s)) ≡ map f (into_iter_items t)
all_but_first f s t None h =
    let before = none_of (into_iter_items s) (sym s.rest.ok.0 ∙ h.0) in
    let after = none_of (into_iter_items t) (sym t.rest.ok.0 ∙ h.1) in
    ap (λ xs. drop 1 (map f xs)) before ∙ sym (ap (map f) after)
all_but_first f s t (Some x) h = ap (λ xs. drop 1 (map f xs)) h.0

-- it yields what it has left
pub yields_items : {X Z : Type 0} (s : IntoIter X Z) → YieldsList (into_iter_steps {X = X} {Z = Z}) (λ y. y) s (into_iter_items s)
yields_items s = YieldsList-from_vec (into_iter_items s) refl s.rest.ok.0
