-- A sweep, act by act.
use Rattle.std.proofs.Common.{◌≡◌, Bool, true, false, cond, List, [], ◌∷◌, Option, Some, None, refl, sym, ap, subst, ◌∙◌}
use Rattle.std.proofs.lemmas.Map.Views.{tells_apart}
use Rattle.std.specs.Cmp.{IsTotalOrder, tied_itself}
use Rattle.std.specs.FinMap.{find}
use Rattle.std.specs.List.{AllByRecursion}
use Rattle.std.specs.Ordering.{eq_by_cmp, is_eq, ordering_reverse}
use Rattle.std.specs.declared.cmp.Ordering.{Ordering}
use Rattle.std.specs.declared.cmp.Ordering.TheVariants.{Equal}
use Rattle.odd_text.proofs.Rise.{IsAboveAll, IsBelowAll, Rises, above_push}
use Rattle.odd_modes.specs.Swept.{pushed, rest_taken, swept_at, value_taken}
use Rattle.odd_modes.specs.declared.sweeping.Act.{Act}
use Rattle.odd_modes.proofs.Finds.{found_above, found_more, none_above, taken_others, taken_rises, taken_value}

-- m has what the acts that are done leave of the base, and b and y are what is left of base and layer
pub record Sweeps {K E X : Type 0} (order : K → K → Ordering) (laid : E → Option X → Option X) (base : List (K × X)) (layer : List (K × Act E))
    (m : List (K × X)) (b : List (K × X)) (y : List (K × Act E)) : Type 0 where
  pub rises_b : Rises order b
  pub rises_y : Rises order y
  pub above : AllByRecursion (λ e. IsAboveAll order m e.0) y
  pub left : (k : K) (a : Act E) → find order k y ≡ Some a → (find order k b ≡ find order k base) × (find order k layer ≡ Some a)
  pub made : (k : K) → find order k y ≡ None → find order k m ≡ swept_at laid (find order k layer) (find order k base)

module _ {K E X : Type 0} (R : K → K → Ordering) (o : IsTotalOrder R) (exact : (x y : K) → R x y ≡ Equal → x ≡ y) (laid : E → Option X → Option X)
    (base : List (K × X)) (layer : List (K × Act E)) where
  none_above_all : {A : Type 0} (ys : List (K × A)) → AllByRecursion (λ e. IsAboveAll {V = X} R [] e.0) ys
  none_above_all [] = tt
  none_above_all (e ∷ es) = (tt, none_above_all es)

  pub sweep_begins : Rises R base → Rises R layer → Sweeps R laid base layer [] base layer
  sweep_begins b y = record {
    rises_b = b;
    rises_y = y;
    above = none_above_all layer;
    left = λ k a e. (refl, e);
    made = λ k e. ap (λ z. swept_at laid z (find R k base)) (sym e);
  }

  self_tie : (q : K) → eq_by_cmp R q q ≡ true
  self_tie q = ap is_eq (tied_itself o q)

  above_pushed : {A : Type 0} (q : K) (v : Option X) (m : List (K × X)) (ys : List (K × A)) → AllByRecursion (λ e. IsAboveAll R m e.0) ys → IsBelowAll R q ys
      → AllByRecursion (λ e. IsAboveAll R (pushed m q v) e.0) ys
  above_pushed q None m ys a b = a
  above_pushed q (Some v) m [] a b = tt
  above_pushed q (Some v) m (e ∷ es) a b = (above_push R m e.0 q v a.0 b.0, above_pushed q (Some v) m es a.1 b.1)

  pushed_finds : (k q : K) (v : Option X) (m : List (K × X)) → IsAboveAll R m q → find R k (pushed m q v) ≡ cond (eq_by_cmp R k q) v (find R k m)
  pushed_finds k q None m a = by_tie (eq_by_cmp R k q) refl
    where
      by_tie : (b : Bool) → eq_by_cmp R k q ≡ b → find R k m ≡ cond b None (find R k m)
      by_tie true e = ap (λ z. find R z m) (tells_apart exact k q e) ∙ none_above R o exact q m a
      by_tie false e = refl
  pushed_finds k q (Some v) m a = found_more R o exact k q v m a

  module _ (q : K) (a : Act E) (y : List (K × Act E)) (m b : List (K × X)) (s : Sweeps R laid base layer m b ((q, a) ∷ y)) where
    pub act_found : find R q layer ≡ Some a
    act_found = (s.left q a (ap (λ t. cond t (Some a) (find R q y)) (self_tie q))).1

    pub held_found : value_taken R q b ≡ find R q base
    held_found = taken_value R o exact q b s.rises_b ∙ (s.left q a (ap (λ t. cond t (Some a) (find R q y)) (self_tie q))).0

    pub sweep_goes_on : Sweeps R laid base layer (pushed m q (swept_at laid (Some a) (value_taken R q b))) (rest_taken R q b) y
    sweep_goes_on =
        let value = swept_at laid (Some a) (value_taken R q b) in
        record {
          rises_b = taken_rises R o exact q b s.rises_b;
          rises_y = s.rises_y.1;
          above = above_pushed q value m y s.above.1 s.rises_y.0;
          left = λ k c e.
              let less = found_above R o exact q k c y s.rises_y.0 e in
              let tie : eq_by_cmp R k q ≡ false = ap is_eq (o.antisymm k q ∙ ap ordering_reverse less) in
              let there : find R k ((q, a) ∷ y) ≡ Some c = ap (λ t. cond t (Some a) (find R k y)) tie ∙ e in
              (taken_others R o exact q k b less ∙ (s.left k c there).0, (s.left k c there).1);
          made = λ k e. pushed_finds k q value m s.above.0 ∙ by_tie k e (eq_by_cmp R k q) refl;
        }
      where
        by_tie : (k : K) → find R k y ≡ None → (t : Bool) → eq_by_cmp R k q ≡ t
            → cond t (swept_at laid (Some a) (value_taken R q b)) (find R k m) ≡ swept_at laid (find R k layer) (find R k base)
        by_tie k e true p =
            subst (λ z. swept_at laid (Some a) (value_taken R q b) ≡ swept_at laid (find R z layer) (find R z base)) (sym (tells_apart exact k q p))
            (ap (swept_at laid (Some a)) held_found ∙ ap (λ z. swept_at laid z (find R q base)) (sym act_found))
        by_tie k e false p = s.made k (ap (λ t. cond t (Some a) (find R k y)) p ∙ e)

  pub sweep_ends : (y : List (K × Act E)) (m b : List (K × X)) → Sweeps R laid base layer m b y → y ≡ [] → (k : K) → find R k m ≡ swept_at laid (find R k layer) (find R k base)
  sweep_ends y m b s e k = s.made k (ap (find R k) e)
