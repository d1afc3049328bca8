-- Places in lists, and the parents of the parts of what was found.
use Rattle.std.proofs.Common.{◌≡◌, ℕ, zero, suc, ◌+◌, ◌⊎◌, inl, inr, ⊎_elim, Bool, true, false, List, [], ◌∷◌, ◌++◌, length, Option, Some, None, slice_get, refl, sym, ap, ap₂, subst, ◌∙◌, append_assoc, arith, IsTrue}
use Rattle.std.proofs.lemmas.Bool.{false≢true}
use Rattle.std.proofs.lemmas.List.{length-append}
use Rattle.std.proofs.lemmas.Option.{none-some, same_Some}
use Rattle.odd_text.specs.Standing.{StandsIn}
use Rattle.odd_text.proofs.InList.{nothing_stands, only_item, stands_first}
use Rattle.odd_text.proofs.InList as standing
use Rattle.odd_forms.specs.Names.{is_one_of}
use Rattle.odd_items.specs.Adding.{ArePartParents}
use Rattle.odd_items.specs.Search.{Found, children_found, is_searched}
use Rattle.odd_items.specs.Searching.{AreParents, HasParent, IsChildAt}
use Rattle.odd_items.specs.declared.searching.Kept.{Kept}

-- what stands in the first list stands at the same place in both
pub get_left : {X : Type 0} (xs ys : List X) (i : ℕ) (x : X) → slice_get xs i ≡ Some x → slice_get (xs ++ ys) i ≡ Some x
get_left [] ys i x e = absurd (none-some _ e)
get_left (y ∷ xs) ys zero x e = e
get_left (y ∷ xs) ys (suc i) x e = get_left xs ys i x e

-- what stands in the second comes after all of the first
pub get_right : {X : Type 0} (xs ys : List X) (i : ℕ) (x : X) → slice_get ys i ≡ Some x → slice_get (xs ++ ys) (length xs + i) ≡ Some x
get_right [] ys i x e = let same : i ≡ 0 + i = omega arith in subst (λ n. slice_get ys n ≡ Some x) same e
get_right (y ∷ xs) ys i x e = let next : length (y ∷ xs) + i ≡ suc (length xs + i) = omega arith in subst (λ n. slice_get (y ∷ (xs ++ ys)) n ≡ Some x) (sym next) (get_right xs ys i x e)

-- what stands in both stands in the first or in the second
get_either : {X : Type 0} (xs ys : List X) (i : ℕ) (x : X) → slice_get (xs ++ ys) i ≡ Some x → (slice_get xs i ≡ Some x) ⊎ ((j : ℕ) × (i ≡ length xs + j) × (slice_get ys j ≡ Some x))
get_either [] ys i x e = inr (i, omega arith, e)
get_either (y ∷ xs) ys zero x e = inl e
get_either (y ∷ xs) ys (suc i) x e = ⊎_elim (λ h. inl h) (λ h. inr (h.0, omega (arith, h.1), h.2)) (get_either xs ys i x e)

-- what stands in the first list stands in both
stands_left : {X : Type 0} (xs ys : List X) (x : X) → StandsIn xs x → StandsIn (xs ++ ys) x
stands_left xs ys x s = (s.0, s.1 ++ ys, ap (λ l. l ++ ys) s.2 ∙ append_assoc s.0 (x ∷ s.1) ys)

-- and so does what stands in the second
stands_right : {X : Type 0} (xs ys : List X) (x : X) → StandsIn ys x → StandsIn (xs ++ ys) x
stands_right xs ys x s = (xs ++ s.0, s.1, ap (λ l. xs ++ l) s.2 ∙ sym (append_assoc xs s.0 (x ∷ s.1)))

-- what stands in both stands in one of them
stands_either : {X : Type 0} (xs ys : List X) (x : X) → StandsIn (xs ++ ys) x → StandsIn xs x ⊎ StandsIn ys x
stands_either [] ys x s = inr s
stands_either (k ∷ xs) ys x s =
    ⊎_elim (λ e. inl (subst (StandsIn (k ∷ xs)) (sym e) (stands_first k xs))) (λ later. ⊎_elim (λ h. inl (standing.stands_later k x xs h)) (λ h. inr h) (stands_either xs ys x later))
    (standing.first_or_later k x (xs ++ ys) s)

-- a child stays one with more after it
child_left : (xs ys : List Found) (holder place : ℕ) → IsChildAt xs holder place → IsChildAt (xs ++ ys) holder place
child_left xs ys holder place c = record {
  parent = c.parent;
  child = c.child;
  parent_at = get_left xs ys holder c.parent c.parent_at;
  child_at = get_left xs ys place c.child c.child_at;
  stands = c.stands;
}

-- and with more before it
child_right : (xs ys : List Found) (holder place : ℕ) → IsChildAt ys holder place → IsChildAt (xs ++ ys) (length xs + holder) (length xs + place)
child_right xs ys holder place c = record {
  parent = c.parent;
  child = c.child;
  parent_at = get_right xs ys holder c.parent c.parent_at;
  child_at = get_right xs ys place c.child c.child_at;
  stands = c.stands;
}

-- so does what has a parent
parent_left : (xs ys : List Kept) (place holder : ℕ) → HasParent xs place holder → HasParent (xs ++ ys) place holder
parent_left xs ys place holder h = (h.0, get_left xs ys place h.0 h.1, h.2)

parent_right : (xs ys : List Kept) (place holder : ℕ) → HasParent ys place holder → HasParent (xs ++ ys) (length xs + place) holder
parent_right xs ys place holder h = (h.0, get_right xs ys place h.0 h.1, h.2)

-- what has a parent in both has it in one of them
parent_either : (xs ys : List Kept) (place holder : ℕ) → HasParent (xs ++ ys) place holder → HasParent xs place holder ⊎ ((j : ℕ) × (place ≡ length xs + j) × HasParent ys j holder)
parent_either xs ys place holder h = ⊎_elim (λ e. inl (h.0, e, h.2)) (λ e. inr (e.0, e.1, (h.0, e.2, h.2))) (get_either xs ys place h.0 h.1)

module _ (names : List (List ℕ)) (outermost : Bool) where
  -- nothing has no parents
  pub parts_none : (offset : ℕ) (parent : Option ℕ) → ArePartParents names outermost offset parent [] [] []
  parts_none offset parent = record {
    as_many = refl;
    each = λ place holder h. absurd (none-some _ h.1);
    own = λ e child s q t. absurd (nothing_stands child s);
    inside = λ e inner holder child h s q t. absurd (none-some _ h);
  }

  -- two parts, one after the other
  pub parts_append : (offset next : ℕ) (parent : Option ℕ) (roots more_roots : List Found) (keeps more_keeps : List Kept) (found more_found : List Found) → next ≡ offset + length keeps
      → ArePartParents names outermost offset parent roots keeps found → ArePartParents names outermost next parent more_roots more_keeps more_found
      → ArePartParents names outermost offset parent (roots ++ more_roots) (keeps ++ more_keeps) (found ++ more_found)
  parts_append offset next parent roots more_roots keeps more_keeps found more_found begins a b = record {
    as_many = length-append keeps more_keeps ∙ ap₂ (λ m n. m + n) a.as_many b.as_many ∙ sym (length-append found more_found);
    each = λ place holder h. ⊎_elim (in_first place holder) (λ later. in_second place later.0 holder (later.1 ∙ ap (λ n. n + later.0) a.as_many) later.2) (parent_either keeps more_keeps place holder h);
    own = λ e child s q one. ⊎_elim
        (λ first. let h = a.own e child first q one in (h.0, get_left found more_found h.0 child h.1, h.2, get_left keeps more_keeps h.0 h.2 h.3, h.4))
        (λ second. let h = b.own e child second q one in (
          length found + h.0,
          get_right found more_found h.0 child h.1,
          h.2,
          at_keeps (λ n. slice_get (keeps ++ more_keeps) (n + h.0) ≡ Some h.2) (get_right keeps more_keeps h.0 h.2 h.3),
          h.4,
        )) (stands_either roots more_roots child s);
    inside = λ e inner holder child at s q one. ⊎_elim
        (λ first. let h = a.inside e inner holder child first s q one in (h.0, get_left found more_found h.0 child h.1, parent_left keeps more_keeps h.0 (offset + inner) h.2))
        (λ second. let h = b.inside e second.0 holder child second.2 s q one in
        let same : next + second.0 ≡ offset + inner = omega (arith, begins, a.as_many, second.1) in (
          length found + h.0,
          get_right found more_found h.0 child h.1,
          subst (HasParent (keeps ++ more_keeps) (length found + h.0)) same (at_keeps (λ n. HasParent (keeps ++ more_keeps) (n + h.0) (next + second.0)) (parent_right keeps more_keeps h.0 (next + second.0) h.2)),
        )) (get_either found more_found inner holder at);
  }
    where
      at_keeps : (P : ℕ → Type 0) → P (length keeps) → P (length found)
      at_keeps P h = subst P a.as_many h

      Goal : ℕ → ℕ → Type 0
      Goal place holder = ((parent ≡ Some holder) × (child : Found) × (slice_get (found ++ more_found) place ≡ Some child) × StandsIn (roots ++ more_roots) child)
          ⊎ ((inner : ℕ) × (holder ≡ offset + inner) × IsChildAt (found ++ more_found) inner place)

      in_first : (place holder : ℕ) → HasParent keeps place holder → Goal place holder
      in_first place holder h =
          ⊎_elim (λ own. inl (own.0, own.1, get_left found more_found place own.1 own.2, stands_left roots more_roots own.1 own.3))
          (λ deep. inr (deep.0, deep.1, child_left found more_found deep.0 place deep.2)) (a.each place holder h)

      in_second : (place later holder : ℕ) → place ≡ length found + later → HasParent more_keeps later holder → Goal place holder
      in_second place later holder is h =
          subst (λ p. Goal p holder) (sym is) (⊎_elim (λ own. inl (own.0, own.1, get_right found more_found later own.1 own.2, stands_right roots more_roots own.1 own.3))
          (λ deep. inr (length found + deep.0, omega (arith, begins, a.as_many, deep.1), child_right found more_found deep.0 later deep.2)) (b.each later holder h))

  -- in an element that is not searched
  pub parts_passed : (offset : ℕ) (parent : Option ℕ) (f : Found) → is_searched f.element ≡ false → ArePartParents names outermost offset parent (f ∷ []) [] []
  parts_passed offset parent f passed = record {
    as_many = refl;
    each = λ place holder h. absurd (none-some _ h.1);
    own = λ e child s q one. let same = only_item f child s in absurd (false≢true (sym passed ∙ ap (λ c. is_searched c.element) (sym same) ∙ q));
    inside = λ e inner holder child h s q t. absurd (none-some _ h);
  }

  -- of an element of the names where the outermost alone are looked for
  pub parts_outer : (offset : ℕ) (parent : Option ℕ) (f : Found) (kept : Kept) → outermost ≡ true → kept.parent ≡ parent → ArePartParents names outermost offset parent (f ∷ []) (kept ∷ []) (f ∷ [])
  parts_outer offset parent f kept outer is = record {
    as_many = refl;
    each = λ place holder h. inl (one place holder h);
    own = λ e child s q one. absurd (false≢true (sym e ∙ outer));
    inside = λ e inner holder child h s q t. absurd (false≢true (sym e ∙ outer));
  }
    where
      one : (place holder : ℕ) → HasParent (kept ∷ []) place holder → (parent ≡ Some holder) × (child : Found) × (slice_get (f ∷ []) place ≡ Some child) × StandsIn (f ∷ []) child
      one zero holder h = (sym is ∙ ap (λ k. k.parent) (same_Some kept h.0 h.1) ∙ h.2, f, refl, stands_first f [])
      one (suc place) holder h = absurd (none-some _ h.1)

  -- of what is found inside an element of none of the names
  pub parts_inside : (offset : ℕ) (parent : Option ℕ) (f : Found) (roots : List Found) (keeps : List Kept) (found : List Found) → is_one_of names f.element ≡ false
      → ArePartParents names outermost offset None roots keeps found → ArePartParents names outermost offset parent (f ∷ []) keeps found
  parts_inside offset parent f roots keeps found other a = record {
    as_many = a.as_many;
    each = λ place holder h. ⊎_elim (λ own. absurd (none-some _ own.0)) (λ deep. inr deep) (a.each place holder h);
    own = λ e child s q one. let same = only_item f child s in absurd (false≢true (sym other ∙ ap (λ c. is_one_of names c.element) (sym same) ∙ one));
    inside = a.inside;
  }

  -- of an element of the names, and of what is found inside it
  pub parts_named : (offset next : ℕ) (parent : Option ℕ) (f : Found) (kept : Kept) (keeps : List Kept) (found : List Found) → next ≡ offset + 1 → kept.parent ≡ parent
      → ArePartParents names outermost next (Some offset) (children_found f) keeps found → ArePartParents names outermost offset parent (f ∷ []) (kept ∷ keeps) (f ∷ found)
  parts_named offset next parent f kept keeps found begins is a = record {
    as_many = ap (λ n. suc n) a.as_many;
    each = each;
    own = λ e child s q one. (zero, ap Some (sym (only_item f child s)), kept, refl, is);
    inside = inside;
  }
    where
      each : (place holder : ℕ) → HasParent (kept ∷ keeps) place holder
          → ((parent ≡ Some holder) × (child : Found) × (slice_get (f ∷ found) place ≡ Some child) × StandsIn (f ∷ []) child) ⊎ ((inner : ℕ) × (holder ≡ offset + inner) × IsChildAt (f ∷ found) inner place)
      each zero holder h = inl (sym is ∙ ap (λ k. k.parent) (same_Some kept h.0 h.1) ∙ h.2, f, refl, stands_first f [])
      each (suc place) holder h = ⊎_elim
          (λ own. let same : offset ≡ holder = same_Some offset holder own.0 in inr (zero, omega (arith, same), record { parent = f; child = own.1; parent_at = refl; child_at = own.2; stands = own.3 }))
          (λ deep. inr (suc deep.0, omega (arith, begins, deep.1), record { parent = deep.2.parent; child = deep.2.child; parent_at = deep.2.parent_at; child_at = deep.2.child_at; stands = deep.2.stands }))
          (a.each place holder (h.0, h.1, h.2))

      inside : outermost ≡ false → (inner : ℕ) (holder child : Found) → slice_get (f ∷ found) inner ≡ Some holder → StandsIn (children_found holder) child → IsTrue (is_searched child.element) → IsTrue (is_one_of names child.element)
          → (place : ℕ) × (slice_get (f ∷ found) place ≡ Some child) × HasParent (kept ∷ keeps) place (offset + inner)
      inside e zero holder child at s q one =
          let h = a.own e child (subst (λ g. StandsIn (children_found g) child) (sym (same_Some f holder at)) s) q one in
          let same : offset ≡ offset + zero = omega arith in
          (suc h.0, h.1, (h.2, h.3, h.4 ∙ ap Some same))
      inside e (suc inner) holder child at s q one =
          let h = a.inside e inner holder child at s q one in
          let same : next + inner ≡ offset + suc inner = omega (arith, begins) in
          (suc h.0, h.1, (h.2.0, h.2.1, h.2.2 ∙ ap Some same))

  -- of all that was found
  pub all_parents : (f : Found) (keeps : List Kept) (found : List Found) → ArePartParents names outermost 0 None (f ∷ []) keeps found → AreParents names outermost keeps found
  all_parents f keeps found a = record {
    each = λ place holder h. ⊎_elim (λ own. absurd (none-some _ own.0)) (λ deep. let same : deep.0 ≡ holder = omega (arith, deep.1) in subst (λ n. IsChildAt found n place) same deep.2) (a.each place holder h);
    all = λ e holder parent child at s q one. let h = a.inside e holder parent child at s q one in let same : 0 + holder ≡ holder = omega arith in (h.0, h.1, subst (HasParent keeps h.0) same h.2);
  }
