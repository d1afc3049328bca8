-- An item declares at one key, and of items of which no two pass a test two that do are one.
use Rattle.std.proofs.Common.{◌≡◌, ◌≤◌, suc, ◌+◌, List, [], ◌∷◌, Bool, true, cond, ⊎_elim, sym, ap, ◌∙◌, arith}
use Rattle.std.proofs.lemmas.List.Sums.{sum_by-cons}
use Rattle.std.proofs.lemmas.Option.{same_Some}
use Rattle.std.specs.Prelude.{count_by}
use Rattle.odd_text.specs.declared.key.Key.{Key}
use Rattle.odd_text.proofs.InList.{nothing_stands, first_or_later}
use Rattle.odd_text.specs.Standing.{StandsIn}
use Rattle.odd_tree.specs.declared.tree.Tree.{Tree}
use Rattle.odd_decls.specs.Items.{IsSpecOf, kind_declared}

-- an item declares at one key
pub one_key : (item : Tree) (key other : Key) → IsSpecOf key item → IsSpecOf other item → key ≡ other
one_key item key other h k =
    let elements : h.element ≡ k.element = same_Some _ _ (sym h.is_item.0 ∙ k.is_item.0) in
    let kinds : key.kind ≡ other.kind = same_Some _ _ (sym h.of_kind ∙ ap kind_declared elements ∙ k.of_kind) in
    let idents : key.ident ≡ other.ident = same_Some _ _ (sym h.ident ∙ k.ident) in
    λ n. record { kind = kinds n; ident = idents n }

-- an item more that passes a test
one_more : {A : Type 0} (test : A → Bool) (xs : List A) (y : A) → test y ≡ true → count_by test (y ∷ xs) ≡ suc (count_by test xs)
one_more test xs y h = sum_by-cons (λ z. cond (test z) 1 0) y xs ∙ ap (λ b. cond b 1 0 + count_by test xs) h ∙ omega arith

-- an item more counts no fewer
not_fewer : {A : Type 0} (test : A → Bool) (xs : List A) (y : A) → count_by test xs ≤ count_by test (y ∷ xs)
not_fewer test xs y = let counts = sum_by-cons (λ z. cond (test z) 1 0) y xs in omega arith

-- what stands in a list and passes is counted
some_pass : {A : Type 0} (test : A → Bool) (xs : List A) (x : A) → StandsIn xs x → test x ≡ true → 1 ≤ count_by test xs
some_pass test [] x s h = absurd (nothing_stands x s)
some_pass test (y ∷ xs) x s h =
    ⊎_elim (λ e. omega (arith, one_more test xs y (ap test (sym e) ∙ h))) (λ t. omega (arith, some_pass test xs x t h, not_fewer test xs y)) (first_or_later y x xs s)

-- where no two items pass, two that do are one
pub one_passes : {A : Type 0} (test : A → Bool) (xs : List A) (x y : A) → (2 ≤ count_by test xs → ⊥) → StandsIn xs x → test x ≡ true → StandsIn xs y → test y ≡ true → x ≡ y
one_passes test [] x y few s h t k = absurd (nothing_stands x s)
one_passes {A} test (z ∷ xs) x y few s h t k =
    ⊎_elim (λ e. ⊎_elim (λ f. e ∙ sym f) (λ u. absurd (two x y e u h k)) (first_or_later z y xs t))
    (λ v. ⊎_elim (λ f. absurd (two y x f v k h)) (λ u. one_passes test xs x y (λ both. few (omega (arith, both, not_fewer test xs z))) v h u k) (first_or_later z y xs t))
    (first_or_later z x xs s)
  where
    two : (first later : A) → first ≡ z → StandsIn xs later → test first ≡ true → test later ≡ true → ⊥
    two first later e u p q = few (omega (arith, one_more test xs z (ap test (sym e) ∙ p), some_pass test xs later u q))
