-- Sets that have the characters that atoms take, and the patterns over them.
use Rattle.std.proofs.Common.{◌≡◌, ◌≤◌, ◌<◌, ◌+◌, ◌↔◌, ℕ, zero, suc, List, [], ◌∷◌, ◌++◌, length, get_or, take, refl, sym, ap, subst, ◌∙◌}
use Rattle.std.proofs.lemmas.List.{take_all, take_more}
use Rattle.odd_patterns.specs.Words.{Matches}
use Rattle.odd_patterns.specs.declared.pattern.Pat.{Pat}
use Rattle.odd_patterns.specs.declared.pattern.Pat.TheVariants as pat
use Rattle.odd_patterns.specs.declared.pattern.Pat.TheBlock.{hidden-the_row-Pat-0}
use denote.Hole.Carrier.{hidden}
use Rattle.odd_pool.proofs.Shape.{shape_fits}
use Rattle.odd_pool.specs.Pattern.{Fits, choice, group, more, shape}
use Rattle.rng_dialect.specs.declared.regex.Atom.{Atom}
use Rattle.rng_matching.specs.Chars.{admits as char_admits, takes_char}
use Rattle.rng_matching.specs.Searched.{admits, is_of_set}
use Rattle.rng_matching.specs.declared.searched.Set.{Set}

-- each set has what the atom in its place takes
abbrev pub AreAlike : List Set → List Atom → Type 0
AreAlike [] [] = Unit {0}
AreAlike [] (a ∷ atoms) = ⊥
AreAlike (s ∷ sets) [] = ⊥
AreAlike (s ∷ sets) (a ∷ atoms) = ((c : ℕ) → is_of_set s c ≡ takes_char a c) × AreAlike sets atoms

-- one more set, of one more atom
alike_push : (sets : List Set) (atoms : List Atom) (s : Set) (a : Atom) → AreAlike sets atoms → ((c : ℕ) → is_of_set s c ≡ takes_char a c) → AreAlike (sets ++ s ∷ []) (atoms ++ a ∷ [])
alike_push [] [] s a f h = (h, tt)
alike_push [] (b ∷ atoms) s a f h = absurd f
alike_push (r ∷ sets) [] s a f h = absurd f
alike_push (r ∷ sets) (b ∷ atoms) s a f h = (f.0, alike_push sets atoms s a f.1 h)

-- so a leaf takes the same by the sets and by the atoms
alike_admits : (sets : List Set) (atoms : List Atom) → AreAlike sets atoms → (leaf c : ℕ) → admits sets leaf c ≡ char_admits atoms leaf c
alike_admits [] [] f leaf c = refl
alike_admits [] (a ∷ atoms) f leaf c = absurd f
alike_admits (s ∷ sets) [] f leaf c = absurd f
alike_admits (s ∷ sets) (a ∷ atoms) f zero c = f.0 c
alike_admits (s ∷ sets) (a ∷ atoms) f (suc leaf) c = alike_admits sets atoms f.1 leaf c

-- one more set, of the next atom
pub one_more_alike : (sets : List Set) (atoms items : List Atom) (i : ℕ) (s : Set) (a : Atom) → items ≡ atoms → i < length items → a ≡ get_or items i a → AreAlike sets (take i atoms)
    → ((c : ℕ) → is_of_set s c ≡ takes_char a c) → AreAlike (sets ++ s ∷ []) (take (i + 1) atoms)
one_more_alike sets atoms items i s a same m d f h =
    let l : i < length atoms = subst (λ ys. i < length ys) same m in
    let e : a ≡ get_or atoms i a = subst (λ ys. a ≡ get_or ys i a) same d in
    let is : take i atoms ++ a ∷ [] ≡ take (i + 1) atoms = ap (λ y. take i atoms ++ y ∷ []) e ∙ sym (take_more atoms i a l) in
    subst (λ ys. AreAlike (sets ++ s ∷ []) ys) is (alike_push sets (take i atoms) s a f h)

-- all of them
pub whole_alike : (sets : List Set) (atoms items : List Atom) (i : ℕ) → items ≡ atoms → length items ≤ i → AreAlike sets (take i atoms) → (leaf c : ℕ) → admits sets leaf c ≡ char_admits atoms leaf c
whole_alike sets atoms items i same l f =
    alike_admits sets atoms (subst (λ ys. AreAlike sets ys) (take_all i atoms (subst (λ ys. length ys ≤ i) same l)) f)

module _ {A B L S : Type 0} where
  -- patterns of parts that have the same shapes

  pub over_choice : (w p q : Pat A L S) (x y : Pat B L S) → w ≡ pat.Choice p q → shape x ≡ shape p → shape y ≡ shape q → shape (pat.Choice x y) ≡ shape w
  unfolding hidden-the_row-Pat-0 hidden
  over_choice w p q x y is e f = (λ i. choice (e i) (f i)) ∙ sym (ap (λ v. shape v) is)

  pub over_group : (w p q : Pat A L S) (x y : Pat B L S) → w ≡ pat.Group p q → shape x ≡ shape p → shape y ≡ shape q → shape (pat.Group x y) ≡ shape w
  unfolding hidden-the_row-Pat-0 hidden
  over_group w p q x y is e f = (λ i. group (e i) (f i)) ∙ sym (ap (λ v. shape v) is)

  pub over_more : (w p : Pat A L S) (x : Pat B L S) → w ≡ pat.More p → shape x ≡ shape p → shape (pat.More x) ≡ shape w
  unfolding hidden-the_row-Pat-0 hidden
  over_more w p x is e = ap more e ∙ sym (ap (λ v. shape v) is)

-- a pattern over sets matches what the one of its shape over their atoms does
pub searched_same : {A B : Type 0} → (atoms : List Atom) (sets : List Set) (old : Pat A ℕ ℕ) (made : Pat B ℕ ℕ) (w : List ℕ) → ((leaf c : ℕ) → admits sets leaf c ≡ char_admits atoms leaf c)
    → shape made ≡ shape old → Matches (admits sets) made w ↔ Matches (char_admits atoms) old w
searched_same atoms sets old made w same is =
    let one = shape_fits (admits sets) made w in
    let two = shape_fits (char_admits atoms) old w in
    let fits : Fits (admits sets) (shape made) w ≡ Fits (char_admits atoms) (shape old) w = λ i. Fits (λ leaf c. same leaf c i) (is i) w in
    (λ m. two.0 (subst (λ X. X) fits (one.1 m)), λ m. one.0 (subst (λ X. X) (sym fits) (two.1 m)))
