-- Two lists match: each item of the one has an item of the other to itself, in any order.
use Rattle.std.proofs.Common.{◌≡◌, ◌≤◌, ⊎_elim, List, [], ◌∷◌, ◌++◌, length, append_assoc, refl, sym, ap, subst, ◌∙◌, arith}
use Rattle.odd_text.proofs.InList.{first_or_later, nothing_stands}
use Rattle.odd_text.specs.Standing.{StandsIn}
use Rattle.odd_text.specs.Standing.{StandsTwice}
use Rattle.order_laws.proofs.Shuffled.{none_twice, one_more, stands_with, twice_cases, twice_more}

module _ {A B : Type 0} (Match : A → B → Type 0) where
  pub data AreMatched : List A → List B → Type 0 where
    nothing : AreMatched [] []
    next : {x : A} {y : B} {xs : List A} {ys : List B} (before after : List B) → ys ≡ before ++ y ∷ after → Match x y → AreMatched xs (before ++ after) → AreMatched (x ∷ xs) ys

  -- each item has one that it matches
  pub matched_there : {xs : List A} {ys : List B} → AreMatched xs ys → (x : A) → StandsIn xs x → (y : B) × StandsIn ys y × Match x y
  matched_there nothing x s = absurd (nothing_stands x s)
  matched_there (next {x = z} {y = y} {xs = xs} before after is m later) x s =
      ⊎_elim (λ e. (y, (before, after, is), subst (λ w. Match w y) (sym e) m))
      (λ k. let h = matched_there later x k in (h.0, subst (λ ws. StandsIn ws h.0) (sym is) (stands_with before after y h.0 h.1), h.2)) (first_or_later z x xs s)

  -- what matches a list and what matches another, put into the midst of that
  pub matched_amid : {xs ws : List A} {ys : List B} (before after : List B) → AreMatched xs ys → AreMatched ws (before ++ after) → AreMatched (xs ++ ws) (before ++ (ys ++ after))
  matched_amid before after nothing k = k
  matched_amid {ws = ws} before after (next {y = y} {xs = xs} {ys = ys} a b is m later) k =
      let whole : before ++ (ys ++ after) ≡ (before ++ a) ++ y ∷ (b ++ after) =
      ap (λ zs. before ++ (zs ++ after)) is ∙ ap (λ zs. before ++ zs) (append_assoc a (y ∷ b) after) ∙ sym (append_assoc before a (y ∷ (b ++ after))) in
      let rest : before ++ ((a ++ b) ++ after) ≡ (before ++ a) ++ (b ++ after) =
      ap (λ zs. before ++ zs) (append_assoc a b after) ∙ sym (append_assoc before a (b ++ after)) in
      next (before ++ a) (b ++ after) whole m (subst (AreMatched (xs ++ ws)) rest (matched_amid before after later k))

  -- what matches a list and then what matches another
  pub matched_both : {xs ws : List A} {ys zs : List B} → AreMatched xs ys → AreMatched ws zs → AreMatched (xs ++ ws) (ys ++ zs)
  matched_both {zs = zs} h k = matched_amid [] zs h k

  -- one item and one that it matches
  pub matched_pair : (x : A) (y : B) → Match x y → AreMatched (x ∷ []) (y ∷ [])
  matched_pair x y m = next [] [] refl m nothing

  -- nothing matches nothing
  pub matched_none : (ys : List B) → AreMatched [] ys → ys ≡ []
  matched_none ys nothing = refl

  -- one item matches one
  pub matched_one : (x : A) (ys : List B) → AreMatched (x ∷ []) ys → (y : B) × (ys ≡ y ∷ []) × Match x y
  matched_one x ys (next {y = y} before after is m later) =
      let none : before ++ after ≡ [] = matched_none (before ++ after) later in
      (y, is ∙ alone before after none, m)
    where
      alone : {y : B} (a b : List B) → a ++ b ≡ [] → a ++ y ∷ b ≡ y ∷ []
      alone [] b e = cc
      alone (z ∷ a) b e = absurd (cc e)

  -- two lists of one item at most, which match
  pub data AtMostOne : List A → List B → Type 0 where
    none : AtMostOne [] []
    one : (x : A) (y : B) → Match x y → AtMostOne (x ∷ []) (y ∷ [])

  -- where one of them has one item at most, both are so
  pub matched_few : (xs : List A) (ys : List B) → AreMatched xs ys → length xs ≤ 1 → AtMostOne xs ys
  matched_few [] ys h few = subst (AtMostOne []) (sym (matched_none ys h)) none
  matched_few (x ∷ []) ys h few = let k = matched_one x ys h in subst (AtMostOne (x ∷ [])) (sym k.1) (one x k.0 k.2)
  matched_few (x ∷ z ∷ xs) ys h few = absurd (omega (arith, few))

-- Two lists match the other way round too

-- with one more in each, which stands first in one
put_in : {A B : Type 0} (Match : A → B → Type 0) {x : A} {y : B} {xs : List A} (before after : List B) → Match x y → AreMatched (λ b a. Match a b) (before ++ after) xs
    → AreMatched (λ b a. Match a b) (before ++ y ∷ after) (x ∷ xs)
put_in Match {xs = xs} [] after m rest = next [] xs refl m rest
put_in Match {x = x} {y = y} (b ∷ before) after m (next front back is n rest) =
    next (x ∷ front) back (ap (λ ys. x ∷ ys) is) n (put_in Match before after m rest)

pub matched_turned : {A B : Type 0} (Match : A → B → Type 0) {xs : List A} {ys : List B} → AreMatched Match xs ys → AreMatched (λ b a. Match a b) ys xs
matched_turned Match nothing = nothing
matched_turned Match (next {x = x} {xs = xs} before after is m later) =
    subst (λ zs. AreMatched (λ b a. Match a b) zs (x ∷ xs)) (sym is) (put_in Match before after m (matched_turned Match later))

-- what is such twice in one is such twice in the other
pub matched_twice : {A B : Type 0} (Match : A → B → Type 0) (Is : A → Type 0) (IsThere : B → Type 0) → ((x : A) (y : B) → Match x y → Is x → IsThere y) → {xs : List A} {ys : List B}
    → AreMatched Match xs ys → StandsTwice Is xs → StandsTwice IsThere ys
matched_twice Match Is IsThere there nothing w = absurd (none_twice Is w)
matched_twice Match Is IsThere there (next {x = x} {y = y} {xs = xs} before after is m later) w =
    subst (StandsTwice IsThere) (sym is)
    (⊎_elim (λ f. (let h = matched_there Match later f.1.0 f.1.1 in one_more IsThere before after y (there x y m f.0) (h.0, h.1, there f.1.0 h.0 h.2 f.1.2)))
    (λ rest. twice_more IsThere before after y (matched_twice Match Is IsThere there later rest)) (twice_cases Is x xs w))

-- what matches so matches by what follows from it
pub matched_weaker : {A B : Type 0} (Match Other : A → B → Type 0) → ((x : A) (y : B) → Match x y → Other x y) → {xs : List A} {ys : List B} → AreMatched Match xs ys → AreMatched Other xs ys
matched_weaker Match Other is nothing = nothing
matched_weaker Match Other is (next {x = x} {y = y} before after whole m later) = next before after whole (is x y m) (matched_weaker Match Other is later)
