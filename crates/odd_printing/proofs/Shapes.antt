-- How the text of a printed tree is put together: tags around elements, elements one after the other, and attributes.
use Rattle.std.proofs.Common.{◌≡◌, ℕ, Bool, ◌+◌, ◌<◌, false, List, [], ◌∷◌, ◌++◌, length, get_or, take, map, codes, refl, sym, ap, subst, ◌∙◌, append_assoc}
use Rattle.std.proofs.lemmas.Bool.{false≢true}
use Rattle.std.proofs.lemmas.List.{append-nil, map_more}
use Rattle.std.specs.Prelude.{IsTrue}
use Rattle.odd_tree.specs.Markup.{Markup, Pair, all_of, all_printed, attributes_printed, element, escaped_value, plain, printed}

-- an element with something in it has a start tag and an end tag
tags : (o tag attrs inside : List ℕ) (o1 o2 o3 new : List ℕ) → o1 ≡ o ++ (codes "<" ++ tag ++ attrs) → o2 ≡ o1 ++ codes ">\n" → o3 ≡ o2 ++ inside
    → new ≡ o3 ++ (codes "</" ++ tag ++ codes ">\n") → new ≡ o ++ (codes "<" ++ tag ++ attrs ++ codes ">\n" ++ inside ++ codes "</" ++ tag ++ codes ">\n")
tags o tag attrs inside o1 o2 o3 new e f g h = h ∙ simp (g, f, e, append_assoc)

-- the same for a list of elements that is not nothing
pub full : (o tag : List ℕ) (attrs : List Pair) (ms : List Markup) → (ms ≡ [] → ⊥) → (o1 o2 o3 new : List ℕ) → o1 ≡ o ++ (codes "<" ++ tag ++ attributes_printed attrs)
    → o2 ≡ o1 ++ codes ">\n" → o3 ≡ o2 ++ all_printed (all_of ms) → new ≡ o3 ++ (codes "</" ++ tag ++ codes ">\n") → new ≡ o ++ printed (element tag attrs (all_of ms))
full o tag attrs [] some o1 o2 o3 new e f g h = absurd (some refl)
full o tag attrs (m ∷ ms) some o1 o2 o3 new e f g h = tags o tag (attributes_printed attrs) (all_printed (all_of (m ∷ ms))) o1 o2 o3 new e f g h

-- so has one without attributes
plain_tags : (o tag inside : List ℕ) (o1 o2 new : List ℕ) → o1 ≡ o ++ (codes "<" ++ tag ++ codes ">\n") → o2 ≡ o1 ++ inside → new ≡ o2 ++ (codes "</" ++ tag ++ codes ">\n")
    → new ≡ o ++ (codes "<" ++ tag ++ [] ++ codes ">\n" ++ inside ++ codes "</" ++ tag ++ codes ">\n")
plain_tags o tag inside o1 o2 new e f g = g ∙ simp (f, e, append_assoc)

-- and so for a list of elements that is not nothing
pub full_plain : (o tag : List ℕ) (ms : List Markup) → (ms ≡ [] → ⊥) → (o1 o2 new : List ℕ) → o1 ≡ o ++ (codes "<" ++ tag ++ codes ">\n")
    → o2 ≡ o1 ++ all_printed (all_of ms) → new ≡ o2 ++ (codes "</" ++ tag ++ codes ">\n") → new ≡ o ++ printed (plain tag ms)
full_plain o tag [] some o1 o2 new e f g = absurd (some refl)
full_plain o tag (m ∷ ms) some o1 o2 new e f g = plain_tags o tag (all_printed (all_of (m ∷ ms))) o1 o2 new e f g

-- one element alone
pub alone : (o new : List ℕ) (m : Markup) → new ≡ o ++ printed m → new ≡ o ++ all_printed (all_of (m ∷ []))
alone o new m e = e ∙ ap (λ x. o ++ x) (sym (append-nil (printed m)))

-- an element with one other in it
pub full_of_one : (o tag : List ℕ) (attrs : List Pair) (m : Markup) (o1 o2 o3 new : List ℕ) → o1 ≡ o ++ (codes "<" ++ tag ++ attributes_printed attrs)
    → o2 ≡ o1 ++ codes ">\n" → o3 ≡ o2 ++ printed m → new ≡ o3 ++ (codes "</" ++ tag ++ codes ">\n") → new ≡ o ++ printed (element tag attrs (all_of (m ∷ [])))
full_of_one o tag attrs m o1 o2 o3 new e f g h = full o tag attrs (m ∷ []) (λ p. cc) o1 o2 o3 new e f (alone o2 o3 m g) h

-- and without attributes
pub plain_of_one : (o tag : List ℕ) (m : Markup) (o1 o2 new : List ℕ) → o1 ≡ o ++ (codes "<" ++ tag ++ codes ">\n") → o2 ≡ o1 ++ printed m
    → new ≡ o2 ++ (codes "</" ++ tag ++ codes ">\n") → new ≡ o ++ printed (plain tag (m ∷ []))
plain_of_one o tag m o1 o2 new e f g = full_plain o tag (m ∷ []) (λ p. cc) o1 o2 new e (alone o1 o2 m f) g

-- only no items give no elements
pub none_of : {A B : Type 0} (f : A → B) (xs : List A) → map f xs ≡ [] → xs ≡ []
none_of f [] e = refl
none_of f (x ∷ xs) e = cc

-- so what is made of items that are not nothing is not nothing
pub some_made : {A : Type 0} (f : A → Markup) (xs : List A) (b : Bool) → (xs ≡ [] → IsTrue b) → b ≡ false → map f xs ≡ [] → ⊥
some_made f xs b h e p = false≢true (sym e ∙ h (none_of f xs p))

-- and so for the items of two lists
pub none_of_two : {A B : Type 0} (f : A → Markup) (g : B → Markup) (xs : List A) (ys : List B) → map f xs ++ map g ys ≡ [] → (xs ≡ []) × (ys ≡ [])
none_of_two f g [] [] e = (refl, refl)
none_of_two f g [] (y ∷ ys) e = absurd (cc)
none_of_two f g (x ∷ xs) ys e = absurd (cc)

-- the print of two lists, one after the other
pub printed_append : (ms ns : List Markup) → all_printed (all_of (ms ++ ns)) ≡ all_printed (all_of ms) ++ all_printed (all_of ns)
printed_append [] ns = refl
printed_append (m ∷ ms) ns = ap (λ x. printed m ++ x) (printed_append ms ns) ∙ sym (append_assoc (printed m) (all_printed (all_of ms)) (all_printed (all_of ns)))

-- the elements of two lists, put one after the other
pub both : (o o1 new : List ℕ) (ms ns : List Markup) → o1 ≡ o ++ all_printed (all_of ms) → new ≡ o1 ++ all_printed (all_of ns) → new ≡ o ++ all_printed (all_of (ms ++ ns))
both o o1 new ms ns e f =
    f ∙ ap (λ x. x ++ all_printed (all_of ns)) e ∙ append_assoc o (all_printed (all_of ms)) (all_printed (all_of ns)) ∙ ap (λ x. o ++ x) (sym (printed_append ms ns))

-- the elements up to a place, with the one there
pub printed_more : {A : Type 0} (f : A → Markup) (xs items : List A) (i : ℕ) (x : A) (o before after : List ℕ) → items ≡ xs → i < length items → x ≡ get_or items i x
    → before ≡ o ++ all_printed (all_of (map f (take i xs))) → after ≡ before ++ printed (f x) → after ≡ o ++ all_printed (all_of (map f (take (i + 1) xs)))
printed_more f xs items i x o before after same within is e g =
    let inside : i < length xs = subst (λ ys. i < length ys) same within in
    both o before after (map f (take i xs)) (f x ∷ []) e (alone before after (f x) g)
    ∙ ap (λ y. o ++ all_printed (all_of (map f (take i xs) ++ f y ∷ []))) (is ∙ ap (λ ys. get_or ys i x) same)
    ∙ ap (λ ms. o ++ all_printed (all_of ms)) (sym (map_more f xs i x inside))

-- the print of two lists of attributes, one after the other
pub attributes_append : (xs ys : List Pair) → attributes_printed (xs ++ ys) ≡ attributes_printed xs ++ attributes_printed ys
attributes_append [] ys = refl
attributes_append (a ∷ xs) ys =
    let here = codes " " ++ a.0 ++ codes "=\"" ++ escaped_value a.1 ++ codes "\"" in
    ap (λ z. here ++ z) (attributes_append xs ys) ∙ sym (append_assoc here (attributes_printed xs) (attributes_printed ys))
