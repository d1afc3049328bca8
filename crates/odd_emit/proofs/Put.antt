-- What is put piece by piece is the print of an element that says it.
use Rattle.std.proofs.Common.{◌≡◌, ℕ, List, [], ◌∷◌, ◌++◌, Option, Some, None, codes, refl, sym, ap, ◌∙◌, append_assoc, append-nil}
use Rattle.odd_tree.specs.Markup.{Markup, Pair, attributes_printed, escaped_text, line, printed}
use Rattle.odd_printing.proofs.Shapes.{alone, attributes_append, both, full}
use Rattle.odd_emit.specs.Saying.{Said, declared_printed, elements_printed, pair_of, pairs_of, present, said_printed, spoken, spoken_with}

-- what is said in two parts

pub pairs_append : (xs ys : List Said) → pairs_of (xs ++ ys) ≡ pairs_of xs ++ pairs_of ys
pairs_append [] ys = refl
pairs_append (x ∷ xs) ys = ap (λ ps. pair_of x.local x.value ++ ps) (pairs_append xs ys) ∙ sym (append_assoc (pair_of x.local x.value) (pairs_of xs) (pairs_of ys))

pub said_append : (xs ys : List Said) → said_printed (xs ++ ys) ≡ said_printed xs ++ said_printed ys
said_append xs ys = ap attributes_printed (pairs_append xs ys) ∙ attributes_append (pairs_of xs) (pairs_of ys)

-- more attributes
pub said_put : (o : List ℕ) (xs ys : List Said) (o1 o2 : List ℕ) → o1 ≡ o ++ said_printed xs → o2 ≡ o1 ++ said_printed ys → o2 ≡ o ++ said_printed (xs ++ ys)
said_put o xs ys o1 o2 e f =
    f ∙ ap (λ z. z ++ said_printed ys) e ∙ append_assoc o (said_printed xs) (said_printed ys) ∙ ap (λ z. o ++ z) (sym (said_append xs ys))

-- a tag with its attributes
pub tag_put : (o tag : List ℕ) (said : List Said) (o1 o2 : List ℕ) → o1 ≡ o ++ (codes "<" ++ tag) → o2 ≡ o1 ++ said_printed said → o2 ≡ o ++ (codes "<" ++ tag ++ said_printed said)
tag_put o tag said o1 o2 e f = f ∙ ap (λ z. z ++ said_printed said) e ∙ append_assoc o (codes "<" ++ tag) (said_printed said)

-- an element with nothing in it
regrouped : (o t a e : List ℕ) → o ++ t ++ a ++ e ≡ o ++ (t ++ a ++ e)
regrouped o t a e = simp append_assoc

pub bare_put : (o tag : List ℕ) (said : List Said) (o1 o2 new : List ℕ) → o1 ≡ o ++ (codes "<" ++ tag) → o2 ≡ o1 ++ said_printed said → new ≡ o2 ++ codes "/>\n"
    → new ≡ o ++ printed (spoken tag said [])
bare_put o tag said o1 o2 new e f g =
    g ∙ ap (λ z. z ++ codes "/>\n") (f ∙ ap (λ z. z ++ said_printed said) e) ∙ regrouped o (codes "<" ++ tag) (said_printed said) (codes "/>\n")

-- one that declares prefixes
with_regrouped : (o t d a e : List ℕ) → o ++ t ++ d ++ a ++ e ≡ o ++ (t ++ d ++ a ++ e)
with_regrouped o t d a e = simp append_assoc

pub with_put : (o tag : List ℕ) (prefixes : List Pair) (said : List Said) (o1 o2 o3 new : List ℕ) → o1 ≡ o ++ (codes "<" ++ tag) → o2 ≡ o1 ++ declared_printed prefixes
    → o3 ≡ o2 ++ said_printed said → new ≡ o3 ++ codes "/>\n" → new ≡ o ++ printed (spoken_with tag prefixes said)
with_put o tag prefixes said o1 o2 o3 new e f g h =
    h ∙ ap (λ z. z ++ codes "/>\n") (g ∙ ap (λ z. z ++ said_printed said) (f ∙ ap (λ z. z ++ declared_printed prefixes) e))
    ∙ with_regrouped o (codes "<" ++ tag) (declared_printed prefixes) (said_printed said) (codes "/>\n")

-- an element with some elements in it
pub full_put : (o tag : List ℕ) (said : List Said) (ms : List Markup) → (ms ≡ [] → ⊥) → (o1 o2 o3 o4 new : List ℕ) → o1 ≡ o ++ (codes "<" ++ tag) → o2 ≡ o1 ++ said_printed said
    → o3 ≡ o2 ++ codes ">\n" → o4 ≡ o3 ++ elements_printed ms → new ≡ o4 ++ (codes "</" ++ tag ++ codes ">\n") → new ≡ o ++ printed (spoken tag said ms)
full_put o tag said ms some o1 o2 o3 o4 new e f g h k = full o tag (pairs_of said) ms some o2 o3 o4 new (tag_put o tag said o1 o2 e f) g h k

-- an element with one other in it
pub one_put : (o tag : List ℕ) (said : List Said) (m : Markup) (o1 o2 o3 o4 new : List ℕ) → o1 ≡ o ++ (codes "<" ++ tag) → o2 ≡ o1 ++ said_printed said → o3 ≡ o2 ++ codes ">\n"
    → o4 ≡ o3 ++ printed m → new ≡ o4 ++ (codes "</" ++ tag ++ codes ">\n") → new ≡ o ++ printed (spoken tag said (m ∷ []))
one_put o tag said m o1 o2 o3 o4 new e f g h k = full_put o tag said (m ∷ []) (λ p. cc) o1 o2 o3 o4 new e f g (alone o3 o4 m h) k

-- elements that may be there, one after the other
present_split : (m : Option Markup) (ms : List (Option Markup)) → present (m ∷ ms) ≡ present (m ∷ []) ++ present ms
present_split None ms = refl
present_split (Some m) ms = refl

pub present_put : (o : List ℕ) (m : Option Markup) (ms : List (Option Markup)) (o1 o2 : List ℕ) → o1 ≡ o ++ elements_printed (present (m ∷ [])) → o2 ≡ o1 ++ elements_printed (present ms)
    → o2 ≡ o ++ elements_printed (present (m ∷ ms))
present_put o m ms o1 o2 e f = both o o1 o2 (present (m ∷ [])) (present ms) e f ∙ ap (λ ns. o ++ elements_printed ns) (sym (present_split m ms))

-- one that is there
pub there_put : (o new : List ℕ) (m : Markup) → new ≡ o ++ printed m → new ≡ o ++ elements_printed (present (Some m ∷ []))
there_put o new m e = alone o new m e

-- a content is always there
pub content_there : (a b : Option Markup) (m : Markup) (d : Option Markup) → present (a ∷ b ∷ Some m ∷ d ∷ []) ≡ [] → ⊥
content_there None None m d e = cc
content_there None (Some y) m d e = cc
content_there (Some x) b m d e = cc

-- an element with a text in it
line_regrouped : (o p b x c t d : List ℕ) → o ++ p ++ b ++ x ++ (c ++ t ++ d) ≡ o ++ (p ++ b ++ x ++ c ++ t ++ d)
line_regrouped o p b x c t d = simp append_assoc

pub line_put : (o tag text : List ℕ) → (text ≡ [] → ⊥) → (o1 o2 o3 new : List ℕ) → o1 ≡ o ++ (codes "<" ++ tag) → o2 ≡ o1 ++ codes ">" → o3 ≡ o2 ++ escaped_text text
    → new ≡ o3 ++ (codes "</" ++ tag ++ codes ">\n") → new ≡ o ++ printed (line tag [] text)
line_put o tag [] some o1 o2 o3 new e f g h = absurd (some refl)
line_put o tag (c ∷ cs) some o1 o2 o3 new e f g h =
    let text = escaped_text (c ∷ cs) in
    let begun = codes "<" ++ tag in
    h ∙ ap (λ z. z ++ (codes "</" ++ tag ++ codes ">\n")) (g ∙ ap (λ z. z ++ text) (f ∙ ap (λ z. z ++ codes ">") e))
    ∙ line_regrouped o begun (codes ">") text (codes "</") tag (codes ">\n")
    ∙ ap (λ z. o ++ (z ++ codes ">" ++ text ++ codes "</" ++ tag ++ codes ">\n")) (sym (append-nil begun))
