-- The content of an element, read from left to right: what its tokens so far give to its nodes, whatever follows.
use Rattle.std.proofs.Common.{◌≡◌, true, ℕ, ◌+◌, ◌≤◌, List, [], ◌∷◌, ◌++◌, length, refl, sym, ap, ◌∙◌, append_assoc, append-nil, subst, subst₂, arith}
use Rattle.std.specs.Str.{encode_utf8_all}
use Rattle.std.proofs.lemmas.Str.{encodes-append, length-le-encodes}
use Rattle.odd_text.specs.declared.name.Bind.{Bind}
use Rattle.odd_tree.specs.declared.tree.Node.{Node, Element, Text}
use Rattle.odd_tree.specs.declared.tree.Tree.{Tree}
use Rattle.odd_tree.specs.Fitting.{is_tag, is_start_or_end, is_start_or_empty}
use Rattle.odd_tokens.specs.Tokens.{Token, character, token_written, size_of}
use Rattle.odd_tree.specs.Trees.{IsElement, IsContent, nothing, piece, child, token_read, with_text}
use Rattle.odd_tree.proofs.PrintedTrees.{text_nodes}
use Rattle.odd_reader.proofs.Readings.{element_begins}
use Rattle.odd_tree.proofs.Fits.{size, size_append, size_cons}
use Rattle.odd_reader.proofs.StandsTexts.{NoTags, run_read, next_same}
use Rattle.std.proofs.lemmas.Bool.{or_right}

-- texts

-- no text comes first
abbrev pub NoText : List Node → Type 0
NoText (Text t ∷ nodes) = ⊥
NoText nodes = Unit {0}

with_append : (xs ys : List ℕ) (nodes : List Node) → with_text (xs ++ ys) nodes ≡ with_text xs (with_text ys nodes)
with_append [] ys nodes = refl
with_append (x ∷ xs) [] nodes = ap (λ zs. with_text (x ∷ zs) nodes) (append-nil xs)
with_append (x ∷ xs) (y ∷ ys) (Text t ∷ nodes) =
    ap (λ z. Text z ∷ nodes) (ap (λ z. z ++ t) (encodes-append (x ∷ xs) (y ∷ ys)) ∙ append_assoc (encode_utf8_all (x ∷ xs)) (encode_utf8_all (y ∷ ys)) t)
with_append (x ∷ xs) (y ∷ ys) nodes = ap (λ z. Text z ∷ nodes) (encodes-append (x ∷ xs) (y ∷ ys))

some_text : (bytes : List ℕ) → 1 ≤ length bytes → text_nodes bytes ≡ Text bytes ∷ []
some_text [] h = absurd (omega arith)
some_text (b ∷ bs) h = refl

encoded_text : (c : ℕ) (cs : List ℕ) → text_nodes (encode_utf8_all (c ∷ cs)) ≡ Text (encode_utf8_all (c ∷ cs)) ∷ []
encoded_text c cs =
    let long : length (c ∷ cs) ≤ length (encode_utf8_all (c ∷ cs)) = length-le-encodes (c ∷ cs) in
    some_text (encode_utf8_all (c ∷ cs)) (omega arith)

text_first : (cs : List ℕ) (later : List Node) → NoText later → with_text cs later ≡ text_nodes (encode_utf8_all cs) ++ later
text_first [] later n = refl
text_first (c ∷ cs) (Text t ∷ later) n = absurd n
text_first (c ∷ cs) later n = ap (λ z. z ++ later) (sym (encoded_text c cs))

-- tokens that are no tags

-- a tag comes first, or nothing
abbrev pub TagFirst : List Token → Type 0
TagFirst [] = Unit {0}
TagFirst (t ∷ ts) = is_tag t ≡ true

tag_next : (r t : Token) (ts : List Token) → is_tag t ≡ true → token_read r (t ∷ ts) ≡ token_read r []
tag_next (character c) (character d) ts h = cc
tag_next (character c) t ts h = refl
tag_next r t ts h = refl

read_before : (t : Token) (ts more : List Token) → TagFirst more → token_read t (ts ++ more) ≡ token_read t ts
read_before t [] [] f = refl
read_before t [] (m ∷ more) f = tag_next t m more f
read_before t (s ∷ ts) more f = next_same t s (ts ++ more) ts

run_content : (around : List Bind) (at : ℕ) (run more : List Token) (later : List Node) → NoTags run → TagFirst more → IsContent around (at + size run) more later
    → IsContent around at (run ++ more) (with_text (run_read run) later)
run_content around at [] more later n f c = let e : at + size [] ≡ at = omega arith in subst (λ p. IsContent around p more later) e c
run_content around at (t ∷ ts) more later n f c =
    let e : at + size (t ∷ ts) ≡ (at + size_of (token_written t)) + size ts = omega (arith, size_cons t ts) in
    piece (with_text (run_read ts) later) n.0
    (run_content around (at + size_of (token_written t)) ts more later n.1 f (subst (λ p. IsContent around p more later) e c))
    (with_append (token_read t ts) (run_read ts) later ∙ ap (λ cs. with_text cs (with_text (run_read ts) later)) (sym (read_before t ts more f)))

-- content

-- after the tokens, which are nothing or end in an element, the nodes are whole
pub record Done (around : List Bind) (at : ℕ) (ts : List Token) (nodes : List Node) : Type 0 where
  pub goes_on : (more : List Token) (later : List Node) → IsContent around (at + size ts) more later → IsContent around at (ts ++ more) (nodes ++ later)

-- and so they are where a tag comes next
pub record Part (around : List Bind) (at : ℕ) (ts : List Token) (nodes : List Node) : Type 0 where
  pub goes_on : (more : List Token) (later : List Node) → TagFirst more → NoText later → IsContent around (at + size ts) more later
      → IsContent around at (ts ++ more) (nodes ++ later)

pub nothing_done : (around : List Bind) (at : ℕ) → Done around at [] []
nothing_done around at = record {
  goes_on = λ more later c. let e : at + size [] ≡ at = omega arith in subst (λ p. IsContent around p more later) e c;
}

pub run_done : (around : List Bind) (at : ℕ) (ts run : List Token) (nodes : List Node) → Done around at ts nodes → NoTags run
    → Part around at (ts ++ run) (nodes ++ text_nodes (encode_utf8_all (run_read run)))
run_done around at ts run nodes d n = record {
  goes_on = λ more later f t c.
      let e : at + size (ts ++ run) ≡ (at + size ts) + size run = omega (arith, size_append ts run) in
      let r = run_content around (at + size ts) run more later n f (subst (λ p. IsContent around p more later) e c) in
      let w = d.goes_on (run ++ more) _ r in
      subst₂ (λ xs ns. IsContent around at xs ns) (sym (append_assoc ts run more))
      (ap (λ ns. nodes ++ ns) (text_first (run_read run) later t) ∙ sym (append_assoc nodes (text_nodes (encode_utf8_all (run_read run))) later)) w;
}

pub element_done : (around : List Bind) (at : ℕ) (ts es : List Token) (nodes : List Node) (t : Tree) → Part around at ts nodes → IsElement around (at + size ts) es t
    → Done around at (ts ++ es) (nodes ++ Element t ∷ [])
element_done around at ts es nodes t p d = record {
  goes_on = λ more later c.
      let e : at + size (ts ++ es) ≡ (at + size ts) + size es = omega (arith, size_append ts es) in
      let w = p.goes_on (es ++ more) (Element t ∷ later) (begins more) tt (child es more d (subst (λ q. IsContent around q more later) e c) refl) in
      subst₂ (λ xs ns. IsContent around at xs ns) (sym (append_assoc ts es more)) (sym (append_assoc nodes (Element t ∷ []) later)) w;
}
  where
    begins : (more : List Token) → TagFirst (es ++ more)
    begins more =
        let b = element_begins around (at + size ts) es t d in
        rw b.3 (or_right (is_start_or_end b.0) (is_start_or_empty b.0) b.2)

pub content_whole : (around : List Bind) (at : ℕ) (ts : List Token) (nodes : List Node) → Part around at ts nodes → IsContent around at ts nodes
content_whole around at ts nodes p = subst₂ (λ xs ns. IsContent around at xs ns) (append-nil ts) (append-nil nodes) (p.goes_on [] [] tt tt nothing)
