-- What is escaped is read back, as a text and as a value; escaping whole, and character by character.
use Rattle.std.proofs.Common.{◌≡◌, ◌≢◌, ℕ, true, false, List, [], ◌∷◌, ◌++◌, map, sym, refl, ap, ap₂, ◌∙◌, append_assoc, append-nil, codes, IsTrue, subst, length}
use Rattle.std.proofs.lemmas.Grind.{flat_map-append}
use Rattle.std.proofs.lemmas.List.Elements.{All-nil, All-cons, All-head, All-tail}
use Rattle.std.proofs.lemmas.Str.{encodes-append}
use Rattle.std.specs.List.{All, list_all, flat_map}
use Rattle.std.specs.Prelude.{None}
use Rattle.std.specs.Str.{encode_utf8_all}
use Rattle.odd_tokens.proofs.Ascii.{ascii_codes, ascii_ncname}
use Rattle.odd_tokens.proofs.Characters.{none_twice}
use Rattle.odd_tokens.specs.Characters.{is_char, IsLegal}
use Rattle.odd_tokens.specs.Openings.{Opening}
use Rattle.odd_tokens.specs.Tokens.{Tag, Token, start_tag, empty_tag, end_tag, IsTag, value_written, tokens_written}
use Rattle.odd_tree.proofs.Fits.{Outside, FitAfter, inside_after, tag_opened, start_fits, empty_fits, end_fits, fit_append, all_fit, bytes_of, bytes-append}
use Rattle.odd_tree.proofs.LastBound.{tag_with, attributes_named}
use Rattle.odd_tree.proofs.PrintedTrees.{text_nodes}
use Rattle.odd_tree.specs.Fitting.{is_tag, none, nothing}
use Rattle.odd_tree.specs.Markup.{Pair, escaped_text, escaped_value}
use Rattle.odd_tree.specs.Names.{IsBinding, NamesFit}
use Rattle.odd_tree.specs.Spelled.{Spells}
use Rattle.odd_tree.specs.Trees.{HasTag, IsElement, empty, full}
use Rattle.odd_tree.specs.declared.tree.Attr.{Attr}
use Rattle.odd_tree.specs.declared.tree.Node.{Node, Text}
use Rattle.odd_tree.specs.declared.tree.Tree.{Tree, roll-Tree}
use Rattle.odd_printing.proofs.PrintedCharacters.{value_piece, text_token, text_written, text_balanced, text_fits, text_content}
use Rattle.odd_printing.proofs.PrintedTags.{IsCharAttribute, printed_is_tag, value_is_read, value_is_written}
use Rattle.odd_printing.specs.Escaping.{IsTextOf, IsValueOf}

-- a file of one element, with no opening and nothing around the element

abbrev no_opening : Opening
no_opening = record { mark = false; declaration = None }

-- nothing stands before the element
at_the_start : Outside []
at_the_start = record { none_open = none nothing; none_was = refl }

-- and no tag is in nothing
no_tag : (before after : List Token) (t : Token) → [] ≡ before ++ t ∷ after → is_tag t ≡ false
no_tag [] after t e = cc
no_tag (b ∷ bs) after t e = cc

-- the tokens of such an element, where they fit, spell its tree
element_spells : (bytes : List ℕ) (tokens : List Token) (t : Tree) → bytes_of tokens ≡ bytes → FitAfter [] tokens → IsElement [] 0 tokens t → Spells bytes t
element_spells bytes tokens t written fit element = record {
  whole = record {
    opening = no_opening;
    is_opening = tt;
    tokens = tokens;
    all_fit = all_fit tokens fit;
    written = sym (append-nil (bytes_of tokens) ∙ written);
  };
  document = record {
    before = [];
    root = tokens;
    after = [];
    parts = sym (append-nil tokens);
    none_before = no_tag;
    none_after = no_tag;
    element = element;
  };
}

-- the tree of a root `a` that declares nothing
abbrev root_with : List Attr → List Node → Tree
root_with attrs children = roll-Tree (record { name = record { ns = []; local = encode_utf8_all (codes "a") }; attrs = attrs; binds = []; children = children; at = 0 })

-- a text between two tags

abbrev bare : Tag
bare = tag_with value_piece (codes "a") []

-- its start tag is well-formed, fits at the start of a file, and has the tree's name
bare_is_tag : IsTag bare
bare_is_tag = printed_is_tag (codes "a") [] (record { named = ascii_ncname (codes "a") refl; attributed = All-nil _; once = none_twice _ tt })

bare_names_fit : NamesFit [] bare
bare_names_fit = record { declared = All-nil IsBinding; named = refl; attributed = All-nil _; once = none_twice _ tt }

bare_has_tag : (children : List Node) → HasTag [] 0 bare (root_with [] children)
bare_has_tag children = record { named = refl; attributed = refl; bound = refl; placed = refl }

-- the tokens of the file: the start tag, the text's characters and the end tag
abbrev text_tokens : List ℕ → List Token
text_tokens cs = start_tag bare ∷ (map text_token cs ++ end_tag bare.name [] ∷ [])

-- they are written as the escaped text between the tags
text_tokens_written : (cs : List ℕ) → bytes_of (text_tokens cs) ≡ codes "<a>" ++ escaped_text (encode_utf8_all cs) ++ codes "</a>"
text_tokens_written cs =
    encodes-append (codes "<a>") (tokens_written (map text_token cs ++ end_tag bare.name [] ∷ []))
    ∙ ap₂ (λ (x y : List ℕ). x ++ y) (ascii_codes (codes "<a>") refl)
    (bytes-append (map text_token cs) (end_tag bare.name [] ∷ []) ∙ ap₂ (λ (x y : List ℕ). x ++ y) (text_written cs) (ascii_codes (codes "</a>") refl))

-- each fits after those before it
text_tokens_fit : (cs : List ℕ) → IsTrue (list_all is_char cs) → FitAfter [] (text_tokens cs)
text_tokens_fit cs legal =
    let i = tag_opened true [] bare [] refl at_the_start in (
      start_fits true [] bare [] bare_is_tag bare_names_fit at_the_start,
      fit_append (start_tag bare ∷ []) (map text_token cs) (end_tag bare.name [] ∷ []) (text_fits [] (start_tag bare ∷ []) cs legal i.0)
          (end_fits [] bare (start_tag bare ∷ map text_token cs) bare_is_tag (inside_after i.0 (text_balanced cs)) i.1, tt),
    )

-- and they are the element whose content is the text
text_is_element : (cs : List ℕ) → IsElement [] 0 (text_tokens cs) (root_with [] (text_nodes (encode_utf8_all cs)))
text_is_element cs = full bare.name [] (map text_token cs) (bare_has_tag _) (text_content [] cs _) refl

-- a text that is not empty is one node
one_node : (text : List ℕ) → text ≢ [] → text_nodes text ≡ Text text ∷ []
one_node [] some = absurd (some refl)
one_node (c ∷ cs) some = refl

-- an escaped text between tags is the text
pub text_read_back : (text : List ℕ) → IsLegal text → IsTextOf (escaped_text text) text
text_read_back text l = subst (λ (t : List ℕ). IsTextOf (escaped_text t) t) l.1 (record {
  tree = root_with [] (text_nodes (encode_utf8_all l.0));
  spelled = element_spells _ (text_tokens l.0) _ (text_tokens_written l.0) (text_tokens_fit l.0 l.2) (text_is_element l.0);
  one = one_node (encode_utf8_all l.0);
  none = λ e. ap text_nodes e;
})

-- a value in double quotes

abbrev pairs : List ℕ → List Pair
pairs cs = (codes "b", cs) ∷ []

abbrev valued : List ℕ → Tag
valued cs = tag_with value_piece (codes "a") (pairs cs)

-- the tag is well-formed, fits at the start of a file, and has this one attribute
valued_is_tag : (cs : List ℕ) → IsTrue (list_all is_char cs) → IsTag (valued cs)
valued_is_tag cs legal = printed_is_tag (codes "a") (pairs cs) (record {
  named = ascii_ncname (codes "a") refl;
  attributed = All-cons IsCharAttribute (codes "b", cs) [] (ascii_ncname (codes "b") refl, legal) (All-nil _);
  once = none_twice _ (tt, tt);
})

valued_names_fit : (cs : List ℕ) → NamesFit [] (valued cs)
valued_names_fit cs = record { declared = All-nil IsBinding; named = refl; attributed = attributes_named value_piece [] (pairs cs); once = none_twice _ (tt, tt) }

abbrev attribute_b : List ℕ → Attr
attribute_b value = record { name = record { ns = []; local = codes "b" }; value = value }

valued_has_tag : (cs : List ℕ) → HasTag [] 0 (valued cs) (root_with (attribute_b (encode_utf8_all cs) ∷ []) [])
valued_has_tag cs = record { named = refl; attributed = rw (ascii_codes (codes "b") refl, value_is_read cs) refl; bound = refl; placed = refl }

-- what is around the characters of the value
around_value : (v : List ℕ) → codes "<a b=\"" ++ ((((v ++ codes "\"") ++ []) ++ []) ++ codes "/>") ++ [] ≡ codes "<a b=\"" ++ (v ++ codes "\"/>")
around_value v = simp (append_assoc, append-nil)

-- the tag is written with the escaped value in its quotes
value_tokens_written : (cs : List ℕ) → bytes_of (empty_tag (valued cs) ∷ []) ≡ codes "<a b=\"" ++ escaped_value (encode_utf8_all cs) ++ codes "\"/>"
value_tokens_written cs =
    let v = value_written (map value_piece cs) in
    ap encode_utf8_all (around_value v) ∙ encodes-append (codes "<a b=\"") (v ++ codes "\"/>")
    ∙ ap₂ (λ (x y : List ℕ). x ++ y) (ascii_codes (codes "<a b=\"") refl)
    (encodes-append v (codes "\"/>") ∙ ap₂ (λ (x y : List ℕ). x ++ y) (value_is_written cs) (ascii_codes (codes "\"/>") refl))

-- an escaped text in double quotes is the value
pub value_read_back : (value : List ℕ) → IsLegal value → IsValueOf (escaped_value value) value
value_read_back value l = subst (λ (v : List ℕ). IsValueOf (escaped_value v) v) l.1 (record {
  tree = root_with (attribute_b (encode_utf8_all l.0) ∷ []) [];
  spelled = element_spells _ (empty_tag (valued l.0) ∷ []) _ (value_tokens_written l.0)
      (empty_fits true [] (valued l.0) [] (valued_is_tag l.0 l.2) (valued_names_fit l.0) at_the_start, tt) (empty (valued_has_tag l.0) refl);
  attributes = refl;
})

-- each byte of a text is put as `f` of it
module _ (f : ℕ → List ℕ) where
  -- a byte that is put as itself
  abbrev pub IsPlain : ℕ → Type 0
  IsPlain b = f b ≡ b ∷ []

  -- a text of such bytes alone is put as it is
  pub all_plain : (text : List ℕ) → All IsPlain text → flat_map f text ≡ text
  all_plain [] plain = refl
  all_plain (b ∷ bs) plain = rw (All-head IsPlain b bs plain, all_plain bs (All-tail IsPlain b bs plain)) refl

  -- a text whose bytes are escaped, and what is left of it
  pub record PutUpTo (old now text left : List ℕ) : Type 0 where
    pub front : List ℕ
    pub put : now ≡ old ++ front
    pub parts : flat_map f text ≡ front ++ flat_map f left

  pub none_put : {old text left : List ℕ} → left ≡ text → PutUpTo old old text left
  none_put e = record { front = []; put = sym (append-nil _); parts = ap (flat_map f) (sym e) }

  next_is : {old now text left : List ℕ} (piece more : List ℕ) (s : PutUpTo old now text left) → left ≡ piece ++ more → flat_map f text ≡ s.front ++ (flat_map f piece ++ flat_map f more)
  next_is piece more s l = s.parts ∙ ap (λ x. s.front ++ x) (ap (flat_map f) l ∙ flat_map-append f piece more)

  pub more_put : {old mid new text left more : List ℕ} (piece : List ℕ) → PutUpTo old mid text left → left ≡ piece ++ more → new ≡ mid ++ flat_map f piece → PutUpTo old new text more
  more_put {old = old} {more = more} piece s l e = record {
    front = s.front ++ flat_map f piece;
    put = e ∙ ap (λ x. x ++ flat_map f piece) s.put ∙ append_assoc old s.front (flat_map f piece);
    parts = next_is piece more s l ∙ sym (append_assoc s.front (flat_map f piece) (flat_map f more));
  }

  pub all_put : {old new text left : List ℕ} → PutUpTo old new text left → length left ≡ 0 → new ≡ old ++ flat_map f text
  all_put {old = old} {left = []} s e = s.put ∙ ap (λ x. old ++ x) (sym (s.parts ∙ append-nil s.front))
  all_put {left = b ∷ bs} s e = cc
