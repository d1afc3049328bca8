-- The tree of a list of tokens (XML 1.0, sections 2.11 and 3).
use Rattle.std.specs.Prelude.{◌≡◌, ℕ, ◌+◌, Bool, false, ◌==◌, if◌then◌else◌, List, [], ◌∷◌, ◌++◌, map, Some}
use Rattle.std.specs.Str.{encode_utf8_all}
use Rattle.odd_text.specs.declared.name.Bind.{Bind}
use Rattle.odd_tokens.specs.Lines.{lines_read}
use Rattle.odd_tree.specs.declared.tree.Tree.{Tree, out-Tree}
use Rattle.odd_tree.specs.declared.tree.Node.{Node, Element, Text}
use Rattle.odd_tokens.specs.Tokens.{QName, Tag, Token, character, referred, cdata, start_tag, empty_tag, end_tag, character_of, token_written, tokens_written, size_of}
use Rattle.odd_tree.specs.Names.{binds_of, plain_attributes, element_name, attribute_read}
use Rattle.odd_tree.specs.Fitting.{is_tag}

abbrev is_line_feed_next : List Token → Bool
is_line_feed_next (character c ∷ ts) = c == 0xA
is_line_feed_next ts = false

-- the characters that a token gives, before those that come next
abbrev pub token_read : Token → List Token → List ℕ
token_read (character c) next = if c == 0xD then (if is_line_feed_next next then [] else 0xA ∷ []) else c ∷ []
token_read (referred r) next = character_of r ∷ []
token_read (cdata text) next = lines_read text
token_read t next = []

-- characters before the nodes: texts that are side by side are one, and none is empty
abbrev pub with_text : List ℕ → List Node → List Node
with_text [] nodes = nodes
with_text (c ∷ cs) (Text t ∷ nodes) = Text (encode_utf8_all (c ∷ cs) ++ t) ∷ nodes
with_text (c ∷ cs) nodes = Text (encode_utf8_all (c ∷ cs)) ∷ nodes

-- the element has the name, the attributes and the bindings of the tag, which begins at the byte
pub record HasTag (around : List Bind) (at : ℕ) (tag : Tag) (t : Tree) : Type 0 where
  pub named : element_name (around ++ binds_of tag.attributes) tag.name ≡ Some (out-Tree t).name
  pub attributed : map (attribute_read (around ++ binds_of tag.attributes)) (plain_attributes tag.attributes) ≡ map (λ a. Some a) (out-Tree t).attrs
  pub bound : (out-Tree t).binds ≡ binds_of tag.attributes
  pub placed : (out-Tree t).at ≡ at

mutual
  -- section 3, element: the tokens, which begin at the byte, are this element under the bindings around it
  pub data IsElement : List Bind → ℕ → List Token → Tree → Type 0 where
    empty : {around : List Bind} {at : ℕ} {tag : Tag} {t : Tree} → HasTag around at tag t → (out-Tree t).children ≡ [] → IsElement around at (empty_tag tag ∷ []) t
    full : {around : List Bind} {at : ℕ} {tag : Tag} {ts : List Token} {t : Tree} (name : QName) (space : List ℕ) (inside : List Token) → HasTag around at tag t
        → IsContent (around ++ binds_of tag.attributes) (at + size_of (token_written (start_tag tag))) inside (out-Tree t).children
        → ts ≡ inside ++ end_tag name space ∷ [] → IsElement around at (start_tag tag ∷ ts) t

  -- section 3.1, content: the tokens are these nodes
  pub data IsContent : List Bind → ℕ → List Token → List Node → Type 0 where
    nothing : {around : List Bind} {at : ℕ} → IsContent around at [] []
    piece : {around : List Bind} {at : ℕ} {t : Token} {ts : List Token} {nodes : List Node} (later : List Node) → is_tag t ≡ false
        → IsContent around (at + size_of (token_written t)) ts later → nodes ≡ with_text (token_read t ts) later → IsContent around at (t ∷ ts) nodes
    child : {around : List Bind} {at : ℕ} {ts : List Token} {t : Tree} {later : List Node} (es after : List Token) → IsElement around at es t
        → IsContent around (at + size_of (tokens_written es)) after later → ts ≡ es ++ after → IsContent around at ts (Element t ∷ later)
