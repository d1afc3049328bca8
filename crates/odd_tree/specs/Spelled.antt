-- Which files spell a tree, and where the fault of any other is (XML 1.0, sections 2.1 and 4.3.3).
use Rattle.std.specs.Prelude.{◌≡◌, ◌≢◌, ◌⊎◌, ◌≤◌, ◌<◌, ℕ, ◌+◌, true, false, List, [], ◌∷◌, ◌++◌, length}
use Rattle.std.specs.Str.{encode_utf8_all}
use Rattle.odd_tokens.specs.Openings.{Opening, opening_written, IsOpening}
use Rattle.odd_tree.specs.declared.tree.Tree.{Tree}
use Rattle.odd_tokens.specs.Tokens.{Tag, Token, token_written, tokens_written, size_of}
use Rattle.odd_tree.specs.Fitting.{is_tag, is_start_or_empty, AreOpen, Fits, AllFit}
use Rattle.odd_tree.specs.Trees.{IsElement}

-- no tag stands among the tokens
abbrev HasNoTag : List Token → Type 0
HasNoTag ts = (before after : List Token) (t : Token) → ts ≡ before ++ t ∷ after → is_tag t ≡ false

-- section 2.1, document: one element, and around it no other; the tokens begin at the byte
pub record IsDocument (at : ℕ) (ts : List Token) (t : Tree) : Type 0 where
  pub before : List Token
  pub root : List Token
  pub after : List Token
  pub parts : ts ≡ before ++ root ++ after
  pub none_before : HasNoTag before
  pub none_after : HasNoTag after
  pub element : IsElement [] (at + size_of (tokens_written before)) root t

-- the first bytes of a file: its opening, and tokens that each fit after those before it; the others are left
pub record Begins (bytes : List ℕ) (left : List ℕ) : Type 0 where
  pub opening : Opening
  pub is_opening : IsOpening opening
  pub tokens : List Token
  pub all_fit : AllFit tokens
  pub written : bytes ≡ encode_utf8_all (opening_written opening ++ tokens_written tokens) ++ left

-- the file spells the tree
pub record Spells (bytes : List ℕ) (t : Tree) : Type 0 where
  pub whole : Begins bytes []
  pub document : IsDocument (size_of (opening_written whole.opening)) whole.tokens t

-- the opening is the whole one: no other that the file has is longer
abbrev pub IsWholeOpening : List ℕ → Opening → Type 0
IsWholeOpening bytes o = (other : Opening) (left : List ℕ) → IsOpening other → bytes ≡ encode_utf8_all (opening_written other) ++ left
    → size_of (opening_written other) ≤ size_of (opening_written o)

-- no token that fits after these begins here
abbrev pub NoneFits : List Token → List ℕ → Type 0
NoneFits ts left = (t : Token) (more : List ℕ) → Fits ts t → left ≢ encode_utf8_all (token_written t) ++ more

-- the file spells no tree, and its fault is at the place: the start of the first token that does not fit, or the end of the file
pub record FaultPlace (bytes : List ℕ) (place : ℕ) : Type 0 where
  pub spells_none : (t : Tree) → Spells bytes t → ⊥
  pub left : List ℕ
  pub begins : Begins bytes left
  pub opened : IsWholeOpening bytes begins.opening
  pub placed : place + length left ≡ length bytes
  pub stops : (left ≡ []) ⊎ NoneFits begins.tokens left

abbrev pub deepest : ℕ
deepest = 200

-- none of these tokens opens one level too many
abbrev pub NoneTooDeep : List Token → Type 0
NoneTooDeep ts = (before after : List Token) (t : Token) (open_tags : List Tag) → ts ≡ before ++ t ∷ after → is_start_or_empty t ≡ true → AreOpen open_tags before
    → length open_tags < deepest

-- the file spells the tree, and has no more levels than a file may have
pub record GivesTree (bytes : List ℕ) (t : Tree) : Type 0 where
  pub spelled : Spells bytes t
  pub shallow : NoneTooDeep spelled.whole.tokens

-- the first fitting tag that opens one level too many is at the place, and no fault is there or before it
pub record DepthPlace (bytes : List ℕ) (place : ℕ) : Type 0 where
  pub left : List ℕ
  pub begins : Begins bytes left
  pub opened : IsWholeOpening bytes begins.opening
  pub placed : place + length left ≡ length bytes
  pub open_tags : List Tag
  pub are_open : AreOpen open_tags begins.tokens
  pub full : length open_tags ≡ deepest
  pub first : NoneTooDeep begins.tokens
  pub tag : Token
  pub is_tag : is_start_or_empty tag ≡ true
  pub fits : Fits begins.tokens tag
  pub more : List ℕ
  pub follows : left ≡ encode_utf8_all (token_written tag) ++ more
  pub no_fault : (p : ℕ) → FaultPlace bytes p → place < p

-- the file spells no tree and has its fault at the place, and no level too many before that
pub record IsNotXml (bytes : List ℕ) (place : ℕ) : Type 0 where
  pub fault : FaultPlace bytes place
  pub not_deep : (p : ℕ) → DepthPlace bytes p → ⊥
