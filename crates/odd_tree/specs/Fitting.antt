-- Which token fits after which (XML 1.0, sections 2.1, 2.4, 2.8, 3 and 3.1).
use Rattle.std.specs.Prelude.{◌≡◌, ℕ, Bool, true, false, List, [], ◌∷◌, ◌++◌, IsTrue, ◌||◌}
use Rattle.std.specs.List.{list_any}
use Rattle.odd_text.specs.declared.name.Bind.{Bind}
use Rattle.odd_tokens.specs.Characters.{is_space}
use Rattle.odd_tokens.specs.Tokens.{QName, Tag, Token, character, comment, instruction, start_tag, empty_tag, end_tag, IsToken}
use Rattle.odd_tree.specs.Names.{binds_of, NamesFit}

abbrev pub is_start_or_end : Token → Bool
is_start_or_end (start_tag t) = true
is_start_or_end (end_tag n s) = true
is_start_or_end t = false

abbrev pub is_start_or_empty : Token → Bool
is_start_or_empty (start_tag t) = true
is_start_or_empty (empty_tag t) = true
is_start_or_empty t = false

abbrev pub is_tag : Token → Bool
is_tag t = is_start_or_end t || is_start_or_empty t

-- each start tag has its end tag, and each end tag its start tag
pub data IsBalanced : List Token → Type 0 where
  nothing : IsBalanced []
  piece : {t : Token} {ts : List Token} → is_start_or_end t ≡ false → IsBalanced ts → IsBalanced (t ∷ ts)
  element : {tag : Tag} {ts : List Token} (name : QName) (space : List ℕ) (inside after : List Token) → IsBalanced inside → IsBalanced after
      → ts ≡ inside ++ end_tag name space ∷ after → IsBalanced (start_tag tag ∷ ts)

-- the elements that are open after the tokens have these start tags, the outermost first
pub data AreOpen : List Tag → List Token → Type 0 where
  none : {ts : List Token} → IsBalanced ts → AreOpen [] ts
  more : {tag : Tag} {tags : List Tag} {ts : List Token} (before inside : List Token) → IsBalanced before → AreOpen tags inside
      → ts ≡ before ++ start_tag tag ∷ inside → AreOpen (tag ∷ tags) ts

-- the bindings of the open elements, the outermost first
abbrev pub open_binds : List Tag → List Bind
open_binds [] = []
open_binds (t ∷ ts) = binds_of t.attributes ++ open_binds ts

abbrev pub innermost : Tag → List Tag → Tag
innermost t [] = t
innermost t (u ∷ us) = innermost u us

-- two brackets stand at the end, as themselves and side by side
abbrev EndsInBrackets : List Token → Type 0
EndsInBrackets before = (front : List Token) × (before ≡ front ++ character 0x5D ∷ character 0x5D ∷ [])

abbrev HasNoElement : List Token → Type 0
HasNoElement before = list_any is_start_or_empty before ≡ false

-- the token has its place after these, of which these elements are open
abbrev pub FitsIn : List Token → List Tag → Token → Type 0
FitsIn before [] (character c) = IsTrue (is_space c)
FitsIn before [] (comment text) = Unit {0}
FitsIn before [] (instruction target rest) = Unit {0}
FitsIn before [] (start_tag t) = HasNoElement before × NamesFit [] t
FitsIn before [] (empty_tag t) = HasNoElement before × NamesFit [] t
FitsIn before [] t = ⊥
FitsIn before (tag ∷ tags) (character c) = c ≡ 0x3E → EndsInBrackets before → ⊥
FitsIn before (tag ∷ tags) (start_tag t) = NamesFit (open_binds (tag ∷ tags)) t
FitsIn before (tag ∷ tags) (empty_tag t) = NamesFit (open_binds (tag ∷ tags)) t
FitsIn before (tag ∷ tags) (end_tag name space) = name ≡ (innermost tag tags).name
FitsIn before (tag ∷ tags) t = Unit {0}

pub record Fits (before : List Token) (t : Token) : Type 0 where
  pub token : IsToken t
  pub open_tags : List Tag
  pub are_open : AreOpen open_tags before
  pub fits_in : FitsIn before open_tags t

-- each token fits after those before it
abbrev pub AllFit : List Token → Type 0
AllFit ts = (before after : List Token) (t : Token) → ts ≡ before ++ t ∷ after → Fits before t
