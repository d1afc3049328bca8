-- Where a lexer stands among characters: between two tokens, or in a token of which it has read some.
use Rattle.std.specs.Prelude.{◌≡◌, ◌≢◌, ◌⊎◌, ℕ, ◌+◌, Bool, true, false, List, [], ◌∷◌, ◌++◌, length, Some, None, encode_utf8}
use Rattle.odd_tokens.specs.Lexing.{Lexed, lexed, next}
use Rattle.odd_tokens.specs.Whole.{IsWhole}
use Rattle.odd_tokens.specs.declared.lexer.Lexer.{Lexer}
use Rattle.odd_tokens.specs.declared.lexer.State.TheVariants as state
use Rattle.odd_tokens.specs.declared.token.Token.{Token}

-- no token is unfinished
pub record IsIdle (l : Lexed) : Type 0 where
  pub between : l.state ≡ state.Between
  pub plain : l.declares ≡ false

-- the characters, the first of which begins at the byte, are taken one after the other, each as a part of one token that does not end
abbrev pub Goes : Lexed → ℕ → List ℕ → Lexed → Type 0
Goes l at [] after = l ≡ after
Goes l at (c ∷ cs) after = (mid : Lexed) × (next l at c ≡ Some (mid, None)) × (mid.state ≢ state.Between) × Goes mid (at + length (encode_utf8 c)) cs after

pub record HasRead (l : Lexed) (fresh : Bool) (at : ℕ) (read : List ℕ) : Type 0 where
  pub before : Lexed
  pub idle : IsIdle before
  pub opened : before.opening ≡ fresh
  pub goes : Goes before at read l

-- the lexer stands in a token that begins at the byte, of which it has read these characters, or between two tokens, where it has read none;
-- where `fresh`, nothing but a byte order mark stands before, so the token may be the XML declaration
abbrev pub Reads : Lexer → Bool → ℕ → List ℕ → Type 0
Reads lexer = HasRead (lexed lexer)

-- this holds of the characters of the unfinished token with the next one, which begins at the byte
abbrev pub With : Lexer → ℕ → ℕ → (Bool → ℕ → List ℕ → Type 0) → Type 0
With lexer here c holds = (fresh : Bool) (at : ℕ) (read : List ℕ) → Reads lexer fresh at read → (read ≡ [] → at ≡ here) → holds fresh at (read ++ c ∷ [])

-- a byte order mark at the very beginning, which is no token
abbrev pub IsMark : Bool → ℕ → List ℕ → Type 0
IsMark fresh at cs = (fresh ≡ true) × (at ≡ 0) × (cs ≡ 0xFEFF ∷ [])

-- they are no whole token, and the lexer stands in the token, or after a byte order mark
abbrev pub GoesOn : (Bool → ℕ → List ℕ → Type 0) → Bool → ℕ → List ℕ → Type 0
GoesOn reads fresh at cs = (IsMark fresh at cs × ((here : ℕ) → reads true here [])) ⊎ (((made : Token) → IsWhole fresh at cs made → ⊥) × reads fresh at cs)

-- they are a whole token that gives this, and the lexer stands after it
abbrev pub Ends : (Bool → ℕ → List ℕ → Type 0) → Token → Bool → ℕ → List ℕ → Type 0
Ends reads made fresh at cs = IsWhole fresh at cs made × (IsMark fresh at cs → ⊥) × ((here : ℕ) → reads false here [])

-- no token begins with them
abbrev pub NoneBegins : Bool → ℕ → List ℕ → Type 0
NoneBegins fresh at cs = (more : List ℕ) (made : Token) → IsWhole fresh at (cs ++ more) made → ⊥
