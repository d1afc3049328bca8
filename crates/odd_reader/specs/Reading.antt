-- What a reader has made of the characters so far: what its private functions say. The public contract is in other words.
use Rattle.std.specs.Prelude.{◌≡◌, ◌≢◌, ℕ, ◌+◌, Bool, true, false, List, [], ◌∷◌, ◌++◌, Option, None, Ok, encode_utf8}
use Rattle.std.specs.Char.{IsScalar}
use Rattle.odd_tokens.specs.Making.{token_made}
use Rattle.odd_tokens.specs.Openings.{Declaration, Opening, IsOpening, opening_written}
use Rattle.odd_tokens.specs.Tokens.{Token, tokens_written, size_of}
use Rattle.odd_tokens.specs.Unfinished.{Reads}
use Rattle.odd_tokens.specs.Whole.{IsLexed, IsWhole}
use Rattle.odd_tokens.specs.declared.lexer.Fault.{Fault}
use Rattle.odd_tokens.specs.declared.lexer.Fault.TheVariants as fault
use Rattle.odd_tokens.specs.declared.token.Token.{Token as Made}
use Rattle.odd_reader.specs.Building.{Kept, build, begun, kept_of}
use Rattle.odd_reader.specs.declared.misfit.Misfit.{Misfit}
use Rattle.odd_reader.specs.declared.misfit.Misfit.TheVariants as misfit
use Rattle.odd_reader.specs.declared.reader.ReadRefusal.{ReadRefusal}
use Rattle.odd_reader.specs.declared.reader.ReadRefusal.TheVariants as refusal
use Rattle.odd_reader.specs.declared.reader.Reader.{Reader}

-- the builder has taken what these tokens give, of which the first begins at the byte, and keeps this
pub data HasBuilt (start : ℕ) : List Token → Kept → Type 0 where
  nothing : HasBuilt start [] begun
  more : {ts us : List Token} {k m : Kept} (t : Token) → HasBuilt start ts k → IsLexed t → build k (token_made (start + size_of (tokens_written ts)) t) ≡ Ok m
      → us ≡ ts ++ t ∷ [] → HasBuilt start us m

-- neither a declaration nor a token was read
abbrev pub is_fresh : Option Declaration → List Token → Bool
is_fresh None [] = true
is_fresh d ts = false

-- the characters are an opening and tokens, which the builder took, and the characters of an unfinished token, which the lexer read
pub record HasTaken (reads : Bool → ℕ → List ℕ → Type 0) (k : Kept) (cs : List ℕ) : Type 0 where
  pub opening : Opening
  pub is_opening : IsOpening opening
  pub tokens : List Token
  pub built : HasBuilt (size_of (opening_written opening)) tokens k
  pub unfinished : List ℕ
  pub parts : cs ≡ (opening_written opening ++ tokens_written tokens) ++ unfinished
  pub read : reads (is_fresh opening.declaration tokens) (size_of (opening_written opening ++ tokens_written tokens)) unfinished
  -- nothing whole stands first in the unfinished token
  pub none_whole : (front left : List ℕ) (made : Made) → unfinished ≡ front ++ left
      → IsWhole (is_fresh opening.declaration tokens) (size_of (opening_written opening ++ tokens_written tokens)) front made → ⊥

abbrev pub HasRead : Reader → List ℕ → Type 0
HasRead r = HasTaken (Reads r.lexer) (kept_of r.builder)

-- where the unfinished token begins, or the next one
abbrev pub place_of : {reads : Bool → ℕ → List ℕ → Type 0} {k : Kept} {cs : List ℕ} → HasTaken reads k cs → ℕ
place_of h = size_of (opening_written h.opening ++ tokens_written h.tokens)

abbrev pub refusal_of_fault : ℕ → Fault → ReadRefusal
refusal_of_fault at fault.Malformed = refusal.NotXml at
refusal_of_fault at fault.NoMemory = refusal.NoMemory

abbrev pub refusal_of_misfit : ℕ → Misfit → ReadRefusal
refusal_of_misfit at misfit.Misplaced = refusal.NotXml at
refusal_of_misfit at misfit.TooDeep = refusal.TooDeep at
refusal_of_misfit at misfit.NoMemory = refusal.NoMemory

-- the front ends where the bytes do, or where no character begins
pub record IsLongestFront (bytes front : List ℕ) : Type 0 where
  pub rest : List ℕ
  pub parts : bytes ≡ front ++ rest
  pub none_begins : (c : ℕ) (left : List ℕ) → IsScalar c → rest ≢ encode_utf8 c ++ left
