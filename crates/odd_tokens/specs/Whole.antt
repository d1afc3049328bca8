-- Which characters are a whole token or a whole XML declaration, and what they give to the tree.
use Rattle.std.specs.Prelude.{◌≡◌, ◌⊎◌, ℕ, Bool, true, List, All, IsTrue}
use Rattle.odd_tokens.specs.Characters.{is_white}
use Rattle.odd_tokens.specs.Making.{token_made}
use Rattle.odd_tokens.specs.Openings.{Declaration, IsDeclaration, declaration_written}
use Rattle.odd_tokens.specs.Tokens as written
use Rattle.odd_tokens.specs.declared.token.Token.{Token}
use Rattle.odd_tokens.specs.declared.token.Token.TheVariants as token

-- a tag and a token but for this, that no name may stand twice in a tag: what the lexer sees to
pub record IsLexedTag (t : written.Tag) : Type 0 where
  pub named : written.IsQName t.name
  pub attributed : All written.IsAttribute t.attributes
  pub ended : IsTrue (is_white t.space)

abbrev pub IsLexed : written.Token → Type 0
IsLexed (written.start_tag t) = IsLexedTag t
IsLexed (written.empty_tag t) = IsLexedTag t
IsLexed t = written.IsToken t

-- the characters that begin at the byte are a token, which gives this
pub record IsRead (at : ℕ) (read : List ℕ) (made : Token) : Type 0 where
  pub token : written.Token
  pub is_lexed : IsLexed token
  pub is_written : written.token_written token ≡ read
  pub is_made : made ≡ token_made at token

-- the characters are an XML declaration, which gives nothing
pub record IsDeclared (read : List ℕ) (made : Token) : Type 0 where
  pub declaration : Declaration
  pub is_declaration : IsDeclaration declaration
  pub is_written : declaration_written declaration ≡ read
  pub is_made : made ≡ token.Passed

-- they are a token, or, where nothing but a byte order mark stands before them, a declaration
abbrev pub IsWhole : Bool → ℕ → List ℕ → Token → Type 0
IsWhole fresh at read made = IsRead at read made ⊎ ((fresh ≡ true) × IsDeclared read made)
