-- What is read at once of the text that is left: tags with names of ASCII and values without tabs and line ends, comments, processing instructions, CDATA sections, references.
use Rattle.std.specs.Prelude.{◌≡◌, ◌<◌, ℕ, length, Bool, true, ◌&&◌, ◌||◌, ◌==◌, not, List, ◌∷◌, ◌++◌, map, All, IsTrue}
use Rattle.std.specs.List.{list_all}
use Rattle.std.specs.Str.{chars, encode_utf8_all}
use Rattle.std.specs.Str.Parse.{IsNumeral, digits_value}
use Rattle.odd_tokens.specs.Characters.{is_char, is_ncname, is_white, is_within}
use Rattle.odd_tokens.specs.Making.{attribute_made, token_made}
use Rattle.odd_tokens.specs.Tokens.{Attribute, IsAttribute, IsQName, IsReference, Piece, QName, Reference, Token, attribute_written, attributes_written, cdata, character_of, comment, instruction, is_set_off, is_xml, itself, name_written, reference, reference_written, token_written, value_written}
use Rattle.odd_tokens.specs.Values.{value_read}
use Rattle.odd_tokens.specs.Whole.{IsLexed}
use Rattle.odd_tokens.specs.declared.token.Token.{Token as Made}
use Rattle.odd_tokens.specs.declared.token.WrittenAttr.{WrittenAttr}

-- a letter of ASCII, or a low line
abbrev pub begins_plain : ℕ → Bool
begins_plain b = is_within 0x41 0x5A b || b == 0x5F || is_within 0x61 0x7A b

abbrev pub is_plain_part : ℕ → Bool
is_plain_part b = begins_plain b || b == 0x2D || b == 0x2E || is_within 0x30 0x39 b

-- a name of ASCII
pub record IsPlainName (name : List ℕ) : Type 0 where
  pub bytes : encode_utf8_all name ≡ name
  pub named : IsTrue (is_ncname name)

abbrev pub qname : List ℕ → List ℕ → QName
qname prefix local = record { prefix = prefix; local = local }

-- a name of ASCII stands first in the text
pub record IsNamed (text prefix local rest : List ℕ) : Type 0 where
  pub named : IsQName (qname prefix local)
  pub prefix_bytes : encode_utf8_all prefix ≡ prefix
  pub local_bytes : encode_utf8_all local ≡ local
  pub parts : text ≡ name_written (qname prefix local) ++ rest

-- white space stands first in the text
pub record IsSpaced (text rest : List ℕ) : Type 0 where
  pub space : List ℕ
  pub white : IsTrue (is_white space)
  pub parts : text ≡ space ++ rest

-- a character that is read as itself in a value with these quotes
abbrev pub is_plain_in : ℕ → ℕ → Bool
is_plain_in quote c = is_char c && not (c == 0x9 || c == 0xA || c == 0xD || c == 0x26 || c == 0x3C || c == quote)

abbrev pub is_plain_byte_in : ℕ → ℕ → Bool
is_plain_byte_in quote b = is_plain_in quote b && not (b == 0xEF)

-- a piece of a value in these quotes that is read at once: such a character, or a reference
abbrev pub IsSimplePiece : ℕ → Piece → Type 0
IsSimplePiece quote (itself c) = IsTrue (is_plain_in quote c)
IsSimplePiece quote (reference r) = IsReference r

-- pieces of a value in these quotes stand first in the text, and are read as this
pub record ArePiecesFirst (quote : ℕ) (text value rest : List ℕ) : Type 0 where
  pub pieces : List Piece
  pub are_simple : All (IsSimplePiece quote) pieces
  pub is_made : value ≡ encode_utf8_all (value_read pieces)
  pub parts : text ≡ encode_utf8_all (value_written pieces) ++ rest

-- a value of such pieces stands first in the text, after its quote
abbrev pub IsValued : ℕ → (text value rest : List ℕ) → Type 0
IsValued quote text value rest = ArePiecesFirst quote text value (quote ∷ rest)

-- a value in its quotes stands first in the text
pub record IsQuoted (text value rest : List ℕ) : Type 0 where
  pub quote : ℕ
  pub quoted : IsTrue (quote == 0x22 || quote == 0x27)
  pub inner : List ℕ
  pub valued : IsValued quote inner value rest
  pub parts : text ≡ quote ∷ inner

-- an attribute stands first in the text, and is read as this
pub record IsAttributeFirst (text : List ℕ) (made : WrittenAttr) (rest : List ℕ) : Type 0 where
  pub attribute : Attribute
  pub is_attribute : IsAttribute attribute
  pub is_made : made ≡ attribute_made attribute
  pub parts : text ≡ encode_utf8_all (attribute_written attribute) ++ rest

-- attributes stand first in the text
pub record AreAttributesFirst (text : List ℕ) (made : List WrittenAttr) (rest : List ℕ) : Type 0 where
  pub attributes : List Attribute
  pub are_attributes : All IsAttribute attributes
  pub are_made : made ≡ map attribute_made attributes
  pub parts : text ≡ encode_utf8_all (attributes_written attributes) ++ rest

-- a character of XML other than the mark
abbrev pub is_char_but : ℕ → ℕ → Bool
is_char_but mark c = is_char c && not (c == mark)

abbrev pub is_byte_but : ℕ → ℕ → Bool
is_byte_but mark b = is_char_but mark b && not (b == 0xEF)

-- characters of XML other than the mark, with these bytes, stand first in the text
pub record IsUntil (mark : ℕ) (text front rest : List ℕ) : Type 0 where
  pub all_but : list_all (is_char_but mark) (chars front) ≡ true
  pub written : encode_utf8_all (chars front) ≡ front
  pub parts : text ≡ front ++ rest

-- a comment without dashes in it stands first in the text
pub record IsCommentFirst (text rest : List ℕ) : Type 0 where
  pub inside : List ℕ
  pub all_but : list_all (is_char_but 0x2D) inside ≡ true
  pub parts : text ≡ encode_utf8_all (token_written (comment inside)) ++ rest
  pub shorter : length rest < length text

-- a processing instruction without question marks after its target stands first in the text
pub record IsInstructionFirst (text rest : List ℕ) : Type 0 where
  pub target : List ℕ
  pub inside : List ℕ
  pub named : IsTrue (is_ncname target)
  pub other : IsTrue (not (is_xml target))
  pub set_off : IsTrue (is_set_off inside)
  pub all_but : list_all (is_char_but 0x3F) inside ≡ true
  pub parts : text ≡ encode_utf8_all (token_written (instruction target inside)) ++ rest
  pub shorter : length rest < length text

-- a character of a CDATA section that is read as itself, but for a bracket
abbrev pub is_in_section : ℕ → Bool
is_in_section c = is_char c && not (c == 0xD || c == 0x5D)

abbrev pub is_section_byte : ℕ → Bool
is_section_byte b = is_in_section b && not (b == 0xEF)

-- a CDATA section with these bytes of such characters stands first in the text
pub record IsSectionFirst (text inside rest : List ℕ) : Type 0 where
  pub characters : List ℕ
  pub all_plain : list_all is_in_section characters ≡ true
  pub written : encode_utf8_all characters ≡ inside
  pub parts : text ≡ encode_utf8_all (token_written (cdata characters)) ++ rest
  pub shorter : length rest < length text

-- the digits of the base make the number of a character of XML
pub record IsNumberOf (base : ℕ) (digits : List ℕ) (c : ℕ) : Type 0 where
  pub numeral : IsNumeral base digits
  pub value : c ≡ digits_value base digits
  pub legal : is_char c ≡ true

-- such digits and a semicolon stand first in the text
pub record AreDigitsFirst (base : ℕ) (text : List ℕ) (c : ℕ) (rest : List ℕ) : Type 0 where
  pub digits : List ℕ
  pub number : IsNumberOf base digits c
  pub parts : text ≡ digits ++ 0x3B ∷ rest

-- a reference to the character stands first in the text
pub record IsReferenceFirst (text : List ℕ) (c : ℕ) (rest : List ℕ) : Type 0 where
  pub reference : Reference
  pub is_reference : IsReference reference
  pub is_made : c ≡ character_of reference
  pub parts : text ≡ encode_utf8_all (reference_written reference) ++ rest
  pub shorter : length rest < length text

-- a token stands first in the text, which begins at the byte
pub record IsTokenFirst (at : ℕ) (text : List ℕ) (made : Made) (rest : List ℕ) : Type 0 where
  pub token : Token
  pub is_lexed : IsLexed token
  pub is_made : made ≡ token_made at token
  pub parts : text ≡ encode_utf8_all (token_written token) ++ rest
  pub shorter : length rest < length text
