-- Of which parts a tag is made that is not finished, by the state of the lexer, and the token of a finished one.
use Rattle.std.proofs.Common.{◌≡◌, ◌≢◌, ℕ, Bool, true, false, ◌||◌, ◌==◌, List, [], ◌∷◌, ◌++◌, map, All, IsTrue, codes, sym, ap, ◌∙◌, append_assoc}
use Rattle.std.specs.Prelude.{Some, None}
use Rattle.std.specs.Str.{encode_utf8_all}
use Rattle.odd_tokens.proofs.InReference.{InReference}
use Rattle.odd_tokens.proofs.InTagNames.{IsNamed, ends_in_return}
use Rattle.odd_tokens.proofs.LexedSteps.{IsIdle, IsRead, IsDeclared, IsLexedTag}
use Rattle.odd_tokens.specs.Characters.{is_white}
use Rattle.odd_tokens.specs.Lexing.{Lexed, Taken}
use Rattle.odd_tokens.specs.Making.{name_made, attribute_made, tag_made}
use Rattle.odd_tokens.specs.Tokens.{QName, Piece, itself, reference, Attribute, IsQName, IsPieceIn, IsAttribute, name_written, value_written, attributes_written, Tag, start_tag, empty_tag, tag_written}
use Rattle.odd_tokens.specs.Values.{value_read}
use Rattle.odd_tokens.specs.declared.lexer.NamePart.{NamePart}
use Rattle.odd_tokens.specs.declared.lexer.Named.TheVariants as named
use Rattle.odd_tokens.specs.declared.lexer.Place.TheVariants as place
use Rattle.odd_tokens.specs.declared.lexer.ReferencePart.{ReferencePart}
use Rattle.odd_tokens.specs.declared.lexer.State.{State}
use Rattle.odd_tokens.specs.declared.lexer.State.TheVariants as state
use Rattle.odd_tokens.specs.declared.token.Token.{Token}
use Rattle.odd_tokens.specs.declared.token.Token.TheVariants as token
use Rattle.odd_tokens.specs.declared.token.WrittenName.{WrittenName}
use Rattle.odd_tokens.specs.declared.token.WrittenTag.{WrittenTag}

-- what stands before the attributes of a tag, or of a declaration
abbrev pub head_written : Bool → QName → List ℕ
head_written false n = codes "<" ++ name_written n
head_written true n = codes "<?xml"

abbrev pub IsHead : Bool → QName → WrittenName → Type 0
IsHead false n made = IsQName n × (made ≡ name_made n)
IsHead true n made = Unit {0}

-- a declaration has no references
abbrev pub IsPlainPiece : Piece → Type 0
IsPlainPiece (itself c) = Unit {0}
IsPlainPiece (reference r) = ⊥

abbrev pub ArePlain : Bool → List Piece → Type 0
ArePlain false ps = Unit {0}
ArePlain true ps = All IsPlainPiece ps

-- the head and the attributes so far
pub record IsFront (declares : Bool) (at : ℕ) (read : List ℕ) (tag : WrittenTag) : Type 0 where
  pub name : QName
  pub attributes : List Attribute
  pub is_head : IsHead declares name tag.name
  pub attributed : All IsAttribute attributes
  pub are_plain : All (λ a. ArePlain declares a.value) attributes
  pub is_read : read ≡ head_written declares name ++ attributes_written attributes
  pub placed : tag.at ≡ at
  pub is_made : tag.attrs ≡ map attribute_made attributes

-- and then an unfinished part
pub record IsAfter (declares : Bool) (at : ℕ) (read : List ℕ) (tag : WrittenTag) (IsPart : List ℕ → Type 0) : Type 0 where
  pub front : List ℕ
  pub part : List ℕ
  pub is_front : IsFront declares at front tag
  pub is_part : IsPart part
  pub is_read : read ≡ front ++ part

-- white space before an attribute
abbrev pub IsApart : List ℕ → Type 0
IsApart space = (space ≢ []) × IsTrue (is_white space)

-- and its name
pub record IsNaming (p : NamePart) (n : WrittenName) (part : List ℕ) : Type 0 where
  pub space : List ℕ
  pub text : List ℕ
  pub spaced : IsApart space
  pub is_named : IsNamed p text n
  pub is_read : part ≡ space ++ text

-- and the white space after its name
pub record IsBeforeEquals (n : WrittenName) (part : List ℕ) : Type 0 where
  pub space : List ℕ
  pub name : QName
  pub before : List ℕ
  pub spaced : IsApart space
  pub is_name : IsQName name
  pub is_made : n ≡ name_made name
  pub around : IsTrue (is_white before)
  pub is_read : part ≡ space ++ name_written name ++ before

-- and the equals sign, with the white space after it
pub record IsBeforeQuote (n : WrittenName) (part : List ℕ) : Type 0 where
  pub space : List ℕ
  pub name : QName
  pub before : List ℕ
  pub after : List ℕ
  pub spaced : IsApart space
  pub is_name : IsQName name
  pub is_made : n ≡ name_made name
  pub around : IsTrue (is_white before) × IsTrue (is_white after)
  pub is_read : part ≡ space ++ name_written name ++ before ++ codes "=" ++ after

-- the value after its quote
pub record IsValued (declares : Bool) (quote : ℕ) (after_return : Bool) (value : List ℕ) (text : List ℕ) : Type 0 where
  pub pieces : List Piece
  pub valued : All (IsPieceIn quote) pieces
  pub are_plain : ArePlain declares pieces
  pub returned : after_return ≡ ends_in_return pieces
  pub is_read : text ≡ value_written pieces
  pub is_made : value ≡ encode_utf8_all (value_read pieces)

-- an attribute up to a text in its quotes
pub record IsQuoted (quote : ℕ) (n : WrittenName) (IsText : List ℕ → Type 0) (part : List ℕ) : Type 0 where
  pub before : List ℕ
  pub text : List ℕ
  pub is_before : IsBeforeQuote n before
  pub quoted : IsTrue (quote == 0x22 || quote == 0x27)
  pub is_text : IsText text
  pub is_read : part ≡ before ++ quote ∷ text

-- a value, and a reference that is not finished
pub record IsReferring (declares : Bool) (quote : ℕ) (p : ReferencePart) (l : Lexed) (text : List ℕ) : Type 0 where
  pub before : List ℕ
  pub name : List ℕ
  pub last : Bool
  pub no_declaration : declares ≡ false
  pub is_before : IsValued declares quote last l.value before
  pub is_reference : InReference p name l
  pub is_read : text ≡ before ++ name

-- white space and a mark at the end of a tag
pub record IsEnding (mark : ℕ) (part : List ℕ) : Type 0 where
  pub space : List ℕ
  pub spaced : IsTrue (is_white space)
  pub is_read : part ≡ space ++ mark ∷ []

-- the name of the element
pub record IsOpening (declares : Bool) (at : ℕ) (p : NamePart) (l : Lexed) (read : List ℕ) : Type 0 where
  pub text : List ℕ
  pub no_declaration : declares ≡ false
  pub placed : l.tag.at ≡ at
  pub no_attributes : l.tag.attrs ≡ []
  pub is_named : IsNamed p text l.name
  pub is_read : read ≡ codes "<" ++ text

abbrev pub InState : State → (declares : Bool) → (at : ℕ) → (read : List ℕ) → Lexed → Type 0
InState (state.Name named.Element p) declares at read l = IsOpening declares at p l read
InState state.TagSpace declares at read l = IsAfter declares at read l.tag IsApart
InState (state.Name named.Attribute p) declares at read l = IsAfter declares at read l.tag (IsNaming p l.name)
InState state.BeforeEquals declares at read l = IsAfter declares at read l.tag (IsBeforeEquals l.name)
InState state.BeforeQuote declares at read l = IsAfter declares at read l.tag (IsBeforeQuote l.name)
InState (state.Value quote after_return) declares at read l = IsAfter declares at read l.tag (IsQuoted quote l.name (IsValued declares quote after_return l.value))
InState (state.Reference (place.Value quote) p) declares at read l = IsAfter declares at read l.tag (IsQuoted quote l.name (IsReferring declares quote p l))
InState state.ValueEnd declares at read l = IsFront declares at read l.tag
InState state.Slash declares at read l = (declares ≡ false) × IsAfter declares at read l.tag (IsEnding 0x2F)
InState state.Question declares at read l = (declares ≡ true) × IsAfter declares at read l.tag (IsEnding 0x3F)
InState s declares at read l = ⊥

-- what stays the same in a tag
pub record IsKept (declares : Bool) (at : ℕ) (l : Lexed) : Type 0 where
  pub opened : l.opening ≡ false
  pub begins : l.begin ≡ at
  pub declared : l.declares ≡ declares

-- these characters of a tag that begins at the byte were read, and it is not finished
abbrev pub InTag : (declares : Bool) → (at : ℕ) → (read : List ℕ) → Lexed → Type 0
InTag declares at read l = IsKept declares at l × InState l.state declares at read l

abbrev pub TagEnded : Bool → ℕ → List ℕ → Token → Type 0
TagEnded true at read made = IsDeclared read made
TagEnded false at read made = IsRead at read made

-- what holds after a character
abbrev pub Goes : (declares : Bool) → (at : ℕ) → (read : List ℕ) → Taken → Type 0
Goes declares at read None = Unit {0}
Goes declares at read (Some (m, None)) = InTag declares at read m
Goes declares at read (Some (m, Some made)) = IsIdle m × (m.opening ≡ false) × TagEnded declares at read made

-- the tag that the parts make
record IsTagOf (at : ℕ) (read : List ℕ) (made : WrittenTag) : Type 0 where
  pub tag : Tag
  pub is_lexed : IsLexedTag tag
  pub is_written : read ≡ codes "<" ++ tag_written tag
  pub is_made : made ≡ tag_made at tag

tag_of : (at : ℕ) (front space : List ℕ) (made : WrittenTag) → IsFront false at front made → is_white space ≡ true → IsTagOf at (front ++ space) made
tag_of at front space made f w = record {
  tag = record { name = f.name; attributes = f.attributes; space = space };
  is_lexed = record { named = f.is_head.0; attributed = f.attributed; ended = w };
  is_written = ap (λ z. z ++ space) f.is_read;
  is_made = λ j. record { at = f.placed j; name = f.is_head.1 j; attrs = f.is_made j };
}

start_read : (at : ℕ) (read : List ℕ) (made : WrittenTag) → IsTagOf at read made → IsRead at (read ++ codes ">") (token.Start made)
start_read at read made t = record {
  token = start_tag t.tag;
  is_lexed = t.is_lexed;
  is_written = ap (λ z. z ++ codes ">") (sym t.is_written);
  is_made = ap token.Start t.is_made;
}

pub start_ends : (declares : Bool) (at : ℕ) (front space : List ℕ) (made : WrittenTag) → declares ≡ false → IsFront declares at front made → is_white space ≡ true
    → TagEnded declares at ((front ++ space) ++ codes ">") (token.Start made)
start_ends true at front space made e f w = cc
start_ends false at front space made e f w = start_read at (front ++ space) made (tag_of at front space made f w)

empty_read : (at : ℕ) (read whole : List ℕ) (made : WrittenTag) → whole ≡ read ++ codes "/>" → IsTagOf at read made → IsRead at whole (token.Empty made)
empty_read at read whole made e t = record {
  token = empty_tag t.tag;
  is_lexed = t.is_lexed;
  is_written = ap (λ z. z ++ codes "/>") (sym t.is_written) ∙ sym e;
  is_made = ap token.Empty t.is_made;
}

pub empty_ends : (declares : Bool) (at : ℕ) (read : List ℕ) (made : WrittenTag) → declares ≡ false → IsAfter declares at read made (IsEnding 0x2F)
    → TagEnded declares at (read ++ codes ">") (token.Empty made)
empty_ends true at read made e a = cc
empty_ends false at read made e a =
    let i = a.is_part in
    empty_read at (a.front ++ i.space) (read ++ codes ">") made
    (ap (λ z. z ++ codes ">") (a.is_read ∙ ap (λ z. a.front ++ z) i.is_read) ∙ simp append_assoc)
    (tag_of at a.front i.space made a.is_front i.spaced)
