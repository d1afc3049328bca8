-- What a reader takes at once of the text that is left: more than one character, where they are taken one by one in the same way.
use Rattle.std.specs.Prelude.{◌≡◌, ◌<◌, ℕ, length, Bool, true, false, ◌&&◌, ◌||◌, ◌==◌, not, List, [], ◌∷◌, ◌++◌, codes}
use Rattle.std.specs.List.{list_all}
use Rattle.std.specs.Str.{encode_utf8_all}
use Rattle.odd_tokens.specs.Characters.{is_char}
use Rattle.odd_tokens.specs.Tokens.{size_of}
use Rattle.odd_tokens.specs.Unfinished.{Reads}
use Rattle.odd_tokens.specs.declared.token.WrittenName.{WrittenName}
use Rattle.odd_reader.specs.Building.{Kept, kept_of, element_closed, with_text}
use Rattle.odd_reader.specs.Reading.{HasRead}
use Rattle.odd_reader.specs.declared.builder.Last.{Last}
use Rattle.odd_reader.specs.declared.builder.Last.TheVariants as last
use Rattle.odd_reader.specs.declared.element.OpenElement.{OpenElement}
use Rattle.odd_reader.specs.declared.reader.Reader.{Reader}

-- a character that is text by itself wherever nothing special stands last, and after which nothing special stands last
abbrev pub is_plain : ℕ → Bool
is_plain c = is_char c && not (c == 0xD || c == 0x26 || c == 0x3C || c == 0x5D)

-- each byte of such a character, but for those of the last block of the plane
abbrev pub is_plain_byte : ℕ → Bool
is_plain_byte b = is_plain b && not (b == 0xEF)

-- the bytes of plain characters
pub record IsPlain (bytes : List ℕ) : Type 0 where
  pub characters : List ℕ
  pub all_plain : list_all is_plain characters ≡ true
  pub written : encode_utf8_all characters ≡ bytes

abbrev pub some_open : List OpenElement → Bool
some_open [] = false
some_open (o ∷ os) = true

abbrev is_other : Last → Bool
is_other last.Other = true
is_other l = false

-- an element is open, and nothing special stands last
abbrev pub takes_plain : Kept → Bool
takes_plain k = some_open k.open_elements && is_other k.last

abbrev pub with_plain : List ℕ → Kept → Kept
with_plain bytes k = record k { text = k.text ++ bytes }

-- text whose characters are not read by themselves
abbrev pub with_inside : List ℕ → Kept → Kept
with_inside bytes k = with_text bytes last.Other k

-- the bytes of a name as it is written
abbrev pub prefix_bytes : List ℕ → List ℕ
prefix_bytes [] = []
prefix_bytes (b ∷ bs) = (b ∷ bs) ++ codes ":"

abbrev pub end_bytes : WrittenName → List ℕ
end_bytes n = codes "</" ++ prefix_bytes n.prefix ++ n.local ++ codes ">"

-- an end tag of the innermost of these stands first
abbrev pub EndsFirst : List OpenElement → List ℕ → List ℕ → Type 0
EndsFirst [] text rest = ⊥
EndsFirst (o ∷ os) text rest = text ≡ end_bytes o.written ++ rest

abbrev pub ended : Kept → Kept
ended k = record (element_closed k) { last = last.Other }

-- some characters stand first in the text, and the reader has read them after the others; the rest is left
pub record ReadsFront (r : Reader) (cs text rest : List ℕ) : Type 0 where
  pub front : List ℕ
  pub parts : text ≡ encode_utf8_all front ++ rest
  pub read : HasRead r (cs ++ front)

-- the reader took what stands first in the text, which begins at the byte, and the rest is left
pub record Advances (old new : Reader) (at : ℕ) (text rest : List ℕ) : Type 0 where
  pub shorter : length rest < length text
  pub reads : (cs : List ℕ) → at ≡ size_of cs → HasRead old cs → ReadsFront new cs text rest

-- this holds of each file that goes on with the text, which begins at the byte, and of the place
abbrev pub Refuses : (List ℕ → ℕ → Type 0) → Reader → ℕ → List ℕ → ℕ → Type 0
Refuses holds r at text place = (cs others : List ℕ) → at ≡ size_of cs → HasRead r cs → holds (encode_utf8_all cs ++ (text ++ others)) place

-- no token is unfinished, and an element is open
pub record IsInside (r : Reader) : Type 0 where
  pub between : (fresh : Bool) (at : ℕ) (read : List ℕ) → Reads r.lexer fresh at read → read ≡ []
  pub inside : some_open (kept_of r.builder).open_elements ≡ true
