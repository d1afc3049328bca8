-- The tokens of a file: what each is written as, and which are well-formed in themselves.
use Rattle.std.specs.Prelude.{◌≢◌, ℕ, ◌+◌, ◌-◌, ◌*◌, Bool, true, false, ◌&&◌, ◌||◌, ◌==◌, if◌then◌else◌, List, [], ◌∷◌, ◌++◌, length, map, IsTrue, All, codes, not}
use Rattle.std.specs.List.{list_all}
use Rattle.std.specs.Str.{encode_utf8_all}
use Rattle.odd_tokens.specs.Characters.{is_within, is_char, is_space, is_ncname, is_white}

-- a name as it is written, with a prefix that is empty where there is none (Namespaces, section 4: QName)
pub record QName : Type 0 where
  pub prefix : List ℕ
  pub local : List ℕ

-- XML 1.0, section 4.1 and 4.6: a reference to a predefined entity or to a character
pub data Reference : Type 0 where
  lt : Reference
  gt : Reference
  amp : Reference
  apos : Reference
  quot : Reference
  decimal : List ℕ → Reference
  hexadecimal : List ℕ → Reference

-- a piece of an attribute's value
pub data Piece : Type 0 where
  itself : ℕ → Piece
  reference : Reference → Piece

-- XML 1.0, section 3.1: Attribute, with the white space before it and around its equals sign
pub record Attribute : Type 0 where
  pub space : List ℕ
  pub name : QName
  pub before : List ℕ
  pub after : List ℕ
  pub quote : ℕ
  pub value : List Piece

-- the inside of a start tag or an empty tag, with the white space at its end
pub record Tag : Type 0 where
  pub name : QName
  pub attributes : List Attribute
  pub space : List ℕ

pub data Token : Type 0 where
  character : ℕ → Token
  referred : Reference → Token
  cdata : List ℕ → Token
  comment : List ℕ → Token
  instruction : (target rest : List ℕ) → Token
  start_tag : Tag → Token
  empty_tag : Tag → Token
  end_tag : QName → (space : List ℕ) → Token

-- what is written

abbrev prefix_written : List ℕ → List ℕ
prefix_written [] = []
prefix_written (c ∷ cs) = (c ∷ cs) ++ codes ":"

abbrev pub name_written : QName → List ℕ
name_written n = prefix_written n.prefix ++ n.local

abbrev pub reference_written : Reference → List ℕ
reference_written lt = codes "&lt;"
reference_written gt = codes "&gt;"
reference_written amp = codes "&amp;"
reference_written apos = codes "&apos;"
reference_written quot = codes "&quot;"
reference_written (decimal digits) = codes "&#" ++ digits ++ codes ";"
reference_written (hexadecimal digits) = codes "&#x" ++ digits ++ codes ";"

abbrev pub value_written : List Piece → List ℕ
value_written [] = []
value_written (itself c ∷ pieces) = c ∷ value_written pieces
value_written (reference r ∷ pieces) = reference_written r ++ value_written pieces

abbrev pub attribute_written : Attribute → List ℕ
attribute_written a = a.space ++ name_written a.name ++ a.before ++ codes "=" ++ a.after ++ a.quote ∷ (value_written a.value ++ a.quote ∷ [])

abbrev pub attributes_written : List Attribute → List ℕ
attributes_written [] = []
attributes_written (a ∷ rest) = attribute_written a ++ attributes_written rest

abbrev pub tag_written : Tag → List ℕ
tag_written t = name_written t.name ++ attributes_written t.attributes ++ t.space

abbrev pub token_written : Token → List ℕ
token_written (character c) = c ∷ []
token_written (referred r) = reference_written r
token_written (cdata text) = codes "<![CDATA[" ++ text ++ codes "]]>"
token_written (comment text) = codes "<!--" ++ text ++ codes "-->"
token_written (instruction target rest) = codes "<?" ++ target ++ rest ++ codes "?>"
token_written (start_tag t) = codes "<" ++ tag_written t ++ codes ">"
token_written (empty_tag t) = codes "<" ++ tag_written t ++ codes "/>"
token_written (end_tag name space) = codes "</" ++ name_written name ++ space ++ codes ">"

abbrev pub tokens_written : List Token → List ℕ
tokens_written [] = []
tokens_written (t ∷ ts) = token_written t ++ tokens_written ts

-- how many bytes these characters take in a file
abbrev pub size_of : List ℕ → ℕ
size_of cs = length (encode_utf8_all cs)

-- which are well-formed in themselves

abbrev digits_value : ℕ → ℕ → (ℕ → ℕ) → List ℕ → ℕ
digits_value base so_far value [] = so_far
digits_value base so_far value (d ∷ ds) = digits_value base (so_far * base + value d) value ds

abbrev pub is_decimal_digit : ℕ → Bool
is_decimal_digit d = is_within 0x30 0x39 d

abbrev pub is_hexadecimal_digit : ℕ → Bool
is_hexadecimal_digit d = is_decimal_digit d || is_within 0x41 0x46 d || is_within 0x61 0x66 d

abbrev hexadecimal_digit : ℕ → ℕ
hexadecimal_digit d = if is_decimal_digit d then d - 0x30 else (if is_within 0x41 0x46 d then d - 0x37 else d - 0x57)

-- the character that a reference stands for
abbrev pub character_of : Reference → ℕ
character_of lt = 0x3C
character_of gt = 0x3E
character_of amp = 0x26
character_of apos = 0x27
character_of quot = 0x22
character_of (decimal digits) = digits_value 10 0 (λ d. d - 0x30) digits
character_of (hexadecimal digits) = digits_value 16 0 hexadecimal_digit digits

-- XML 1.0, section 4.1: well-formed, and to a legal character
abbrev pub IsReference : Reference → Type 0
IsReference (decimal digits) = (digits ≢ []) × IsTrue (list_all is_decimal_digit digits) × IsTrue (is_char (digits_value 10 0 (λ d. d - 0x30) digits))
IsReference (hexadecimal digits) = (digits ≢ []) × IsTrue (list_all is_hexadecimal_digit digits) × IsTrue (is_char (digits_value 16 0 hexadecimal_digit digits))
IsReference r = Unit {0}

abbrev pub IsQName : QName → Type 0
IsQName n = IsTrue (is_prefix n.prefix) × IsTrue (is_ncname n.local)
  where
    is_prefix : List ℕ → Bool
    is_prefix [] = true
    is_prefix (c ∷ cs) = is_ncname (c ∷ cs)

abbrev pub IsText : List ℕ → Type 0
IsText cs = IsTrue (list_all is_char cs)

-- the part stands nowhere in the text
abbrev pub LacksPart : List ℕ → List ℕ → Type 0
LacksPart part text = (before after : List ℕ) → text ≢ before ++ part ++ after

-- XML 1.0, section 2.3: a piece of AttValue in these quotes
abbrev pub IsPieceIn : ℕ → Piece → Type 0
IsPieceIn quote (itself c) = IsTrue (is_char c) × (c ≢ 0x3C) × (c ≢ 0x26) × (c ≢ quote)
IsPieceIn quote (reference r) = IsReference r

pub record IsAttribute (a : Attribute) : Type 0 where
  pub spaced : (a.space ≢ []) × IsTrue (is_white a.space)
  pub named : IsQName a.name
  pub around : IsTrue (is_white a.before) × IsTrue (is_white a.after)
  pub quoted : IsTrue (a.quote == 0x22 || a.quote == 0x27)
  pub valued : All (IsPieceIn a.quote) a.value

-- no item stands twice
abbrev pub NoneTwice : {A : Type 0} → List A → Type 0
NoneTwice {A} items = (before between after : List A) (item : A) → items ≢ before ++ item ∷ (between ++ item ∷ after)

pub record IsTag (t : Tag) : Type 0 where
  pub named : IsQName t.name
  pub attributed : All IsAttribute t.attributes
  pub once : NoneTwice (map (λ a. name_written a.name) t.attributes)
  pub ended : IsTrue (is_white t.space)

-- the letters x, m and l in any case
abbrev pub is_xml : List ℕ → Bool
is_xml (x ∷ m ∷ l ∷ []) = (x == 0x78 || x == 0x58) && (m == 0x6D || m == 0x4D) && (l == 0x6C || l == 0x4C)
is_xml cs = false

-- empty, or white space first
abbrev pub is_set_off : List ℕ → Bool
is_set_off [] = true
is_set_off (c ∷ cs) = is_space c

abbrev pub IsToken : Token → Type 0
IsToken (character c) = IsTrue (is_char c) × (c ≢ 0x3C) × (c ≢ 0x26)
IsToken (referred r) = IsReference r
IsToken (cdata text) = IsText text × LacksPart (codes "]]>") text
IsToken (comment text) = IsText text × LacksPart (codes "--") text × ((front : List ℕ) → text ≢ front ++ codes "-")
IsToken (instruction target rest) = IsTrue (is_ncname target) × IsTrue (not (is_xml target)) × IsTrue (is_set_off rest) × IsText rest × LacksPart (codes "?>") rest
IsToken (start_tag t) = IsTag t
IsToken (empty_tag t) = IsTag t
IsToken (end_tag name space) = IsQName name × IsTrue (is_white space)
