-- Characters of XML 1.0 and names of Namespaces in XML 1.0. A character is its code point, and a text is its characters.
use Rattle.std.specs.Prelude.{◌≡◌, ℕ, Bool, false, ◌&&◌, ◌||◌, ◌==◌, nat_le, List, [], ◌∷◌, IsTrue}
use Rattle.std.specs.Str.{encode_utf8_all}
use Rattle.std.specs.List.{list_all}

abbrev pub is_within : ℕ → ℕ → ℕ → Bool
is_within low high c = nat_le low c && nat_le c high

-- the last character of Unicode, and of XML
abbrev pub last_character : ℕ
last_character = 0x10FFFF

-- XML 1.0, section 2.2: Char
unfoldable pub is_char : ℕ → Bool
is_char c = c == 0x9 || c == 0xA || c == 0xD || is_within 0x20 0xD7FF c || is_within 0xE000 0xFFFD c || is_within 0x10000 last_character c

-- XML 1.0, section 2.3: a character of S
abbrev pub is_space : ℕ → Bool
is_space c = c == 0x20 || c == 0x9 || c == 0xD || c == 0xA

-- XML 1.0, section 2.3: NameStartChar, without the colon
unfoldable pub is_name_start : ℕ → Bool
is_name_start c =
    is_within 0x41 0x5A c || c == 0x5F || is_within 0x61 0x7A c || is_within 0xC0 0xD6 c || is_within 0xD8 0xF6 c
    || is_within 0xF8 0x2FF c || is_within 0x370 0x37D c || is_within 0x37F 0x1FFF c || is_within 0x200C 0x200D c
    || is_within 0x2070 0x218F c || is_within 0x2C00 0x2FEF c || is_within 0x3001 0xD7FF c || is_within 0xF900 0xFDCF c
    || is_within 0xFDF0 0xFFFD c || is_within 0x10000 0xEFFFF c

-- XML 1.0, section 2.3: NameChar, without the colon
unfoldable pub is_name_char : ℕ → Bool
is_name_char c = is_name_start c || c == 0x2D || c == 0x2E || is_within 0x30 0x39 c || c == 0xB7 || is_within 0x300 0x36F c || is_within 0x203F 0x2040 c

-- Namespaces in XML 1.0, section 3: NCName
abbrev pub is_ncname : List ℕ → Bool
is_ncname [] = false
is_ncname (c ∷ cs) = is_name_start c && list_all is_name_char cs

abbrev pub is_white : List ℕ → Bool
is_white cs = list_all is_space cs

-- the bytes of a text that is an NCName
abbrev pub IsNCName : List ℕ → Type 0
IsNCName bytes = (cs : List ℕ) × (encode_utf8_all cs ≡ bytes) × IsTrue (is_ncname cs)

-- the bytes of characters of XML
abbrev pub IsLegal : List ℕ → Type 0
IsLegal bytes = (cs : List ℕ) × (encode_utf8_all cs ≡ bytes) × IsTrue (list_all is_char cs)
