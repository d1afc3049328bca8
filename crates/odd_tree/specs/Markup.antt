-- The printed text of a tree: the declaration's line, then a line for each tag, and an element that holds a text on one line. An element
-- without children is an empty tag.
use Rattle.std.specs.Prelude.{ℕ, List, [], ◌∷◌, ◌++◌, ◌==◌, if◌then◌else◌, codes, map}
use Rattle.std.specs.List.{flat_map}

-- an attribute, or a namespace declaration: its name as written and its value
abbrev pub Pair : Type 0
Pair = List ℕ × List ℕ

-- a tree that is printed: an element with elements or nothing in it, or one with a text in it, which is none where it is empty, or one with
-- nothing in it whose tag declares prefixes, each with its namespace
mutual
  pub data Markup : Type 0 where
    element : (name : List ℕ) (attributes : List Pair) (inside : Markups) → Markup
    line : (name : List ℕ) (attributes : List Pair) (text : List ℕ) → Markup
    declaring : (name : List ℕ) (prefixes attributes : List Pair) → Markup

  pub data Markups : Type 0 where
    none : Markups
    more : Markup → Markups → Markups

abbrev pub all_of : List Markup → Markups
all_of [] = none
all_of (m ∷ ms) = more m (all_of ms)

-- an element without attributes
abbrev pub plain : List ℕ → List Markup → Markup
plain tag inside = element tag [] (all_of inside)

-- `&`, `<`, `>` and CR are references
abbrev pub escaped_text_char : ℕ → List ℕ
escaped_text_char c = if c == 0x26 then codes "&amp;" else (if c == 0x3C then codes "&lt;" else (if c == 0x3E then codes "&gt;" else (if c == 0xD then codes "&#13;" else c ∷ [])))

abbrev pub escaped_text : List ℕ → List ℕ
escaped_text = flat_map escaped_text_char

-- and so are `"`, tab and LF
abbrev pub escaped_value_char : ℕ → List ℕ
escaped_value_char c = if c == 0x22 then codes "&quot;" else (if c == 0x9 then codes "&#9;" else (if c == 0xA then codes "&#10;" else escaped_text_char c))

abbrev pub escaped_value : List ℕ → List ℕ
escaped_value = flat_map escaped_value_char

abbrev pub attributes_printed : List Pair → List ℕ
attributes_printed [] = []
attributes_printed (a ∷ rest) = codes " " ++ a.0 ++ codes "=\"" ++ escaped_value a.1 ++ codes "\"" ++ attributes_printed rest

-- the declaration of a prefix, as it is written
abbrev pub declaration : Pair → Pair
declaration p = (codes "xmlns:" ++ p.0, p.1)

abbrev mutual
  pub printed : Markup → List ℕ
  printed (element name attributes none) = codes "<" ++ name ++ attributes_printed attributes ++ codes "/>\n"
  printed (element name attributes (more m rest)) = codes "<" ++ name ++ attributes_printed attributes ++ codes ">\n" ++ all_printed (more m rest) ++ codes "</" ++ name ++ codes ">\n"
  printed (line name attributes []) = codes "<" ++ name ++ attributes_printed attributes ++ codes "/>\n"
  printed (line name attributes (c ∷ cs)) = codes "<" ++ name ++ attributes_printed attributes ++ codes ">" ++ escaped_text (c ∷ cs) ++ codes "</" ++ name ++ codes ">\n"
  printed (declaring name prefixes attributes) = codes "<" ++ name ++ attributes_printed (map declaration prefixes) ++ attributes_printed attributes ++ codes "/>\n"

  pub all_printed : Markups → List ℕ
  all_printed none = []
  all_printed (more m rest) = printed m ++ all_printed rest

-- the declaration's line, and then the tree
abbrev pub file_printed : Markup → List ℕ
file_printed m = codes "<?xml version=\"1.0\" encoding=\"UTF-8\"?>\n" ++ printed m
