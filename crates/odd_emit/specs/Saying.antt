-- What an element of a merged ODD says: its attributes in their order, each with a value of a kind where it is there.
use Rattle.std.specs.Prelude.{ℕ, List, [], ◌∷◌, ◌++◌, map, Option, Some, None, codes, decimal}
use Rattle.std.specs.List.{flat_map}
use Rattle.odd_tree.specs.Markup.{Markup, Pair, all_of, all_printed, attributes_printed, declaration, declaring, element}

-- a name, some names, words without white space, a number, a greatest number if there is one, a word that the format fixes, any text
pub data Value : Type 0 where
  a_name : List ℕ → Value
  some_names : List (List ℕ) → Value
  some_words : List (List ℕ) → Value
  a_number : ℕ → Value
  a_greatest : Option ℕ → Value
  a_word : List ℕ → Value
  a_text : List ℕ → Value

-- words with one space between them
abbrev pub spaced : List ℕ → List ℕ
spaced word = codes " " ++ word

abbrev pub joined : List (List ℕ) → List ℕ
joined [] = []
joined (word ∷ words) = word ++ flat_map spaced words

abbrev pub greatest_written : Option ℕ → List ℕ
greatest_written None = codes "unbounded"
greatest_written (Some n) = decimal n

abbrev pub written : Value → List ℕ
written (a_name name) = name
written (some_names names) = joined names
written (some_words words) = joined words
written (a_number n) = decimal n
written (a_greatest m) = greatest_written m
written (a_word word) = word
written (a_text text) = text

-- an attribute by its name as written, and its value where it is there
pub record Said : Type 0 where
  pub local : List ℕ
  pub value : Option Value

abbrev pub says : List ℕ → Value → Said
says local value = record { local = local; value = Some value }

abbrev pub says_if : List ℕ → Option Value → Said
says_if local value = record { local = local; value = value }

abbrev pub pair_of : List ℕ → Option Value → List Pair
pair_of local None = []
pair_of local (Some value) = (local, written value) ∷ []

abbrev pub pairs_of : List Said → List Pair
pairs_of [] = []
pairs_of (s ∷ rest) = pair_of s.local s.value ++ pairs_of rest

-- those of some elements that are there
abbrev pub if_any : Option Markup → List Markup → List Markup
if_any None ms = ms
if_any (Some m) ms = m ∷ ms

abbrev pub present : List (Option Markup) → List Markup
present [] = []
present (m ∷ ms) = if_any m (present ms)

-- an element that says this, with these in it
abbrev pub spoken : List ℕ → List Said → List Markup → Markup
spoken name said inside = element name (pairs_of said) (all_of inside)

-- one with nothing in it, that declares prefixes before what it says, each with its namespace
abbrev pub spoken_with : List ℕ → List Pair → List Said → Markup
spoken_with name prefixes said = declaring name prefixes (pairs_of said)

-- the bytes of attributes, of declarations and of elements
abbrev pub said_printed : List Said → List ℕ
said_printed said = attributes_printed (pairs_of said)

abbrev pub declared_printed : List Pair → List ℕ
declared_printed prefixes = attributes_printed (map declaration prefixes)

abbrev pub elements_printed : List Markup → List ℕ
elements_printed ms = all_printed (all_of ms)
