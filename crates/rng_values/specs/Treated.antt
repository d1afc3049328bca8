-- White space in values (XML Schema, Part 2, section 4.3.6): characters collapsed, and what each datatype tests of a text.
use Rattle.std.specs.Prelude.{ℕ, List, [], ◌∷◌, ◌++◌, if◌then◌else◌, map}
use Rattle.std.specs.Str.{chars, encode_utf8_all}
use Rattle.odd_tokens.specs.Characters.{is_space}
use Rattle.rng_types.specs.Words.{words_of}
use Rattle.rng_types.specs.declared.data_type.DataType.{DataType}
use Rattle.rng_types.specs.declared.data_type.DataType.TheVariants as kind

-- words with one space between each two of them
abbrev pub spaced : List (List ℕ) → List ℕ
spaced [] = []
spaced (word ∷ []) = word
spaced (word ∷ next ∷ words) = word ++ 0x20 ∷ spaced (next ∷ words)

-- each run of white space is one space, and there is none at the ends
abbrev pub collapsed : List ℕ → List ℕ
collapsed cs = spaced (words_of cs)

-- the same of a text
abbrev pub collapsed_text : List ℕ → List ℕ
collapsed_text text = encode_utf8_all (collapsed (chars text))

-- each character of white space is a space
abbrev pub replaced : List ℕ → List ℕ
replaced cs = map (λ c. if is_space c then 0x20 else c) cs

-- what a datatype tests
abbrev pub treated : DataType → List ℕ → List ℕ
treated kind.String cs = cs
treated kind.NormalizedString cs = replaced cs
treated k cs = collapsed cs
