-- What the value of an attribute is read as (XML 1.0, section 3.3.3).
use Rattle.std.specs.Prelude.{ℕ, Bool, false, ◌&&◌, ◌==◌, if◌then◌else◌, List, [], ◌∷◌, ◌++◌}
use Rattle.odd_tokens.specs.Characters.{is_space}
use Rattle.odd_tokens.specs.Tokens.{Piece, itself, reference, character_of}

-- XML 1.0, section 3.3.3: white space that stands as itself in a value is a space, and CR LF is one; a reference gives its character
abbrev begins_with_line_feed : List Piece → Bool
begins_with_line_feed (itself c ∷ rest) = c == 0xA
begins_with_line_feed rest = false

abbrev piece_read : Piece → List Piece → List ℕ
piece_read (reference r) next = character_of r ∷ []
piece_read (itself c) next = if c == 0xD && begins_with_line_feed next then [] else (if is_space c then 0x20 else c) ∷ []

abbrev pub value_read : List Piece → List ℕ
value_read [] = []
value_read (p ∷ ps) = piece_read p ps ++ value_read ps
