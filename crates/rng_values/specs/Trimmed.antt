-- White space taken off the ends of a text.
use Rattle.std.specs.Prelude.{◌≡◌, ℕ, false, List, [], ◌∷◌, ◌++◌, IsTrue}
use Rattle.odd_tokens.specs.Characters.{is_space, is_white}

-- a text without the white space at its ends, of which it has none then
pub record IsTrimmed (cs trimmed : List ℕ) : Type 0 where
  pub before : List ℕ
  pub after : List ℕ
  pub parts : cs ≡ before ++ (trimmed ++ after)
  pub white_before : IsTrue (is_white before)
  pub white_after : IsTrue (is_white after)
  pub begins : (c : ℕ) (rest : List ℕ) → trimmed ≡ c ∷ rest → is_space c ≡ false
  pub ends : (c : ℕ) (front : List ℕ) → trimmed ≡ front ++ c ∷ [] → is_space c ≡ false
