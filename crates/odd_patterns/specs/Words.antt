-- Which words a pattern matches.
use Rattle.std.specs.Prelude.{◌≡◌, ◌↔◌, ◌⊎◌, Bool, IsTrue, List, [], ◌∷◌}
use Rattle.odd_patterns.specs.Pieces.{Then, Repeated}
use Rattle.odd_patterns.specs.declared.pattern.Pat.{Pat, Never, Empty, Leaf, Choice', Group', More', more_of-Pat, end_of-Pat}

-- the word is matched, where `takes` says which symbols a leaf takes
abbrev pub Matches : {A L S : Type 0} → (L → S → Bool) → Pat A L S → List S → Type 0
Matches takes Never w = ⊥
Matches takes Empty w = w ≡ []
Matches {A} {L} {S} takes (Leaf l) w = (s : S) × (w ≡ s ∷ []) × IsTrue (takes l s)
Matches takes (Choice' x (more_of-Pat p end_of-Pat) y (more_of-Pat q end_of-Pat)) w = Matches takes p w ⊎ Matches takes q w
Matches takes (Group' x (more_of-Pat p end_of-Pat) y (more_of-Pat q end_of-Pat)) w = Then (Matches takes p) (Matches takes q) w
Matches takes (More' x (more_of-Pat p end_of-Pat)) w = Repeated (Matches takes p) w

-- d matches exactly what p matches after s
abbrev pub IsLeft : {A L S : Type 0} → (L → S → Bool) → Pat A L S → S → Pat A L S → Type 0
IsLeft {A} {L} {S} takes p s d = (v : List S) → Matches takes d v ↔ Matches takes p (s ∷ v)

-- both match the same words, whatever the leaves take
abbrev pub SameWords : {A L S : Type 0} → Pat A L S → Pat A L S → Type 0
SameWords {A} {L} {S} p q = (takes : L → S → Bool) (w : List S) → Matches takes p w ↔ Matches takes q w

-- one of the patterns at least matches the word
abbrev pub SomeMatches : {A L S : Type 0} → (L → S → Bool) → List (Pat A L S) → List S → Type 0
SomeMatches takes [] w = ⊥
SomeMatches takes (p ∷ ps) w = Matches takes p w ⊎ SomeMatches takes ps w

-- the word is one piece for each pattern, in order
abbrev pub EachMatches : {A L S : Type 0} → (L → S → Bool) → List (Pat A L S) → List S → Type 0
EachMatches takes [] w = w ≡ []
EachMatches takes (p ∷ ps) w = Then (Matches takes p) (EachMatches takes ps) w

-- the pattern matches a word where one of the parts does
abbrev pub IsChoiceOf : {A L S : Type 0} → List (Pat A L S) → Pat A L S → Type 0
IsChoiceOf {A} {L} {S} parts made = (takes : L → S → Bool) (w : List S) → Matches takes made w ↔ SomeMatches takes parts w

-- the pattern matches a word that is one piece for each part, in order
abbrev pub IsGroupOf : {A L S : Type 0} → List (Pat A L S) → Pat A L S → Type 0
IsGroupOf {A} {L} {S} parts made = (takes : L → S → Bool) (w : List S) → Matches takes made w ↔ EachMatches takes parts w
