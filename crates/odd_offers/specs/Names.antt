-- The names that attributes have in documents.
use Rattle.std.specs.Prelude.{◌≡◌, ℕ, List, map}
use Rattle.odd_text.specs.declared.name.Name.{Name}
use Rattle.odd_text.specs.Standing.{StandsTwice}
use Rattle.odd_meaning.specs.Naming.{attribute_name}
use Rattle.odd_offers.specs.declared.given.Given.{Given}

-- in order of ident
abbrev pub names_of : List (List ℕ × Given) → List Name
names_of givens = map (λ e. attribute_name e.0 e.1.def) givens

-- one of the names stands twice
abbrev pub IsNamedTwice : List Name → Type 0
IsNamedTwice names = (name : Name) × StandsTwice (λ n. n ≡ name) names
