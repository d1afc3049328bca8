-- What the reader keeps of a state.
use Rattle.std.specs.Prelude.{◌≡◌, ◌≤◌, Bool, true, false, List, [], ◌∷◌, ◌++◌, Option, Some, None}
use Rattle.rng_dialect.specs.Kept.{KeepsAtom, KeepsDigits, KeepsLevel}
use Rattle.rng_dialect.specs.Reading.{Behind, Escape, InClass, Least, LevelRead, Most, Start, State, regex_of}
use Rattle.rng_dialect.specs.Reading as reading
use Rattle.rng_dialect.specs.declared.level.Level.{Level}
use Rattle.rng_dialect.specs.declared.reader.PatternReader.{PatternReader}
use Rattle.rng_dialect.specs.declared.reader.Place.{Place}
use Rattle.rng_dialect.specs.declared.reader.Place.TheVariants as places
use Rattle.rng_dialect.specs.declared.regex.Regex.{Regex}

abbrev pub KeepsPlace : reading.Place → Place → Type 0
KeepsPlace Start places.Start = Unit {0}
KeepsPlace (Behind a) (places.Behind kept) = KeepsAtom a kept
KeepsPlace Escape places.Escape = Unit {0}
KeepsPlace (Least a digits) (places.Least kept some) = KeepsAtom a kept × KeepsDigits digits some
KeepsPlace (Most a min digits) (places.Most kept least some) = KeepsAtom a kept × (least.value ≡ min) × KeepsDigits digits some
KeepsPlace (InClass r) (places.Class kept) = kept ≡ r
KeepsPlace place kept = ⊥

-- the levels around, of which the innermost is the last that is kept
abbrev pub KeepsOuter : List LevelRead → List Level → Type 0
KeepsOuter [] kept = kept ≡ []
KeepsOuter (o ∷ os) kept = (others : List Level) × (last : Level) × (kept ≡ others ++ last ∷ []) × KeepsLevel o last × KeepsOuter os others

pub record Keeps (s : State) (kept : PatternReader) : Type 0 where
  pub outer : KeepsOuter s.outer kept.outer.items
  pub level : KeepsLevel s.level kept.level
  pub place : KeepsPlace s.place kept.place

-- what the reader answers of a character, and what it keeps then
abbrev pub Takes : Option State → Bool → PatternReader → Type 0
Takes (Some s) true kept = Keeps s kept
Takes None false kept = Unit {0}
Takes s fits kept = ⊥

-- the level that is whole
abbrev pub KeepsEnd : Option LevelRead → Option Level → Type 0
KeepsEnd (Some l) (Some kept) = KeepsLevel l kept
KeepsEnd None None = Unit {0}
KeepsEnd l kept = ⊥

-- the pattern of a level that is whole, where it is within the limits
abbrev pub Finishes : Option LevelRead → Option Regex → Type 0
Finishes (Some l) (Some r) = (r ≡ regex_of l) × (l.size ≤ 20000) × (l.levels ≤ 60)
Finishes (Some l) None = l.size ≤ 20000 → l.levels ≤ 60 → ⊥
Finishes None (Some r) = ⊥
Finishes None None = Unit {0}
