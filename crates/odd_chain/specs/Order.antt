-- Where an offence of a chain is, and which of two comes first.
use Rattle.std.specs.Prelude.{◌≡◌, ◌⊎◌, ◌<◌, ℕ}
use Rattle.odd_text.specs.declared.key.Key.{Key}
use Rattle.odd_text.specs.declared.offence.Offence.{Offence}
use Rattle.odd_text.specs.declared.offence.Who.TheVariants as who
use Rattle.odd_library.specs.First.{IsNotAfter}
use Rattle.odd_meaning.specs.Rules.{IsNotBehind}

-- in a file an offence is one of form, or of an item, at a byte by a rule; or of the library after the file, at a key by a rule
pub data Position : Type 0 where
  form : ℕ → ℕ → Position
  item : ℕ → ℕ → Position
  held : Key → ℕ → Position

-- as it is told
abbrev pub offence_at : ℕ → Position → Offence
offence_at file (form place rule) = record { file = file; who = who.At place; rule = rule }
offence_at file (item place rule) = record { file = file; who = who.At place; rule = rule }
offence_at file (held key rule) = record { file = file; who = who.Part key; rule = rule }

-- in a file those of form come first, then those of items, and then those of the library
abbrev pub IsNotLater : Position → Position → Type 0
IsNotLater (form place rule) (form other others_rule) = IsNotAfter place rule other others_rule
IsNotLater (form place rule) (item other others_rule) = Unit {0}
IsNotLater (form place rule) (held key others_rule) = Unit {0}
IsNotLater (item place rule) (form other others_rule) = ⊥
IsNotLater (item place rule) (item other others_rule) = IsNotAfter place rule other others_rule
IsNotLater (item place rule) (held key others_rule) = Unit {0}
IsNotLater (held key rule) (form other others_rule) = ⊥
IsNotLater (held key rule) (item other others_rule) = ⊥
IsNotLater (held key rule) (held other others_rule) = IsNotBehind rule key others_rule other

-- and those of a file before those of a later one
abbrev pub ComesNotAfter : ℕ → Position → ℕ → Position → Type 0
ComesNotAfter file at other others = (file < other) ⊎ ((file ≡ other) × IsNotLater at others)

-- of all offences the first
pub record IsFirst (HasOne : ℕ → Position → Type 0) (offence : Offence) : Type 0 where
  pub at : Position
  pub told : offence ≡ offence_at offence.file at
  pub is_one : HasOne offence.file at
  pub first : (other : ℕ) (others : Position) → HasOne other others → ComesNotAfter offence.file at other others
