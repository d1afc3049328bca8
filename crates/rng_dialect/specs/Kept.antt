-- What is kept of what is read: all of it within the limits, and past them how large it is, up to one more than each limit.
use Rattle.std.specs.Prelude.{◌≡◌, ◌≤◌, ℕ, List, length, min}
use Rattle.rng_dialect.specs.Reading.{AtomRead, LevelRead, value_of}
use Rattle.rng_dialect.specs.declared.digits.Digits.{Digits}
use Rattle.rng_dialect.specs.declared.level.Level.{Level}
use Rattle.rng_dialect.specs.declared.level.ReadAtom.{ReadAtom}

abbrev pub IsSizeOf : ℕ → ℕ → Type 0
IsSizeOf size kept = kept ≡ min size 20001

pub record KeepsAtom (a : AtomRead) (kept : ReadAtom) : Type 0 where
  pub atom : a.size ≤ 20000 → a.levels ≤ 60 → kept.atom ≡ a.atom
  pub size : IsSizeOf a.size kept.size
  pub levels : kept.levels ≡ min a.levels 61

pub record KeepsLevel (l : LevelRead) (kept : Level) : Type 0 where
  pub branches : l.size ≤ 20000 → l.levels ≤ 60 → kept.branches ≡ l.branches
  pub pieces : l.size ≤ 20000 → l.levels ≤ 60 → kept.pieces ≡ l.pieces
  pub size : IsSizeOf l.size kept.size
  pub levels : kept.levels ≡ min l.levels 61

pub record KeepsDigits (digits : List ℕ) (kept : Digits) : Type 0 where
  pub count : kept.count ≡ length digits
  pub value : kept.value ≡ value_of digits
