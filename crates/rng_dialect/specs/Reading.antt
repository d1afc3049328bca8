-- The machine that reads a pattern one character after another. It keeps each value exactly, and knows no limit.
use Rattle.std.specs.Prelude.{◌+◌, ◌*◌, ◌-◌, ◌^◌, ℕ, Bool, ◌==◌, ◌&&◌, nat_le, nat_lt, if◌then◌else◌, List, [], ◌∷◌, ◌++◌, Option, Some, None, length, max, option_and_then}
use Rattle.std.specs.Char.{is_ascii_digit}
use Rattle.std.specs.Str.Parse.{digits_value}
use Rattle.rng_types.specs.declared.bounds.Bounds.{Bounds}
use Rattle.rng_dialect.specs.Class.{backslash, is_escaped}
use Rattle.rng_dialect.specs.ClassReading.{class_step, new_class}
use Rattle.rng_dialect.specs.Dialect.{between, is_plain}
use Rattle.rng_dialect.specs.declared.class.ClassReader.{ClassReader}
use Rattle.rng_dialect.specs.declared.class.ClassTaken.{ClassTaken}
use Rattle.rng_dialect.specs.declared.class.ClassTaken.TheVariants as taken
use Rattle.rng_dialect.specs.declared.regex.Atom.{Atom}
use Rattle.rng_dialect.specs.declared.regex.Atom.TheVariants as atom
use Rattle.rng_dialect.specs.declared.regex.Piece.{Piece, roll-Piece}
use Rattle.rng_dialect.specs.declared.regex.Regex.{Regex, roll-Regex}

-- an atom that is read, with its size and the levels in it
pub record AtomRead : Type 0 where
  pub atom : Atom
  pub size : ℕ
  pub levels : ℕ

-- what is read of a level: the branches that a `|` has ended, the pieces of the one that is open, and the size and the levels of all
pub record LevelRead : Type 0 where
  pub branches : List (List Piece)
  pub pieces : List Piece
  pub size : ℕ
  pub levels : ℕ

pub data Place : Type 0 where
  -- where a piece may begin
  Start : Place
  -- behind an atom
  Behind : AtomRead → Place
  -- behind a `\`
  Escape : Place
  -- behind a `{` and digits
  Least : AtomRead → (digits : List ℕ) → Place
  -- behind a `{`, a number, a `,` and digits
  Most : AtomRead → (min : ℕ) → (digits : List ℕ) → Place
  InClass : ClassReader → Place

pub record State : Type 0 where
  -- the levels around, the innermost first
  pub outer : List LevelRead
  pub level : LevelRead
  pub place : Place

abbrev pub state_at : List LevelRead → LevelRead → Place → State
state_at outer level place = record { outer = outer; level = level; place = place }

abbrev pub new_level : LevelRead
new_level = record { branches = []; pieces = []; size = 0; levels = 0 }

abbrev pub new_state : State
new_state = state_at [] new_level Start

abbrev pub atom_read : Atom → (size levels : ℕ) → AtomRead
atom_read a size levels = record { atom = a; size = size; levels = levels }

-- the level with one more piece, which is of the size
abbrev pub with_piece : LevelRead → AtomRead → Bounds → (size : ℕ) → LevelRead
with_piece l a bounds size =
    record { branches = l.branches; pieces = l.pieces ++ roll-Piece (record { atom = a.atom; bounds = bounds }) ∷ []; size = l.size + size; levels = max l.levels a.levels }

abbrev pub once : LevelRead → AtomRead → LevelRead
once l a = with_piece l a (between 1 (Some 1)) a.size

-- behind a `|`
abbrev pub with_branch : LevelRead → LevelRead
with_branch l = record { branches = l.branches ++ l.pieces ∷ []; pieces = []; size = l.size; levels = l.levels }

abbrev pub regex_of : LevelRead → Regex
regex_of l = roll-Regex (record { branches = l.branches ++ l.pieces ∷ [] })

-- what stands in parentheses is an atom
abbrev pub nested : LevelRead → AtomRead
nested l = atom_read (atom.Nested (regex_of l)) (l.size + 1) (l.levels + 1)

abbrev pub closed : List LevelRead → LevelRead → Option State
closed [] l = None
closed (o ∷ os) l = Some (state_at os o (Behind (nested l)))

-- the character begins a piece, or ends a branch or a level
abbrev pub start_step : List LevelRead → LevelRead → ℕ → Option State
start_step outer l c =
    if is_plain c then Some (state_at outer l (Behind (atom_read (atom.Char c) 1 0)))
    else (if c == backslash then Some (state_at outer l Escape)
    else (if c == 0x2E then Some (state_at outer l (Behind (atom_read atom.Any 1 0)))
    else (if c == 0x5B then Some (state_at outer l (InClass new_class))
    else (if c == 0x28 then Some (state_at (l ∷ outer) new_level Start)
    else (if c == 0x7C then Some (state_at outer (with_branch l) Start)
    else (if c == 0x29 then closed outer l else None))))))

abbrev pub behind_step : List LevelRead → LevelRead → AtomRead → ℕ → Option State
behind_step outer l a c =
    if c == 0x3F then Some (state_at outer (with_piece l a (between 0 (Some 1)) (a.size + 1)) Start)
    else (if c == 0x2A then Some (state_at outer (with_piece l a (between 0 None) (a.size + 1)) Start)
    else (if c == 0x2B then Some (state_at outer (with_piece l a (between 1 None) (a.size + 1)) Start)
    else (if c == 0x7B then Some (state_at outer l (Least a []))
    else start_step outer (once l a) c)))

abbrev pub value_of : List ℕ → ℕ
value_of digits = digits_value 10 digits

-- one digit more may stand
abbrev pub has_room : List ℕ → Bool
has_room digits = nat_lt (length digits) 4

-- digits that go on to 4 at most may tell the number or a greater one
abbrev pub may_reach : (min : ℕ) → List ℕ → Bool
may_reach min digits = nat_lt min ((value_of digits + 1) * 10 ^ (4 - length digits))

abbrev pub least_step : List LevelRead → LevelRead → AtomRead → List ℕ → ℕ → Option State
least_step outer l a [] c = if is_ascii_digit c then Some (state_at outer l (Least a (c ∷ []))) else None
least_step outer l a (d ∷ ds) c =
    let digits = d ∷ ds in
    if is_ascii_digit c && has_room digits then Some (state_at outer l (Least a (digits ++ c ∷ [])))
    else (if c == 0x2C then Some (state_at outer l (Most a (value_of digits) []))
    else (if c == 0x7D then Some (state_at outer (with_piece l a (between (value_of digits) (Some (value_of digits))) (a.size * max (value_of digits) 1)) Start) else None))

abbrev pub most_closed : List LevelRead → LevelRead → AtomRead → (min : ℕ) → List ℕ → Option State
most_closed outer l a min [] = Some (state_at outer (with_piece l a (between min None) (a.size * (min + 1))) Start)
most_closed outer l a min (d ∷ ds) =
    let digits = d ∷ ds in
    if nat_le min (value_of digits) then Some (state_at outer (with_piece l a (between min (Some (value_of digits))) (a.size * max (value_of digits) 1)) Start) else None

abbrev pub most_step : List LevelRead → LevelRead → AtomRead → (min : ℕ) → List ℕ → ℕ → Option State
most_step outer l a min digits c =
    if is_ascii_digit c && has_room digits && may_reach min (digits ++ c ∷ []) then Some (state_at outer l (Most a min (digits ++ c ∷ [])))
    else (if c == 0x7D then most_closed outer l a min digits else None)

abbrev pub class_atom : ClassReader → AtomRead
class_atom r = atom_read (atom.Class r.negated r.members) 1 0

abbrev pub in_class : List LevelRead → LevelRead → ClassTaken → ClassReader → Option State
in_class outer l taken.More r = Some (state_at outer l (InClass r))
in_class outer l taken.Whole r = Some (state_at outer l (Behind (class_atom r)))
in_class outer l taken.Misfit r = None

abbrev pub step_at : List LevelRead → LevelRead → Place → ℕ → Option State
step_at outer l Start c = start_step outer l c
step_at outer l (Behind a) c = behind_step outer l a c
step_at outer l Escape c = if is_escaped c then Some (state_at outer l (Behind (atom_read (atom.Char c) 1 0))) else None
step_at outer l (Least a digits) c = least_step outer l a digits c
step_at outer l (Most a min digits) c = most_step outer l a min digits c
step_at outer l (InClass r) c = in_class outer l (class_step r c).0 (class_step r c).1

-- the state after a character, where it fits
abbrev pub step : State → ℕ → Option State
step s c = step_at s.outer s.level s.place c

-- and after several
abbrev pub after : State → List ℕ → Option State
after s [] = Some s
after s (c ∷ cs) = option_and_then (λ next. after next cs) (step s c)

-- the level that is whole where the text ends
abbrev pub ended_at : List LevelRead → LevelRead → Place → Option LevelRead
ended_at [] l Start = Some l
ended_at [] l (Behind a) = Some (once l a)
ended_at outer l place = None

abbrev pub ended : State → Option LevelRead
ended s = ended_at s.outer s.level s.place

-- the level that characters give, all of them
abbrev pub reads : State → List ℕ → Option LevelRead
reads s [] = ended s
reads s (c ∷ cs) = option_and_then (λ next. reads next cs) (step s c)
