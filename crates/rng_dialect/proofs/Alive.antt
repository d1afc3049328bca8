-- Whatever has led to a state of the machine begins a pattern: from each state there is a way to an end.
use Rattle.std.proofs.Common.{◌≡◌, ◌≢◌, ℕ, ◌*◌, max, List, [], ◌∷◌, ◌++◌, IsTrue, None, Some, refl, sym, ap, subst, append_assoc}
use Rattle.rng_dialect.proofs.Classes.{class_live, class_run_more, class_sound}
use Rattle.rng_dialect.proofs.Numbers.{AreDigits, first_digit, not_empty, reaches}
use Rattle.rng_dialect.proofs.Levels.{Front, IsSpelled, Stand, inner, level_whole, lowest, nested_spelled, once_stand, piece_stand}
use Rattle.rng_dialect.proofs.Sound.{Leads, after_leads, at_escape, at_start, behind, escaped_spelled, exact, in_least, in_most, open_bound, two_bounds, within_class}
use Rattle.rng_dialect.specs.ClassReading.{class_read, class_run, class_step, new_class}
use Rattle.rng_dialect.specs.Class.{IsClass, backslash}
use Rattle.rng_dialect.specs.Dialect.{BeginsPattern, IsAtom, IsNumber, IsQuantifier, SpellsRegex, between}
use Rattle.rng_dialect.specs.Reading.{AtomRead, LevelRead, State, after, class_atom, may_reach, nested, new_state, once, with_piece, regex_of}
use Rattle.rng_types.specs.declared.bounds.Bounds.{Bounds}
use Rattle.rng_dialect.specs.declared.class.ClassReader.{ClassReader}
use Rattle.rng_dialect.specs.declared.class.ClassTaken.{ClassTaken}
use Rattle.rng_dialect.specs.declared.class.ClassTaken.TheVariants as taken
use Rattle.rng_dialect.specs.declared.regex.Regex.{Regex}

-- some characters behind the front make a pattern
record GoesOn (f : Front) : Type 0 where
  rest : List ℕ
  regex : Regex
  spelled : SpellsRegex (f rest) regex

-- those behind others
goes_on_by : (f g : Front) → GoesOn (λ r. f (g r)) → GoesOn f
goes_on_by f g d = record { rest = g d.rest; regex = d.regex; spelled = d.spelled }

-- where a piece may begin, each level is ended by a `)`
stand_goes_on : (outer : List LevelRead) (l : LevelRead) (f : Front) → Stand outer l f → GoesOn f
stand_goes_on [] l f (lowest d) = record { rest = []; regex = regex_of l; spelled = (l.size, l.levels, level_whole f l d []) }
stand_goes_on (o ∷ os) l f (inner {g = g} {h = h} around d) =
    goes_on_by f (λ r. 0x29 ∷ r) (stand_goes_on os (once o (nested l)) (λ r. f (0x29 ∷ r)) (once_stand os o g (λ r. 0x28 ∷ h (0x29 ∷ r)) (nested l) around (nested_spelled h l d)))

-- so it is behind an atom
atom_goes_on : (outer : List LevelRead) (l : LevelRead) (g k : Front) (a : AtomRead) → Stand outer l g → IsSpelled k a → GoesOn (λ r. g (k r))
atom_goes_on outer l g k a d s = stand_goes_on outer (once l a) (λ r. g (k r)) (once_stand outer l g k a d s)

-- so it is behind a quantifier
piece_goes_on : (outer : List LevelRead) (l : LevelRead) (g k q : Front) (a : AtomRead) (b : Bounds) (size : ℕ) → Stand outer l g → IsSpelled k a
    → ((rest : List ℕ) → IsQuantifier a.size (q rest) b size rest) → GoesOn (λ r. g (k (q r)))
piece_goes_on outer l g k q a b size d s h = stand_goes_on outer (with_piece l a b size) (λ r. g (k (q r))) (piece_stand outer l g k q a b size d s h)

-- a digit and a `}` end a quantifier that has begun, and a `}` one that has digits
least_goes_on : (outer : List LevelRead) (l : LevelRead) (g k : Front) (a : AtomRead) (ds : List ℕ) → Stand outer l g → IsSpelled k a → AreDigits ds → GoesOn (λ r. g (k (0x7B ∷ (ds ++ r))))
least_goes_on outer l g k a [] d s e =
    goes_on_by (λ r. g (k (0x7B ∷ r))) (λ r. 0x30 ∷ 0x7D ∷ r)
    (piece_goes_on outer l g k (λ r. 0x7B ∷ 0x30 ∷ 0x7D ∷ r) a _ _ d s (exact (0x30 ∷ []) a (not_empty 0x30 []) (first_digit 0x30 refl)))
least_goes_on outer l g k a (n ∷ ns) d s e =
    goes_on_by (λ r. g (k (0x7B ∷ n ∷ (ns ++ r)))) (λ r. 0x7D ∷ r)
    (piece_goes_on outer l g k (λ r. 0x7B ∷ n ∷ (ns ++ 0x7D ∷ r)) a _ _ d s (exact (n ∷ ns) a (not_empty n ns) e))

-- digits and a `}` end one that has a `,`
most_goes_on : (outer : List LevelRead) (l : LevelRead) (g k : Front) (a : AtomRead) (min : ℕ) (digits ds : List ℕ) → Stand outer l g → IsSpelled k a → IsNumber digits min → AreDigits ds
    → (ds ≢ [] → IsTrue (may_reach min ds)) → GoesOn (λ r. g (k (0x7B ∷ (digits ++ 0x2C ∷ (ds ++ r)))))
most_goes_on outer l g k a min digits [] d s n e reach =
    goes_on_by (λ r. g (k (0x7B ∷ (digits ++ 0x2C ∷ r)))) (λ r. 0x7D ∷ r) (piece_goes_on outer l g k (λ r. 0x7B ∷ (digits ++ 0x2C ∷ 0x7D ∷ r)) a _ _ d s (open_bound digits min a n))
most_goes_on outer l g k a min digits (c ∷ cs) d s n e reach =
    let ds : List ℕ = c ∷ cs in
    let to = reaches min ds (not_empty c cs) e (reach (not_empty c cs)) in
    goes_on_by (λ r. g (k (0x7B ∷ (digits ++ 0x2C ∷ (ds ++ r))))) (λ r. to.others ++ 0x7D ∷ r)
    (piece_goes_on outer l g k (λ r. 0x7B ∷ (digits ++ 0x2C ∷ (ds ++ (to.others ++ 0x7D ∷ r)))) a _ _ d s (λ rest.
    subst (λ x. IsQuantifier a.size (0x7B ∷ (digits ++ 0x2C ∷ x)) (between min (Some to.number)) (a.size * max to.number 1) rest) (append_assoc ds to.others (0x7D ∷ rest))
    (two_bounds digits (ds ++ to.others) min to.number a n to.is_number to.within rest)))

-- one value read, and none
same_read : (x y : ClassReader × List ℕ) → Some x ≡ Some y → x ≡ y
same_read x y e = cc

none_read : (x : ClassReader × List ℕ) → None ≢ Some x
none_read x e = cc

-- a step in a class, and what is behind it
class_then : (c : ℕ) (cs front : List ℕ) (at r : ClassReader) → class_run new_class front ≡ Some at → class_read at (c ∷ cs) ≡ Some (r, []) → (rest : List ℕ)
    → ((more : List ℕ) (next : ClassReader) → class_run new_class more ≡ Some next → class_read next cs ≡ Some (r, []) → IsClass (more ++ (cs ++ rest)) r.negated r.members rest)
    → (t : ClassTaken) (next : ClassReader) → class_step at c ≡ (t, next) → IsClass (front ++ c ∷ (cs ++ rest)) r.negated r.members rest
class_then c cs front at r run read rest later taken.More next e =
    let goes : class_read next cs ≡ Some (r, []) = rw e at read in
    subst (λ x. IsClass x r.negated r.members rest) (append_assoc front (c ∷ []) (cs ++ rest)) (later (front ++ c ∷ []) next (class_run_more front c new_class at next run e) goes)
class_then c cs front at r run read rest later taken.Whole next e =
    let ends : ◌≡◌ {A = ClassReader × List ℕ} (next, cs) (r, []) = same_read (next, cs) (r, []) (rw e at read) in
    let same : next ≡ r = ap (λ (x : ClassReader × List ℕ). x.0) ends in
    let none : [] ≡ cs = sym (ap (λ (x : ClassReader × List ℕ). x.1) ends) in
    subst (λ x. IsClass (front ++ c ∷ (x ++ rest)) r.negated r.members rest) none (class_sound front c at r run (rw same at e) rest)
class_then c cs front at r run read rest later taken.Misfit next e = absurd (none_read (r, []) (rw e at read))

-- what closes a class makes it whole
class_whole : (tail front : List ℕ) (at r : ClassReader) → class_run new_class front ≡ Some at → class_read at tail ≡ Some (r, []) → (rest : List ℕ) → IsClass (front ++ (tail ++ rest)) r.negated r.members rest
class_whole [] front at r run read rest = cc
class_whole (c ∷ cs) front at r run read rest =
    class_then c cs front at r run read rest (λ more next goes ends. class_whole cs more next r goes ends rest) (class_step at c).0 (class_step at c).1 refl

-- each class can be closed
class_goes_on : (outer : List LevelRead) (l : LevelRead) (g : Front) (front : List ℕ) (at : ClassReader) → Stand outer l g → class_run new_class front ≡ Some at → GoesOn (λ r. g (0x5B ∷ (front ++ r)))
class_goes_on outer l g front at d run =
    let closed = class_live front at run in
    let tail : List ℕ = closed.0 in
    let r : ClassReader = closed.1 in
    goes_on_by (λ r. g (0x5B ∷ (front ++ r))) (λ r. tail ++ r) (atom_goes_on outer l g (λ rest. 0x5B ∷ (front ++ (tail ++ rest))) (class_atom r) d
    (record { atom = λ rest. IsAtom.class refl (class_whole tail front at r run closed.2 rest) }))

-- so each state can
goes_on : (f : Front) (s : State) → Leads f s → GoesOn f
goes_on f s (at_start {outer = outer} {l = l} {g = g} d) = stand_goes_on outer l g d
goes_on f s (behind {outer = outer} {l = l} {g = g} {k = k} {a = a} d e) = atom_goes_on outer l g k a d e
goes_on f s (at_escape {outer = outer} {l = l} {g = g} d) =
    goes_on_by (λ r. g (backslash ∷ r)) (λ r. 0x7D ∷ r) (atom_goes_on outer l g (λ r. backslash ∷ 0x7D ∷ r) _ d (escaped_spelled 0x7D refl))
goes_on f s (in_least {outer = outer} {l = l} {g = g} {k = k} {a = a} {ds = ds} d e few) = least_goes_on outer l g k a ds d e few
goes_on f s (in_most {outer = outer} {l = l} {g = g} {k = k} {a = a} {min = min} {ds = ds} digits d e n few reach) = most_goes_on outer l g k a min digits ds d e n few reach
goes_on f s (within_class {outer = outer} {l = l} {g = g} {at = at} front d run) = class_goes_on outer l g front at d run

-- whatever has led to a state begins a pattern
pub alive_begins : (cs : List ℕ) (s : State) → after new_state cs ≡ Some s → BeginsPattern cs
alive_begins cs s e = let d = goes_on (λ r. cs ++ r) s (after_leads cs s e) in (d.rest, d.regex, d.spelled)
