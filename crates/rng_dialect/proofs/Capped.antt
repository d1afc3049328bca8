-- What is kept of digits, sizes, levels, pieces and states.
use Rattle.std.proofs.Common.{◌≡◌, ℕ, ◌≤◌, ◌+◌, ◌*◌, ◌-◌, ◌<◌, List, [], ◌∷◌, ◌++◌, length, length-append, min, max, arith, sym, ap, ◌∙◌, ap₂, subst, IsTrue, zero, suc, ⊎_elim, ◌≢◌, ◌==◌, false, Bool, Result, IfOk}
use Rattle.std.proofs.lemmas.Bool.{cases_lt}
use Rattle.std.proofs.lemmas.Bool.Decides.{nat_tests}
use Rattle.std.proofs.lemmas.Int.Digits.{digits_value_push}
use Rattle.std.specs.Char.{digit_value, is_ascii_digit}
use Rattle.odd_text.specs.declared.memory.NoMemory.{NoMemory}
use Rattle.rng_types.specs.declared.bounds.Bounds.{Bounds}
use Rattle.rng_dialect.specs.ClassReading.{class_step}
use Rattle.rng_dialect.specs.Keeping.{KeepsPlace, Takes}
use Rattle.rng_dialect.specs.Kept.{IsSizeOf, KeepsAtom, KeepsLevel}
use Rattle.rng_dialect.specs.Reading.{AtomRead, Behind, Escape, InClass, Least, LevelRead, Most, Start, State, behind_step, in_class, once, start_step, step, step_at, value_of, with_piece}
use Rattle.rng_dialect.specs.Reading as reading
use Rattle.rng_dialect.specs.declared.class.ClassReader.{ClassReader}
use Rattle.rng_dialect.specs.declared.level.Level.{Level}
use Rattle.rng_dialect.specs.declared.level.ReadAtom.{ReadAtom}
use Rattle.rng_dialect.specs.declared.reader.PatternReader.{PatternReader}
use Rattle.rng_dialect.specs.declared.reader.Place.{Place}
use Rattle.rng_dialect.specs.declared.reader.Place.TheVariants as places
use Rattle.rng_dialect.specs.declared.regex.Piece.{roll-Piece}

digit_of : (c : ℕ) → IsTrue (is_ascii_digit c) → digit_value c ≡ c - 48
digit_of c h = grind (arith, nat_tests)

-- one more digit
pub digit_kept : (digits : List ℕ) (c count value : ℕ) → IsTrue (is_ascii_digit c) → count ≡ length digits → value ≡ value_of digits
    → (count + 1 ≡ length (digits ++ c ∷ [])) × (value * 10 + (c - 48) ≡ value_of (digits ++ c ∷ []))
digit_kept digits c count value h few is =
    (omega (arith, length-append digits (c ∷ [])), ap₂ (λ v d. v * 10 + d) is (sym (digit_of c h)) ∙ sym (digits_value_push 10 digits c))

-- a level with one more piece, which is kept within the limits
pub piece_kept : (l : LevelRead) (a : AtomRead) (n size : ℕ) (bounds : Bounds) (old new : Level) (read : ReadAtom) → KeepsLevel l old → KeepsAtom a read → IsSizeOf n size
    → new.branches ≡ old.branches → new.pieces ≡ old.pieces ++ roll-Piece (record { atom = read.atom; bounds = bounds }) ∷ []
    → new.size ≡ min (old.size + size) 20001 → new.levels ≡ max old.levels read.levels → a.size ≤ n → KeepsLevel (with_piece l a bounds n) new
piece_kept l a n size bounds old new read h k s eb ep es el least = record {
  branches = λ small low. eb ∙ h.branches (omega arith) (omega arith);
  pieces = λ small low. ep ∙ ap₂ (λ ps x. ps ++ roll-Piece (record { atom = x; bounds = bounds }) ∷ []) (h.pieces (omega arith) (omega arith)) (k.atom (omega arith) (omega arith));
  size = es ∙ omega (arith, h.size, s);
  levels = el ∙ omega (arith, h.levels, k.levels);
}

-- a size so many times is no smaller, and stands still where it does
pub times_kept : (size kept times : ℕ) → IsSizeOf size kept → 1 ≤ times → (size ≤ size * times) × IsSizeOf (size * times) (min (kept * times) 20001)
times_kept size kept zero h some = absurd (omega arith)
times_kept size kept (suc n) h some =
    let least : size ≤ size * suc n = omega arith in
    let passed : 20001 ≤ 20001 * suc n = omega arith in (
      least,
      ⊎_elim
          (λ (low : size < 20001). let e : kept ≡ size = h ∙ omega arith in ap (λ k. min (k * suc n) 20001) e)
          (λ (high : 20001 ≤ size). let e : kept ≡ 20001 = h ∙ omega arith in ap (λ k. min (k * suc n) 20001) e ∙ omega (arith, passed, least))
          (cases_lt size 20001),
    )

differs : (a b : ℕ) → a ≢ b → (a == b) ≡ false
differs a b h = grind (arith, nat_tests)

-- a character that is no quantifier goes on behind an atom that stands once
pub behind_other : (outer : List LevelRead) (l : LevelRead) (a : AtomRead) (c : ℕ) (result : Result Bool NoMemory) (new : PatternReader) → c ≢ 0x3F → c ≢ 0x2A → c ≢ 0x2B → c ≢ 0x7B
    → IfOk result (λ fits. Takes (start_step outer (once l a) c) fits new) → IfOk result (λ fits. Takes (behind_step outer l a c) fits new)
behind_other outer l a c result new optional any some braces h = rw (differs c 0x3F optional, differs c 0x2A any, differs c 0x2B some, differs c 0x7B braces) h

-- in a class the reader of the state is the one that is kept
is_class : (p : reading.Place) (kept : Place) (r : ClassReader) → places.Class r ≡ kept → KeepsPlace p kept → p ≡ InClass r
is_class p kept r e h = in_class_of p (subst (λ (x : Place). KeepsPlace p x) (sym e) h)
  where
    in_class_of : (q : reading.Place) → KeepsPlace q (places.Class r) → q ≡ InClass r
    in_class_of Start k = absurd k
    in_class_of (Behind a) k = absurd k
    in_class_of Escape k = absurd k
    in_class_of (Least a ds) k = absurd k
    in_class_of (Most a min ds) k = absurd k
    in_class_of (InClass q) k = ap InClass (sym k)

pub class_kept : (s : State) (kept : Place) (r : ClassReader) (c : ℕ) (result : Result Bool NoMemory) (new : PatternReader) → places.Class r ≡ kept → KeepsPlace s.place kept
    → IfOk result (λ fits. Takes (in_class s.outer s.level (class_step r c).0 (class_step r c).1) fits new) → IfOk result (λ fits. Takes (step s c) fits new)
class_kept s kept r c result new e k h = subst (λ (p : reading.Place). IfOk result (λ fits. Takes (step_at s.outer s.level p c) fits new)) (sym (is_class s.place kept r e k)) h
