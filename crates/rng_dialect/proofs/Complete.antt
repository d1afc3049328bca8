-- What the grammar spells is read.
use Rattle.std.proofs.Common.{◌≡◌, ℕ, ◌+◌, true, false, List, [], ◌∷◌, ◌++◌, max, Option, Some, None, refl, sym, ap, ap₂, ◌∙◌, append_assoc, append-nil, arith, codes}
use Rattle.std.proofs.lemmas.Bool.Decides.{nat_tests}
use Rattle.std.proofs.lemmas.Option.{option_and_then_some}
use Rattle.std.proofs.Math.Nat.{max-zero, zero-max, add-zero, add_assoc}
use Rattle.std.specs.Prelude.{option_and_then}
use Rattle.rng_dialect.specs.Class.{is_one_of}
use Rattle.rng_dialect.specs.ClassReading.{class_read, class_step, new_class}
use Rattle.rng_dialect.specs.Dialect.{Begins, Spells, SpellsRegex, BeginsPattern, AreBranches, one, further, ArePieces, nothing, more, IsPiece, piece, IsAtom, plain, escaped, any, class, nested, is_plain}
use Rattle.rng_dialect.specs.Reading.{LevelRead, Start, Behind, InClass, State, state_at, new_level, new_state, atom_read, with_piece, with_branch, regex_of, class_atom, after, reads, step, nested as nested_read}
use Rattle.rng_dialect.specs.declared.class.ClassReader.{ClassReader}
use Rattle.rng_dialect.specs.declared.class.ClassTaken.{ClassTaken}
use Rattle.rng_dialect.specs.declared.class.ClassTaken.TheVariants as taken
use Rattle.rng_dialect.specs.declared.regex.Atom.{Atom}
use Rattle.rng_dialect.specs.declared.regex.Atom.TheVariants as atom
use Rattle.rng_dialect.specs.declared.regex.Piece.{Piece, out-Piece, roll-out-Piece}
use Rattle.rng_dialect.specs.declared.regex.Regex.{Regex, roll-Regex, out-Regex, roll-out-Regex}
use Rattle.rng_dialect.proofs.Classes.{class_complete}
use Rattle.rng_dialect.proofs.Quantifiers.{NotQuantifier, quantifier_read}

-- joined texts are read one after the other
pub reads_after : (cs ds : List ℕ) (s : State) → reads s (cs ++ ds) ≡ option_and_then (λ next. reads next ds) (after s cs)
reads_after [] ds s = refl
reads_after (c ∷ cs) ds s = on (λ next. reads_after cs ds next) (step s c)
  where
    on : ((next : State) → reads next (cs ++ ds) ≡ option_and_then (λ last. reads last ds) (after next cs)) → (o : Option State)
        → option_and_then (λ next. reads next (cs ++ ds)) o ≡ option_and_then (λ next. reads next ds) (option_and_then (λ next. after next cs) o)
    on h None = refl
    on h (Some next) = h next

-- a class that is closed is an atom
class_follows : (outer : List LevelRead) (l : LevelRead) (cs : List ℕ) (r q : ClassReader) (rest : List ℕ) → class_read r cs ≡ Some (q, rest)
    → reads (state_at outer l (InClass r)) cs ≡ reads (state_at outer l (Behind (class_atom q))) rest
class_follows outer l [] r q rest e = cc
class_follows outer l (c ∷ cs) r q rest e = on (λ next. class_follows outer l cs next q rest) (class_step r c).0 refl
  where
    on : ((next : ClassReader) → class_read next cs ≡ Some (q, rest) → reads (state_at outer l (InClass next)) cs ≡ reads (state_at outer l (Behind (class_atom q))) rest) → (t : ClassTaken)
        → (class_step r c).0 ≡ t → reads (state_at outer l (InClass r)) (c ∷ cs) ≡ reads (state_at outer l (Behind (class_atom q))) rest
    on h taken.More f = rw f (h (class_step r c).1 (rw f at e))
    on h taken.Whole f =
        let x : ClassReader × List ℕ = ((class_step r c).1, cs) in
        let y : ClassReader × List ℕ = (q, rest) in
        let p : x ≡ y = cc (rw f at e) in
        rw f (ap (λ z. reads (state_at outer l (Behind (class_atom z.0))) z.1) p)
    on h taken.Misfit f = cc (rw f at e)

-- what stands for itself is no quantifier
plain_stands : (c : ℕ) → is_plain c ≡ true → is_one_of (codes "?*+{") c ≡ false
plain_stands c h = grind (arith, nat_tests)

-- what an atom begins with is no quantifier
atom_stands : (cs : List ℕ) (a : Atom) (size levels : ℕ) (rest : List ℕ) → IsAtom cs a size levels rest → NotQuantifier cs
atom_stands cs a size levels rest (plain {c = c} h) = plain_stands c h
atom_stands cs a size levels rest (escaped e h) = rw e refl
atom_stands cs a size levels rest (any e) = rw e refl
atom_stands cs a size levels rest (class e h) = rw e refl
atom_stands cs a size levels rest (nested r e b f p) = rw e refl

-- what begins pieces is none either, or what comes after them begins it
pieces_stand : (cs : List ℕ) (ps : List Piece) (size levels : ℕ) (rest : List ℕ) → ArePieces cs ps size levels rest → NotQuantifier rest → NotQuantifier cs
pieces_stand cs ps size levels rest nothing n = n
pieces_stand cs ps size levels rest (more (piece {ds = ds} {p = p} {atom = s} {levels = t} a q) later) n = atom_stands cs (out-Piece p).atom s t ds a

-- what ends a level: its end, or a `)`
abbrev EndsLevel : List ℕ → Type 0
EndsLevel [] = Unit
EndsLevel (c ∷ cs) = c ≡ 0x29

-- it is no quantifier
end_stands : (cs : List ℕ) → EndsLevel cs → NotQuantifier cs
end_stands [] h = tt
end_stands (c ∷ cs) h = rw h refl

-- the greatest of three
max_assoc : (a b c : ℕ) → max (max a b) c ≡ max a (max b c)
max_assoc a b c = omega arith

-- the level with pieces behind those that it has
abbrev with_pieces : LevelRead → List Piece → (size levels : ℕ) → LevelRead
with_pieces l ps size levels = record { branches = l.branches; pieces = l.pieces ++ ps; size = l.size + size; levels = max l.levels levels }

-- with none
with_none : (l : LevelRead) → l ≡ with_pieces l [] 0 0
with_none l = λ i. record { branches = l.branches; pieces = sym (append-nil l.pieces) i; size = sym (add-zero l.size) i; levels = sym (max-zero l.levels) i }

-- with one, and others behind it
with_more : (l : LevelRead) (p : Piece) (ps : List Piece) (size levels others others_levels : ℕ)
    → with_pieces (with_pieces l (p ∷ []) size levels) ps others others_levels ≡ with_pieces l (p ∷ ps) (size + others) (max levels others_levels)
with_more l p ps size levels others others_levels =
    λ i. record { branches = l.branches; pieces = append_assoc l.pieces (p ∷ []) ps i; size = add_assoc l.size size others i; levels = max_assoc l.levels levels others_levels i }

-- a piece that is read is the one that is spelled
piece_rolled : (l : LevelRead) (p : Piece) (atom levels size : ℕ)
    → with_piece l (atom_read (out-Piece p).atom atom levels) (out-Piece p).bounds size ≡ with_pieces l (p ∷ []) size levels
piece_rolled l p atom levels size = ap (λ q. with_pieces l (q ∷ []) size levels) (roll-out-Piece p)

-- what branches add to a level that has no piece yet
record HasBranches (l m : LevelRead) (bs : List (List Piece)) (size levels : ℕ) : Type 0 where
  branches : m.branches ++ m.pieces ∷ [] ≡ l.branches ++ bs
  size_is : m.size ≡ l.size + size
  levels_are : m.levels ≡ max l.levels levels

-- the whole of a level is what its branches spell
level_regex : (m : LevelRead) (r : Regex) (size levels : ℕ) → HasBranches new_level m (out-Regex r).branches size levels → regex_of m ≡ r
level_regex m r size levels h = ap (λ bs. roll-Regex (record { branches = bs })) h.branches ∙ roll-out-Regex r

-- and so is what stands in parentheses
nested_atom : (m : LevelRead) (r : Regex) (a : Atom) (size levels : ℕ) → HasBranches new_level m (out-Regex r).branches size levels → a ≡ atom.Nested r
    → nested_read m ≡ atom_read a (size + 1) (levels + 1)
nested_atom m r a size levels h p =
    let q : atom.Nested (regex_of m) ≡ a = ap atom.Nested (level_regex m r size levels h) ∙ sym p in
    let s : m.size + 1 ≡ size + 1 = omega (arith, h.size_is) in
    let t : m.levels + 1 ≡ levels + 1 = ap (λ n. n + 1) (h.levels_are ∙ zero-max levels) in
    λ i. record { atom = q i; size = s i; levels = t i }

-- a `)` ends a level
closes : (outer : List LevelRead) (l m : LevelRead) (cs rest : List ℕ) → Begins 0x29 cs rest → reads (state_at (l ∷ outer) m Start) cs ≡ reads (state_at outer l (Behind (nested_read m))) rest
closes outer l m cs rest e = rw e

mutual
  -- branches are read to the end of their level
  branches_read : (outer : List LevelRead) (l : LevelRead) (cs : List ℕ) (bs : List (List Piece)) (size levels : ℕ) (rest : List ℕ) → AreBranches cs bs size levels rest → EndsLevel rest
      → l.pieces ≡ [] → (m : LevelRead) × (reads (state_at outer l Start) cs ≡ reads (state_at outer m Start) rest) × HasBranches l m bs size levels
  branches_read outer l cs bs size levels rest (one {pieces = ps} d) n e = (
    with_pieces l ps size levels,
    pieces_read outer l cs ps size levels rest d (end_stands rest n),
    record {
      branches = ap (λ qs. l.branches ++ (qs ++ ps) ∷ []) e;
      size_is = refl;
      levels_are = refl;
    },
  )
  branches_read outer l cs bs size levels rest (further {ds = ds} {es = es} {pieces = ps} {branches = others} {size = s} {levels = t} {others = u} {others_levels = v} d b later) n e =
      let k = with_pieces l ps s t in
      let first = pieces_read outer l cs ps s t ds d (rw b refl) in
      let bar : reads (state_at outer k Start) ds ≡ reads (state_at outer (with_branch k) Start) es = rw b refl in
      let h = branches_read outer (with_branch k) es others u v rest later n refl in (
        h.0,
        first ∙ bar ∙ h.1,
        record {
          branches = h.2.branches ∙ append_assoc l.branches ((l.pieces ++ ps) ∷ []) others ∙ ap (λ qs. l.branches ++ (qs ++ ps) ∷ others) e;
          size_is = h.2.size_is ∙ add_assoc l.size s u;
          levels_are = h.2.levels_are ∙ max_assoc l.levels t v;
        },
      )

  -- pieces are read, each behind the one before it
  pieces_read : (outer : List LevelRead) (l : LevelRead) (cs : List ℕ) (ps : List Piece) (size levels : ℕ) (rest : List ℕ) → ArePieces cs ps size levels rest → NotQuantifier rest
      → reads (state_at outer l Start) cs ≡ reads (state_at outer (with_pieces l ps size levels) Start) rest
  pieces_read outer l cs ps size levels rest nothing n = ap (λ m. reads (state_at outer m Start) cs) (with_none l)
  pieces_read outer l cs ps size levels rest (more {ds = ds} {p = p} {ps = others} {size = s} {levels = t} {others = u} {others_levels = v} d later) n =
      piece_read outer l cs p s t ds d (pieces_stand ds others u v rest later n) ∙ pieces_read outer (with_pieces l (p ∷ []) s t) ds others u v rest later n
      ∙ ap (λ m. reads (state_at outer m Start) rest) (with_more l p others s t u v)

  -- a piece is read by its atom, and then its quantifier
  piece_read : (outer : List LevelRead) (l : LevelRead) (cs : List ℕ) (p : Piece) (size levels : ℕ) (rest : List ℕ) → IsPiece cs p size levels rest → NotQuantifier rest
      → reads (state_at outer l Start) cs ≡ reads (state_at outer (with_pieces l (p ∷ []) size levels) Start) rest
  piece_read outer l cs p size levels rest (piece {ds = ds} {atom = s} a q) n =
      atom_reads outer l cs (out-Piece p).atom s levels ds a ∙ quantifier_read outer l (atom_read (out-Piece p).atom s levels) ds (out-Piece p).bounds size rest q n
      ∙ ap (λ m. reads (state_at outer m Start) rest) (piece_rolled l p s levels size)

  -- an atom is read
  atom_reads : (outer : List LevelRead) (l : LevelRead) (cs : List ℕ) (a : Atom) (size levels : ℕ) (rest : List ℕ) → IsAtom cs a size levels rest
      → reads (state_at outer l Start) cs ≡ reads (state_at outer l (Behind (atom_read a size levels))) rest
  atom_reads outer l cs a size levels rest (plain h) = rw h
  atom_reads outer l cs a size levels rest (escaped e h) = rw e (rw h)
  atom_reads outer l cs a size levels rest (any e) = rw e
  atom_reads outer l cs a size levels rest (class {ds = ds} {negated = negated} {ms = ms} e h) =
      let k = class_complete ds rest negated ms h in
      rw e (class_follows outer l ds new_class k.0 rest k.1 ∙ ap₂ (λ x y. reads (state_at outer l (Behind (atom_read (atom.Class x y) 1 0))) rest) k.2 k.3)
  atom_reads outer l cs a size levels rest (nested {ds = ds} {es = es} {size = s} {levels = t} r e b f p) =
      let h = branches_read (l ∷ outer) new_level ds (out-Regex r).branches s t es b (rw f refl) refl in
      let open_read : reads (state_at outer l Start) cs ≡ reads (state_at (l ∷ outer) new_level Start) ds = rw e refl in
      open_read ∙ h.1 ∙ closes outer l h.0 es rest f ∙ ap (λ x. reads (state_at outer l (Behind x)) rest) (nested_atom h.0 r a s t h.2 p)

-- what is spelled is read
pub complete : (cs : List ℕ) (r : Regex) (size levels : ℕ) → Spells cs r size levels → (l : LevelRead) × (reads new_state cs ≡ Some l) × (regex_of l ≡ r) × (l.size ≡ size) × (l.levels ≡ levels)
complete cs r size levels d =
    let h = branches_read [] new_level cs (out-Regex r).branches size levels [] d tt refl in
    (h.0, h.1, level_regex h.0 r size levels h.2, omega (arith, h.2.size_is), h.2.levels_are ∙ zero-max levels)

-- one text spells one pattern at most
pub one_pattern : (cs : List ℕ) (r q : Regex) → SpellsRegex cs r → SpellsRegex cs q → r ≡ q
one_pattern cs r q d e =
    let h = complete cs r d.0 d.1 d.2 in
    let k = complete cs q e.0 e.1 e.2 in
    let same : h.0 ≡ k.0 = cc (h.1, k.1) in
    sym h.2 ∙ ap regex_of same ∙ k.2

-- what begins a pattern leads to a state
pub begun_alive : (cs : List ℕ) → BeginsPattern cs → (s : State) × (after new_state cs ≡ Some s)
begun_alive cs d =
    let h = complete (cs ++ d.0) d.1 d.2.0 d.2.1 d.2.2 in
    option_and_then_some (λ next. reads next d.0) (after new_state cs) h.0 (sym (reads_after cs d.0 new_state) ∙ h.1) (λ s e f. (s, e))
