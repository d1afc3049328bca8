-- What the characters behind a place owe, once more pieces and branches follow it: the invariant of the machine's levels.
use Rattle.std.proofs.Common.{◌≡◌, ℕ, ◌+◌, List, [], ◌∷◌, ◌++◌, max, refl, sym, ap, ◌∙◌, subst, append_assoc, append-nil, arith}
use Rattle.rng_dialect.specs.Dialect.{AreBranches, IsPiece, IsAtom, IsQuantifier, one, further, nothing, more, piece, nested}
use Rattle.rng_dialect.specs.Reading.{AtomRead, LevelRead, new_level, once, regex_of, with_branch, with_piece}
use Rattle.rng_dialect.specs.Reading as reading
use Rattle.rng_types.specs.declared.bounds.Bounds.{Bounds}
use Rattle.rng_dialect.specs.declared.regex.Piece.{Piece, roll-Piece}
use Rattle.rng_dialect.specs.declared.regex.Regex.{out-Regex, out-roll-Regex}

-- characters that others follow: what comes after them gives all
abbrev pub Front : Type 0
Front = List ℕ → List ℕ

-- the same branches, with their size and levels told otherwise
with_sizes : {cs : List ℕ} {bs : List (List Piece)} {m n : ℕ} {rest : List ℕ} (cs' : List (List Piece)) (m' n' : ℕ) → AreBranches cs bs m n rest → bs ≡ cs' → m ≡ m' → n ≡ n' → AreBranches cs cs' m' n' rest
with_sizes {cs} {bs} {m} {n} {rest} cs' m' n' d b e f =
    subst (λ k. AreBranches cs cs' m' k rest) f (subst (λ k. AreBranches cs cs' k n rest) e (subst (λ k. AreBranches cs k m n rest) b d))

-- a piece stands before the first of the branches
piece_first : (ds cs rest : List ℕ) (p : Piece) (qs : List Piece) (bs : List (List Piece)) (size levels others deep : ℕ) → IsPiece ds p size levels cs
    → AreBranches cs (qs ∷ bs) others deep rest → AreBranches ds ((p ∷ qs) ∷ bs) (size + others) (max levels deep) rest
piece_first ds cs rest p qs bs size levels others deep d (one e) = one (more d e)
piece_first ds cs rest p qs bs size levels others deep d (further {size = a} {levels = b} {others = m} {others_levels = n} e begins later) =
    with_sizes ((p ∷ qs) ∷ bs) (size + (a + m)) (max levels (max b n)) (further (more d e) begins later) refl (omega arith) (omega arith)

-- the front of a level is followed by the rest of its open branch, and by further branches
pub record Continues (h : Front) (l : LevelRead) : Type 0 where
  pub goes : (cs : List ℕ) (qs : List Piece) (bs : List (List Piece)) (size levels : ℕ) (rest : List ℕ) → AreBranches cs (qs ∷ bs) size levels rest
      → AreBranches (h cs) (l.branches ++ (l.pieces ++ qs) ∷ bs) (l.size + size) (max l.levels levels) rest

-- the front of an atom
pub record IsSpelled (k : Front) (a : AtomRead) : Type 0 where
  pub atom : (rest : List ℕ) → IsAtom (k rest) a.atom a.size a.levels rest

-- at the beginning of a level
new_continues : Continues (λ r. r) new_level
new_continues = record { goes = λ cs qs bs size levels rest d. with_sizes (qs ∷ bs) (0 + size) (max 0 levels) d refl (omega arith) (omega arith) }

-- a quantifier is behind an atom
pub piece_continues : (h k q : Front) (l : LevelRead) (a : AtomRead) (b : Bounds) (size : ℕ) → Continues h l → IsSpelled k a → ((rest : List ℕ) → IsQuantifier a.size (q rest) b size rest)
    → Continues (λ r. h (k (q r))) (with_piece l a b size)
piece_continues h k q l a b size d s quantified = record {
  goes = λ cs qs bs others deep rest e.
      let p : Piece = roll-Piece (record { atom = a.atom; bounds = b }) in
      let f : IsPiece (k (q cs)) p size a.levels cs = piece (s.atom (q cs)) (quantified cs) in
      with_sizes (l.branches ++ ((l.pieces ++ p ∷ []) ++ qs) ∷ bs) ((l.size + size) + others) (max (max l.levels a.levels) deep)
      (d.goes (k (q cs)) (p ∷ qs) bs (size + others) (max a.levels deep) rest (piece_first (k (q cs)) cs rest p qs bs size a.levels others deep f e))
      (ap (λ ps. l.branches ++ ps ∷ bs) (sym (append_assoc l.pieces (p ∷ []) qs))) (omega arith) (omega arith);
}

-- a `|` is behind a branch
branch_continues : (h : Front) (l : LevelRead) → Continues h l → Continues (λ r. h (0x7C ∷ r)) (with_branch l)
branch_continues h l d = record {
  goes = λ cs qs bs size levels rest e.
      with_sizes ((l.branches ++ l.pieces ∷ []) ++ (qs ∷ bs)) (l.size + size) (max l.levels levels)
      (d.goes (0x7C ∷ cs) [] (qs ∷ bs) (0 + size) (max 0 levels) rest (further nothing refl e))
      (ap (λ ps. l.branches ++ ps ∷ qs ∷ bs) (append-nil l.pieces) ∙ sym (append_assoc l.branches (l.pieces ∷ []) (qs ∷ bs))) (omega arith) (omega arith);
}

-- nothing more comes in the level
pub level_whole : (h : Front) (l : LevelRead) → Continues h l → (rest : List ℕ) → AreBranches (h rest) (out-Regex (regex_of l)).branches l.size l.levels rest
level_whole h l d rest =
    with_sizes (out-Regex (regex_of l)).branches l.size l.levels (d.goes rest [] [] 0 0 rest (one nothing))
    (ap (λ ps. l.branches ++ ps ∷ []) (append-nil l.pieces) ∙ sym (ap (λ r. r.branches) (out-roll-Regex (record { branches = l.branches ++ l.pieces ∷ [] })))) (omega arith) (omega arith)

-- and then it is an atom of the one around
pub nested_spelled : (h : Front) (l : LevelRead) → Continues h l → IsSpelled (λ r. 0x28 ∷ h (0x29 ∷ r)) (reading.nested l)
nested_spelled h l d = record { atom = λ rest. nested (regex_of l) refl (level_whole h l d (0x29 ∷ rest)) refl refl }

-- the front of a level with that of each level around it, and the `(` between them
pub data Stand : List LevelRead → LevelRead → Front → Type 0 where
  lowest : {l : LevelRead} {h : Front} → Continues h l → Stand [] l h
  inner : {o l : LevelRead} {os : List LevelRead} {g h : Front} → Stand os o g → Continues h l → Stand (o ∷ os) l (λ r. g (0x28 ∷ h r))

-- at the beginning of all
pub new_stand : Stand [] new_level (λ r. r)
new_stand = lowest new_continues

-- behind a quantifier
pub piece_stand : (outer : List LevelRead) (l : LevelRead) (g k q : Front) (a : AtomRead) (b : Bounds) (size : ℕ) → Stand outer l g → IsSpelled k a
    → ((rest : List ℕ) → IsQuantifier a.size (q rest) b size rest) → Stand outer (with_piece l a b size) (λ r. g (k (q r)))
piece_stand [] l g k q a b size (lowest d) s e = lowest (piece_continues g k q l a b size d s e)
piece_stand (o ∷ os) l g k q a b size (inner {h = h} around d) s e = inner around (piece_continues h k q l a b size d s e)

-- behind an atom that stands once
pub once_stand : (outer : List LevelRead) (l : LevelRead) (g k : Front) (a : AtomRead) → Stand outer l g → IsSpelled k a → Stand outer (once l a) (λ r. g (k r))
once_stand outer l g k a d s = piece_stand outer l g k (λ r. r) a _ a.size d s (λ rest. IsQuantifier.once)

-- behind a `|`
pub branch_stand : (outer : List LevelRead) (l : LevelRead) (g : Front) → Stand outer l g → Stand outer (with_branch l) (λ r. g (0x7C ∷ r))
branch_stand [] l g (lowest d) = lowest (branch_continues g l d)
branch_stand (o ∷ os) l g (inner {h = h} around d) = inner around (branch_continues h l d)

-- behind a `(`
pub open_stand : (outer : List LevelRead) (l : LevelRead) (g : Front) → Stand outer l g → Stand (l ∷ outer) new_level (λ r. g (0x28 ∷ r))
open_stand outer l g d = inner d new_continues
