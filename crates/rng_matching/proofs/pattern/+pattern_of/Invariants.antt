use Rattle.std.proofs.Common.{List, take}
use Rattle.rng_dialect.specs.Matching.{AreMatched}
use Rattle.rng_dialect.specs.declared.regex.Atom.{Atom}
use Rattle.rng_dialect.specs.declared.regex.Regex.{out-Regex}
use Rattle.rng_matching.specs.Chars.{admits}
use Rattle.rng_matching.specs.Making.{Grows, PieceMatches}
use Rattle.rng_matching.proofs.Joining.{EachFits}
use Rattle.rng_matching.proofs.pattern.+pattern_of.Given as goal

abbrev pub invariant-regex_pattern-loop-pieces : goal.invariant-regex_pattern-loop-pieces
invariant-regex_pattern-loop-pieces l = record {
  grows : Grows l.initial.classes l.classes;
  made : (later : List Atom) → Grows l.classes later → EachFits AreMatched (admits later) (take l.pieces-index (out-Regex l.regex).branches) l.parts;
}

abbrev pub invariant-pieces_pattern-loop-piece : goal.invariant-pieces_pattern-loop-piece
invariant-pieces_pattern-loop-piece l = record {
  grows : Grows l.initial.classes l.classes;
  made : (later : List Atom) → Grows l.classes later → EachFits PieceMatches (admits later) (take l.piece-index l.pieces) l.parts;
}
