use Rattle.std.proofs.Common.{◌<◌, ◌↔◌, ◌++◌, Bool, List, length, map, take}
use Rattle.std.specs.Str.{chars}
use Rattle.odd_patterns.specs.Words.{Matches}
use Rattle.odd_pool.specs.Pattern.{Fits}
use Rattle.odd_pool.specs.Pool.{pattern_at}
use Rattle.rng_allows.specs.Marked.{IsMarked}
use Rattle.rng_allows.proofs.Marks.{AreMarks, takes}
use Rattle.rng_allows.proofs.allowing.+allows.Given as goal

abbrev pub invariant-allows_words-loop-word : goal.invariant-allows_words-loop-word
invariant-allows_words-loop-word l = record {
  within : l.left < length l.pool;
  seen : List (List Bool);
  marked : AreMarks l.leaves (map chars (take l.word-index l.word-items)) seen;
  left : (v : List (List Bool)) → Fits takes (pattern_at l.pool l.left) v ↔ Matches takes l.pat (seen ++ v);
}

abbrev pub invariant-marks_of-loop-leaf : goal.invariant-marks_of-loop-leaf
invariant-marks_of-loop-leaf l = IsMarked (take l.leaf-index l.leaf-items) (chars l.word) l.marks
