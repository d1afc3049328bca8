-- How many constraints were taken out of the files of a chain.
use Rattle.std.proofs.Common.{◌≡◌, ◌+◌, ℕ, List, [], ◌∷◌, ◌++◌, ap, sym, ◌∙◌, arith}
use Rattle.std.specs.Prelude.{min}
use Rattle.odd_library.specs.declared.odd.OddDoc.{OddDoc}
use Rattle.odd_text.specs.Count.{last_count}
use Rattle.odd_chain.specs.Files.{all_asides}

-- one doc more
all_more : (docs : List OddDoc) (doc : OddDoc) → all_asides (docs ++ doc ∷ []) ≡ all_asides docs + doc.asides
all_more [] doc = omega arith
all_more (d ∷ docs) doc = omega (arith, all_more docs doc)

-- a sum that stands still stays the one of more numbers
min_more : (a b n : ℕ) → min (min a n + b) n ≡ min (a + b) n
min_more a b n = grind arith

-- the count with one doc more
pub asides_more : (docs : List OddDoc) (doc : OddDoc) (count next : ℕ) → count ≡ min (all_asides docs) last_count → next ≡ min (count + doc.asides) last_count
    → next ≡ min (all_asides (docs ++ doc ∷ [])) last_count
asides_more docs doc count next before is =
    is ∙ ap (λ n. min (n + doc.asides) last_count) before ∙ min_more (all_asides docs) doc.asides last_count ∙ ap (λ n. min n last_count) (sym (all_more docs doc))
