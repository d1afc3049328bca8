-- The grammar of a library accepts what the library admits.
use Rattle.std.proofs.Common.{◌↔◌, ℕ, List, [], ◌∷◌, sym, subst, arith}
use Rattle.odd_tree.specs.Significant.{Marking, depth}
use Rattle.odd_tree.specs.declared.tree.Node.{Element}
use Rattle.odd_tree.specs.declared.tree.Tree.{Tree}
use Rattle.odd_library.specs.Formed.{IsFormedLibrary}
use Rattle.odd_library.specs.declared.library.Library.{Library}
use Rattle.odd_meaning.specs.Admission.{Admits}
use Rattle.rng_grammar.specs.Acceptance.{Accepts, IsAcceptedWithin}
use Rattle.rng_grammar.specs.Patterns.{IsMatched}
use Rattle.rng_grammar.specs.declared.grammar.Grammar.{Grammar}
use Rattle.compile_defines.specs.Compiled.{IsGrammarOf}
use Rattle.compile_defines.specs.Contents.{define_name}
use Rattle.compile_laws.proofs.HeldDefines.{hold_elements, start_law}
use Rattle.compile_laws.proofs.Joining.{joined, accepted_defined}
use Rattle.compile_laws.proofs.MacroLaw.{BreaksNone}

-- by the start law for the root, and the joining induction for what is in it
pub accepts_admitted : (library : Library) (start : List (List ℕ)) (g : Grammar) → IsFormedLibrary library → BreaksNone library → IsGrammarOf library start g
    → (t : Tree) → Accepts g t ↔ Admits library start t
accepts_admitted library start g f none is t =
    let counts : Marking (List ℕ) = λ u name. IsAcceptedWithin (depth u) g u name in
    let law = start_law g (hold_elements library start g is) counts start t in
    let join = joined library start g is f none (depth t) t (omega arith) in (
      λ a.
          let s = law.0 (subst (λ p. IsMatched g counts p (Element t ∷ [])) is.start_is a) in
          record { word = s.0; among = s.1; valid = (join s.0).1 s.3 },
      λ v.
          let accepted = (join v.word).0 v.valid in
          subst (λ p. IsMatched g counts p (Element t ∷ [])) (sym is.start_is) (law.1 (v.word, v.among, accepted_defined (depth t) g t (define_name v.word) accepted, accepted)),
    )
