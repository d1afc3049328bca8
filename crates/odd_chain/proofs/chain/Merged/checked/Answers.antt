use Rattle.std.proofs.Common.{◌≡◌, ℕ, Bool, List, Result, Ok, Err, IfOk, IsOk, refl, subst, sym}
use Rattle.odd_library.specs.declared.library.Library.{Library}
use Rattle.odd_library.specs.declared.refusal.OddRefusal.{OddRefusal}
use Rattle.odd_meaning.specs.Rules.{Breaks}
use Rattle.odd_text.specs.declared.key.Key.{Key}
use Rattle.odd_tree.specs.declared.tree.Tree.{Tree}
use Rattle.odd_chain.specs.Files.{Gives}
use Rattle.odd_chain.specs.Reading.{AreMerged}
use Rattle.odd_chain.specs.declared.chain.Merged.{Merged}
use Rattle.odd_chain.proofs.Chained.{gives_it, rule_refused}
use Rattle.odd_chain.proofs.chain.Merged.checked.Goals as goal

-- the library that breaks no rule is the one that is given
given : (made : Merged) (r : Result Library OddRefusal) → IfOk r (λ library. library ≡ made.library) → (IsOk r → (key : Key) (rule : ℕ) → Breaks made.library key rule → ⊥)
    → IfOk r (λ library. (aside : Bool) (trees : List Tree) → AreMerged aside trees made → Gives aside trees library)
given made (Ok library) same sound = λ aside trees of. subst (Gives aside trees) (sym same) (gives_it aside trees made of (sound refl))
given made (Err refusal) same sound = tt

pub returns-clause-library : goal.returns-clause-library
returns-clause-library c = given c.args.self.now c.checked_after.result c.checked_after.ensures.same c.checked_after.ensures.sound

pub returns-clause-offence : goal.returns-clause-offence
returns-clause-offence c = λ offence is aside trees of. rule_refused aside trees c.args.self.now of offence (c.checked_after.ensures.offence offence is)
