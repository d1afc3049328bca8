use Rattle.std.proofs.Common.{[], refl}
use Rattle.odd_chain.specs.Files.{none}
use Rattle.odd_chain.proofs.MergedDocs.{empty_merged}
use Rattle.odd_chain.proofs.chain.Chain.new.Goals as goal

pub returns-clause-empty : goal.returns-clause-empty
returns-clause-empty c = λ aside. record { docs = []; declared = none; merged = empty_merged c.in_ok-library.library c.in_ok-library.ensures.empty; numbered = refl; counted = refl }
