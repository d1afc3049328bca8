use Rattle.std.proofs.Common.{◌≡◌, take}
use Rattle.std.specs.Prelude.{All}
use Rattle.odd_library.specs.Formed.{IsFormedDoc, IsFormedLibrary}
use Rattle.odd_chain.specs.Reading.{IsMerged}
use Rattle.odd_chain.proofs.merging.merge.Given as goal

abbrev pub invariant-loop-doc : goal.invariant-loop-doc
invariant-loop-doc l = record {
  numbered : l.file ≡ l.doc-index;
  merged : IsMerged (take l.doc-index l.doc-items) l.library;
  formed : All IsFormedDoc l.doc-items → IsFormedLibrary l.library;
}
