use Rattle.std.proofs.Common.{◌≡◌, ◌≤◌, ◌<◌, ◌+◌, ◌*◌, [], Some, take}
use Rattle.odd_base.specs.Shelf.{FileMap}
use Rattle.odd_cli.specs.Reading.{IsChainRead}
use Rattle.odd_cli.specs.Reply.{file_bytes}
use Rattle.odd_cli.specs.Running.{AreReadWhole, GoesOn, counted}
use Rattle.odd_cli.proofs.running.read_chain.Given as goal

abbrev pub invariant-loop-name : goal.invariant-loop-name
invariant-loop-name g l = record {
  numbered : l.file ≡ l.name-index;
  read : IsChainRead l.aside (g.F.Shelf.holds l.initial.shelf) (take l.name-index l.names) l.chain;
  begun : g.F.Shelf.begins l.shelf ≡ counted (g.F.Shelf.begins l.initial.shelf) l.name-index;
  few_reads : g.F.Shelf.reads l.shelf ≤ g.F.Shelf.reads l.initial.shelf + l.name-index * (file_bytes + 1);
  whole : (files : FileMap) → g.F.Shelf.holds l.initial.shelf ≡ Some files → AreReadWhole g.F.Shelf.begins g.F.Shelf.rest (GoesOn g.F.Shelf.holds g.F.Shelf.steady g.F.Shelf.faults g.F.Shelf.begins g.F.Shelf.reads) l.name-index l.initial.shelf l.shelf;
  ended : (files : FileMap) → g.F.Shelf.holds l.initial.shelf ≡ Some files → 0 < l.name-index → g.F.Shelf.rest l.shelf ≡ Some [];
  goes_on : GoesOn g.F.Shelf.holds g.F.Shelf.steady g.F.Shelf.faults g.F.Shelf.begins g.F.Shelf.reads l.initial.shelf l.shelf;
}
