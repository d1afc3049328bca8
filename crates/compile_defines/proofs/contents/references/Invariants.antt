use Rattle.std.proofs.Common.{◌≡◌, map, take}
use Rattle.compile_defines.specs.Contents.{reference}
use Rattle.compile_defines.proofs.contents.references.Given as goal

abbrev pub invariant-loop-ident : goal.invariant-loop-ident
invariant-loop-ident l = l.refs ≡ map reference (take l.ident-index l.idents)
