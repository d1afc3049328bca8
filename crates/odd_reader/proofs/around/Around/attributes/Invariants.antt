use Rattle.std.proofs.Common.{◌≡◌, ◌++◌, Some}
use Rattle.std.specs.Prelude.{reverse}
use Rattle.odd_reader.specs.Resolving.{around, attributes_named}
use Rattle.odd_reader.proofs.around.Around.attributes.Given as goal

abbrev pub invariant-loop-attr : goal.invariant-loop-attr
invariant-loop-attr l = record {
  so_far : attributes_named (around (reverse l.self.open.now) ++ l.own) l.yielded ≡ Some l.attrs.items;
  parted : l.fn.plain.items ≡ l.yielded ++ l.attr-iterator.rest.items;
}
