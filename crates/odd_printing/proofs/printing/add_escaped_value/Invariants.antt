use Rattle.std.specs.Str.Iter.{chars_rest}
use Rattle.odd_tree.specs.Markup.{escaped_value_char}
use Rattle.odd_printing.proofs.Escaped.{PutUpTo}
use Rattle.odd_printing.proofs.printing.add_escaped_value.Given as goal

abbrev pub invariant-loop-c : goal.invariant-loop-c
invariant-loop-c l = PutUpTo escaped_value_char l.fn.out l.out l.fn.value (chars_rest l.c-iterator)
