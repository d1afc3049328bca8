use Rattle.std.specs.Str.Iter.{chars_rest}
use Rattle.odd_tree.specs.Markup.{escaped_text_char}
use Rattle.odd_printing.proofs.Escaped.{PutUpTo}
use Rattle.odd_printing.proofs.printing.add_escaped_text.Given as goal

abbrev pub invariant-loop-c : goal.invariant-loop-c
invariant-loop-c l = PutUpTo escaped_text_char l.fn.out l.out l.fn.text (chars_rest l.c-iterator)
