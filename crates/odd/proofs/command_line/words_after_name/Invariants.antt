use Rattle.std.proofs.Common.{◌≡◌, map, string_bytes}
use Rattle.odd.proofs.command_line.words_after_name.Given as goal

abbrev pub invariant-loop-word : goal.invariant-loop-word
invariant-loop-word l = l.words ≡ map string_bytes l.yielded
