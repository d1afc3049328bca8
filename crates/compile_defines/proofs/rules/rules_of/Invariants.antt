use Rattle.std.proofs.Common.{◌≡◌, ◌+◌, map, take}
use Rattle.compile_defines.specs.Compiled.{offers_of, rule_of}
use Rattle.compile_defines.specs.Elements.{rules_elements}
use Rattle.compile_defines.proofs.rules.rules_of.Given as goal

abbrev pub invariant-loop-ident : goal.invariant-loop-ident
invariant-loop-ident l = record {
  pushed : l.rules ≡ map rule_of (offers_of (take l.ident-index l.ident-items));
  taken : l.initial.budget.left ≡ l.budget.left + rules_elements l.rules;
}
