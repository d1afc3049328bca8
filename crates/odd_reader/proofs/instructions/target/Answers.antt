use Rattle.std.proofs.Common.{◌≡◌, codes, false, ap, ◌∙◌, rules}
use borrow.Author.Tests.{tests}
use Rattle.std.proofs.lemmas.Bool.{not_from_false}
use Rattle.std.specs.Str.{str_eq_ignore_ascii_case}
use Rattle.odd_tokens.proofs.InTokenInstruction.{no_xml}
use Rattle.odd_reader.proofs.instructions.target.Goals as goal

pub returns-clause-other : goal.returns-clause-other
returns-clause-other c =
    let name = c.in-Some.name.now in
    let other : str_eq_ignore_ascii_case name (codes "xml") ≡ false = search (rules, tests) in
    not_from_false _ (no_xml name (ap (λ bs. str_eq_ignore_ascii_case bs (codes "xml")) c.in-Some.ensures.name.bytes ∙ other))
