use Rattle.std.proofs.Common.{Some, lit<}
use Rattle.std.proofs.lemmas.Str.Pattern.{strip_prefix_char}
use Rattle.rng_values.proofs.Numerals.{minus_read, no_minus_read, no_plus_read}
use Rattle.rng_values.proofs.signs.split_sign.Goals as goal

pub returns-in-Some-clause-negative : goal.returns-in-Some-clause-negative
returns-in-Some-clause-negative c = (minus_read c.args.text.now c.in-Some.rest.now c.utf8.text (strip_prefix_char 0x2D c.args.text.now (Some c.in-Some.rest) c.in-Some.ensures.cases (lit< tt))).0

pub returns-in-Some-clause-rest : goal.returns-in-Some-clause-rest
returns-in-Some-clause-rest c = (minus_read c.args.text.now c.in-Some.rest.now c.utf8.text (strip_prefix_char 0x2D c.args.text.now (Some c.in-Some.rest) c.in-Some.ensures.cases (lit< tt))).1

pub returns-in-None-clause-negative : goal.returns-in-None-clause-negative
returns-in-None-clause-negative c = no_minus_read c.args.text.now c.utf8.text c.in-None.ensures.cases

pub returns-in-None-clause-rest : goal.returns-in-None-clause-rest
returns-in-None-clause-rest c =
    let text = c.args.text in
    rw c.unwrap_or.ensures (no_plus_read text c.strip_prefix-in-None.result c.utf8.text c.in-None.ensures.cases c.strip_prefix-in-None.ensures.cases)
