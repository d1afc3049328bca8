use Rattle.std.proofs.Common.{encode_utf8, rules}
use Rattle.std.specs.List.{All}
use Rattle.odd_tree.specs.Markup.{escaped_text_char}
use Rattle.odd_printing.proofs.Escaped.{IsPlain, all_plain, none_put, more_put, all_put}
use Rattle.odd_printing.proofs.printing.add_escaped_text.Goals as goal

pub returns-then-all : goal.returns-then-all
returns-then-all c =
    let plain : All (IsPlain escaped_text_char) c.args.text.now = search rules in
    rw (all_plain escaped_text_char c.args.text.now plain) (record { ok = c.push_str.ensures.ok })

pub loop-c-init : goal.loop-c-init
loop-c-init c = none_put escaped_text_char cc

pub loop-c-preserved : goal.loop-c-preserved
loop-c-preserved c = more_put escaped_text_char (encode_utf8 c.in-Some.c) c.loop-c.invariant c.in-Some.ensures.steps.0 c.in_ok-add_text_character.ensures.ok

pub returns : goal.returns
returns c = record { ok = all_put escaped_text_char c.loop-c.invariant c.in-None.ensures.steps.0.0 }
