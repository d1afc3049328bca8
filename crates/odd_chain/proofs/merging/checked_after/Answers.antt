use Rattle.std.proofs.Common.{◌≡◌, ap, subst, sym}
use Rattle.odd_text.specs.declared.offence.Offence.{Offence}
use Rattle.odd_text.specs.declared.offence.Who.TheVariants as who
use Rattle.odd_meaning.specs.Rules.{Breaks, IsFirstBreak}
use Rattle.odd_chain.proofs.merging.checked_after.Goals as goal

pub returns-in-Err-Rule-clause-offence : goal.returns-in-Err-Rule-clause-offence
returns-in-Err-Rule-clause-offence c = λ offence is.
    let key = c.in-Err-Rule.key in
    let given : Offence = record { file = c.args.file; who = who.Part key; rule = c.in-Err-Rule.rule } in
    let same : given ≡ offence = cc in
    record {
      in_file = ap (λ o. o.file) (sym same);
      key = key;
      placed = ap (λ o. o.who) (sym same);
      is_first = subst (λ o. IsFirstBreak (Breaks c.args.library.now) key o.rule) same (c.check.ensures.first key c.in-Err-Rule.rule (cc (c.in-Err-Rule.is, c.in-Err-Rule.field-0-is)));
    }
