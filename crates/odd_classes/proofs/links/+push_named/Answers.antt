use Rattle.std.proofs.Common.{◌≡◌, ◌++◌, OnOk, sym, ap, subst, ◌∙◌}
use Rattle.odd_meaning.specs.Links.{named_in}
use Rattle.odd_classes.specs.Placing.{those_of}
use Rattle.odd_classes.proofs.NamedKeys.{alternate_named, sequence_named}
use Rattle.odd_classes.proofs.links.+push_named.Goals as goal

pub push_named-returns-in-Sequence : goal.push_named-returns-in-Sequence
push_named-returns-in-Sequence t c =
    let given = c.push_named_of in
    subst (λ ks. OnOk given.result (given.new.keys ≡ c.args.keys.now ++ ks)) (sym (sequence_named c.args.wanted c.in-Sequence.parts c.in-Sequence.bounds) ∙ ap (λ x. those_of c.args.wanted (named_in x)) (sym c.in-Sequence.is))
    given.ensures

pub push_named-returns-in-Alternate : goal.push_named-returns-in-Alternate
push_named-returns-in-Alternate t c =
    let given = c.push_named_of-in-Alternate in
    subst (λ ks. OnOk given.result (given.new.keys ≡ c.args.keys.now ++ ks)) (sym (alternate_named c.args.wanted c.in-Alternate.parts c.in-Alternate.bounds) ∙ ap (λ x. those_of c.args.wanted (named_in x)) (sym c.in-Alternate.is))
    given.ensures
