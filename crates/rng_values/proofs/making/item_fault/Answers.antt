use Rattle.std.proofs.Common.{subst, sym, ◌∙◌}
use Rattle.std.proofs.lemmas.Bool.{both_ways}
use Rattle.rng_values.specs.Items.{ItemFault}
use Rattle.rng_values.proofs.ItemFaults.{malformed_least, no_fault, no_type_least, refused, twice_least, untaken_least}
use Rattle.rng_values.proofs.making.item_fault.Goals as goal

pub returns-then-has_malformed-clause-rule : goal.returns-then-has_malformed-clause-rule
returns-then-has_malformed-clause-rule c rule =
    let texts = c.as_slice-texts in
    refused c.args.name.now texts.result.now c.args.facets.now 1 rule texts.ensures (malformed_least c.args.name.now texts.result.now (c.has_malformed.ensures.0 c.if-has_malformed.true))

pub returns-in_default-clause-rule : goal.returns-in_default-clause-rule
returns-in_default-clause-rule c rule =
    let texts = c.as_slice-texts in
    refused c.args.name.now texts.result.now c.args.facets.now 2 rule texts.ensures
    (no_type_least c.args.name.now texts.result.now (λ a. both_ways c.has_malformed.result c.if-has_malformed.false (c.has_malformed.ensures.1 a))
    (sym c.type_named.ensures ∙ c.in_default.is))

pub returns-then-branch-clause-rule : goal.returns-then-branch-clause-rule
returns-then-branch-clause-rule c rule =
    let texts = c.as_slice-texts in
    refused c.args.name.now texts.result.now c.args.facets.now 2 rule texts.ensures
    (untaken_least c.args.name.now texts.result.now c.in-Some.kind (λ a. both_ways c.has_malformed.result c.if-has_malformed.false (c.has_malformed.ensures.1 a))
    (sym c.type_named.ensures ∙ c.in-Some.is) (c.in_ok-has_untaken.ensures.0 c.if-branch.true))

pub returns-then-has_twice-clause-rule : goal.returns-then-has_twice-clause-rule
returns-then-has_twice-clause-rule c rule =
    let texts = c.as_slice-texts in
    refused c.args.name.now texts.result.now c.args.facets.now 4 rule texts.ensures
    (twice_least c.args.name.now texts.result.now c.in-Some.kind (λ a. both_ways c.has_malformed.result c.if-has_malformed.false (c.has_malformed.ensures.1 a))
    (sym c.type_named.ensures ∙ c.in-Some.is) (λ a. both_ways c.in_ok-has_untaken.field-0 c.if-branch.false (c.in_ok-has_untaken.ensures.1 a))
    (sym c.has_twice.ensures ∙ c.if-has_twice.true))

pub returns-clause-sound : goal.returns-clause-sound
returns-clause-sound c told rule fault =
    let texts = c.as_slice-texts in
    no_fault c.args.name.now texts.result.now c.in-Some.kind (λ a. both_ways c.has_malformed.result c.if-has_malformed.false (c.has_malformed.ensures.1 a))
    (sym c.type_named.ensures ∙ c.in-Some.is) (λ a. both_ways c.in_ok-has_untaken.field-0 c.if-branch.false (c.in_ok-has_untaken.ensures.1 a))
    (sym c.has_twice.ensures ∙ c.if-has_twice.false) rule (subst (λ fs. ItemFault c.args.name.now fs rule) (sym texts.ensures) fault)
