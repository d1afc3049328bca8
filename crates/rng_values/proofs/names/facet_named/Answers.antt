use Rattle.rng_values.specs.Names.{facet_names}
use Rattle.rng_values.proofs.Named.{unnamed}
use Rattle.rng_values.proofs.names.facet_named.Goals as goal

pub returns-in_default : goal.returns-in_default
returns-in_default c =
    let o = c.in_default in
    unnamed facet_names c.as_str.result.now c.args.name.now c.as_str.ensures
    (o.not-length, (o.not-minLength, (o.not-maxLength, (o.not-minInclusive, (o.not-maxInclusive, (o.not-pattern, tt))))))
