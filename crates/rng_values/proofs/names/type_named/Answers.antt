use Rattle.rng_values.specs.Names.{type_names}
use Rattle.rng_values.proofs.Named.{unnamed}
use Rattle.rng_values.proofs.names.type_named.Goals as goal

pub returns-in_default : goal.returns-in_default
returns-in_default c =
    let o = c.in_default in
    unnamed type_names c.as_str.result.now c.args.name.now c.as_str.ensures (
      o.not-string,
      (
        o.not-normalizedString,
        (
          o.not-token,
          (
            o.not-NMTOKEN,
            (
              o.not-Name,
              (
                o.not-NCName,
                (
                  o.not-ID,
                  (
                    o.not-IDREF,
                    (
                      o.not-language,
                      (o.not-anyURI, (o.not-boolean, (o.not-integer, (o.not-nonNegativeInteger, (o.not-positiveInteger, (o.not-decimal, tt)))))),
                    ),
                  ),
                ),
              ),
            ),
          ),
        ),
      ),
    )
