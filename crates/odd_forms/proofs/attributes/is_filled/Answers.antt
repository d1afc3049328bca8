use Rattle.std.proofs.Common.{◌≡◌, IsUtf8, rules, tests, subst}
use Rattle.std.specs.List.{list_any}
use Rattle.std.specs.Str.{chars}
use Rattle.std.proofs.lemmas.Iterator.{YieldsList-from_chars}
use Rattle.std.proofs.lemmas.Iterator.Search.{any_from_yields_List}
use Rattle.rng_types.proofs.Spaced.{any_word, no_space}
use Rattle.odd_forms.proofs.attributes.is_filled.Goals as goal

pub returns : goal.returns
returns c =
    let value = c.args.value.now in
    let utf8 : IsUtf8 value = subst IsUtf8 c.as_str.ensures c.as_str.utf8 in
    let some : c.any.result ≡ list_any no_space (chars value) =
    any_from_yields_List no_space _ _ c.any.result c.any.ensures.ran (YieldsList-from_chars value utf8 cc) (λ x b q k. search (rules, tests)) in
    rw some (any_word value utf8)
