use Rattle.std.proofs.Common.{◌≡◌, Some, ap, sym, ◌∙◌}
use Rattle.std.specs.Option.{option_copied}
use Rattle.odd_tree.specs.Elements.{given}
use Rattle.odd_forms.proofs.demands.has_word.Goals as goal

pub returns-in-Some : goal.returns-in-Some
returns-in-Some c =
    let told : given c.args.tree.now c.args.local.now ≡ Some c.in-Some.value.now = sym c.attribute.ensures ∙ ap option_copied c.in-Some.is in
    rw told c.is_filled.ensures
