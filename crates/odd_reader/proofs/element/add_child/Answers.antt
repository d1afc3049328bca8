use Rattle.std.proofs.Common.{◌-◌, ◌<◌, refl, ap, subst}
use Rattle.std.proofs.lemmas.Result.{on_ok_weaker}
use Rattle.odd_reader.proofs.Tags.{last_grown}
use Rattle.odd_reader.proofs.element.add_child.Goals as goal

pub returns-in-Some : goal.returns-in-Some
returns-in-Some c =
    let v = c.args.elements.now in
    on_ok_weaker c.push.result
    (last_grown v.items (v.len - 1) c.in-Some.parent.now c.push.new.self c.args.node (ap (λ n. n - 1) v.ok.0)
    (subst (λ n. 0 < n) v.ok.0 (c.in-Some.ensures.variant.0 refl)) c.in-Some.ensures.value)
    c.push.ensures
