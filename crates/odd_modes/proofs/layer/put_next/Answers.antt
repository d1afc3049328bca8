use Rattle.std.proofs.Common.{◌≡◌, false, ap, subst, sym, ◌∙◌}
use Rattle.std.proofs.lemmas.Result.{on_ok_weaker}
use Rattle.odd_text.specs.Key.{key_cmp}
use Rattle.odd_text.proofs.Rise.{above_last, above_push}
use Rattle.odd_text.specs.Above.{IsAboveLast}
use Rattle.odd_modes.specs.Layering.{AreBelow, is_at, is_below, still_to_put}
use Rattle.odd_modes.proofs.Layering.{is_less, put_above, put_first}
use Rattle.odd_modes.proofs.layer.put_next.Goals as goal

pub push-requires : goal.push-requires
push-requires c =
    let rest = still_to_put c.pop.new.self.items in
    let spec = c.in-Some.spec.now in
    let first = ap still_to_put c.in-Some.ensures.items ∙ put_first c.pop.new.self.items c.in-Some.spec in
    let next : is_at rest spec.key ≡ false = ap (λ ss. is_at (still_to_put ss) spec.key) (sym c.as_slice.ensures.value) ∙ sym c.is_next.ensures ∙ c.if-is_next.false in
    let above = put_above c.args.layer.now (still_to_put c.args.specs.now.items) rest spec first next c.requires.rising in
    subst (IsAboveLast key_cmp c.args.layer.now) (sym c.in_ok-key.ensures) (above_last key_cmp c.args.layer.now spec.key above)

pub returns-clause-below : goal.returns-clause-below
returns-clause-below c key lower =
    on_ok_weaker c.push.result
    (λ ok below. subst (λ es. AreBelow es key) (sym ok)
    (above_push key_cmp c.args.layer.now key c.in_ok-key.key _ below (ap (λ k. key_cmp k key) c.in_ok-key.ensures ∙ is_less _ (ap (λ ss. is_below ss key) (sym (ap still_to_put c.in-Some.ensures.items ∙ put_first c.pop.new.self.items c.in-Some.spec)) ∙ lower))))
    c.push.ensures.ok
