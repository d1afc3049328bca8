use Rattle.std.proofs.Common.{◌≡◌, ◌∙◌, refl, ap, sym, subst, arith, List, [], ◌∷◌, ◌++◌, Some, reverse, length}
use Rattle.std.proofs.lemmas.List.{length-reverse, reverse-append}
use Rattle.odd_text.proofs.Rise.{above_last, rises_of}
use Rattle.odd_modes.specs.Swept.{pushed, swept_at, value_taken}
use Rattle.odd_modes.proofs.ActByAct.{Sweeps, act_found, held_found, sweep_begins, sweep_goes_on, sweep_ends}
use Rattle.odd_modes.proofs.sweeping.sweep.Goals as goal

no_items : {A : Type 0} (xs : List A) → length xs ≡ 0 → reverse xs ≡ []
no_items [] e = refl
no_items (x ∷ xs) e = absurd (omega arith)

popped : {A : Type 0} (xs ys : List A) (x : A) → xs ≡ ys ++ x ∷ [] → reverse xs ≡ x ∷ reverse ys
popped xs ys x e = ap reverse e ∙ reverse-append ys (x ∷ [])

pub sweeping-init : goal.sweeping-init
sweeping-init g c =
    let R = g.K.Ranked.order in
    let laid = g.E.Overlay.laid in
    let base = c.args.base in
    let layer = c.args.layer in
    let held = c.turned-held.ensures in
    let acts = c.turned-acts.ensures in
    let begun = sweep_begins R g.met.K.Ranked.total g.met.K.Ranked.exact laid base layer (rises_of R base held.rising) (rises_of R layer acts.rising) in
    record {
      sweeps = subst (λ m. Sweeps R laid base layer m (reverse c.turned-held.result.items) (reverse c.turned-acts.result.items)) (sym c.new-made.ensures)
          (subst (λ b. Sweeps R laid base layer [] b (reverse c.turned-acts.result.items)) (sym held.all) (subst (λ y. Sweeps R laid base layer [] base y) (sym acts.all) begun));
      cost = omega (
        arith,
        c.turned-held.result.ok.0,
        c.turned-acts.result.ok.0,
        sym (length-reverse c.turned-held.result.items) ∙ ap length held.all,
        sym (length-reverse c.turned-acts.result.items) ∙ ap length acts.all,
      );
    }

pub acted-requires : goal.acted-requires
acted-requires g c = λ e x is under.
    let R = g.K.Ranked.order in
    let s = subst (λ y. Sweeps R g.E.Overlay.laid c.args.base c.args.layer c.sweeping.made (reverse c.sweeping.held.items) y)
    (popped c.sweeping.acts.items c.pop.new.self.items (c.in-Some.key, c.in-Some.act) c.in-Some.ensures.items) c.sweeping.invariant.sweeps in
    let act = act_found R g.met.K.Ranked.total g.met.K.Ranked.exact g.E.Overlay.laid c.args.base c.args.layer c.in-Some.key c.in-Some.act _ _ _ s in
    let held = held_found R g.met.K.Ranked.total g.met.K.Ranked.exact g.E.Overlay.laid c.args.base c.args.layer c.in-Some.key c.in-Some.act _ _ _ s in
    c.requires c.in-Some.key e x (act ∙ ap Some is) (sym held ∙ sym c.take_at-under.ensures.value ∙ under)

pub push_some-requires : goal.push_some-requires
push_some-requires g c =
    let s = subst (λ y. Sweeps g.K.Ranked.order g.E.Overlay.laid c.args.base c.args.layer c.sweeping.made (reverse c.sweeping.held.items) y)
    (popped c.sweeping.acts.items c.pop.new.self.items (c.in-Some.key, c.in-Some.act) c.in-Some.ensures.items) c.sweeping.invariant.sweeps in
    above_last g.K.Ranked.order c.sweeping.made c.in-Some.key s.above.0

pub sweeping-preserved : goal.sweeping-preserved
sweeping-preserved g c =
    let R = g.K.Ranked.order in
    let laid = g.E.Overlay.laid in
    let s = subst (λ y. Sweeps R laid c.args.base c.args.layer c.sweeping.made (reverse c.sweeping.held.items) y)
    (popped c.sweeping.acts.items c.pop.new.self.items (c.in-Some.key, c.in-Some.act) c.in-Some.ensures.items) c.sweeping.invariant.sweeps in
    let on = sweep_goes_on R g.met.K.Ranked.total g.met.K.Ranked.exact laid c.args.base c.args.layer c.in-Some.key c.in-Some.act _ _ _ s in
    let made : c.push_some.new.made ≡ pushed c.sweeping.made c.in-Some.key (swept_at laid (Some c.in-Some.act) (value_taken R c.in-Some.key (reverse c.sweeping.held.items))) =
    c.in_ok-push_some.ensures ∙ ap (pushed c.sweeping.made c.in-Some.key) (c.in_ok-value.ensures ∙ ap (swept_at laid (Some c.in-Some.act)) c.take_at-under.ensures.value) in
    record {
      sweeps = subst (λ m. Sweeps R laid c.args.base c.args.layer m (reverse c.take_at-under.new.pairs.items) (reverse c.pop.new.self.items)) (sym made)
          (subst (λ b. Sweeps R laid c.args.base c.args.layer (pushed c.sweeping.made c.in-Some.key (swept_at laid (Some c.in-Some.act) (value_taken R c.in-Some.key (reverse c.sweeping.held.items)))) b (reverse c.pop.new.self.items))
          (sym c.take_at-under.ensures.rest) on);
      cost = omega (arith, c.in-Some.ensures.cases);
    }

pub returns-clause-values : goal.returns-clause-values
returns-clause-values g c = λ k.
    let none : length c.sweeping.acts.items ≡ 0 = omega (arith, c.in_default.ensures.cases, c.sweeping.acts.ok.0) in
    sweep_ends g.K.Ranked.order g.met.K.Ranked.total g.met.K.Ranked.exact g.E.Overlay.laid c.args.base c.args.layer _ _ _ c.sweeping.invariant.sweeps (no_items c.sweeping.acts.items none) k
