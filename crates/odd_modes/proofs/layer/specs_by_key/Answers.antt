use Rattle.std.proofs.Common.{◌≡◌, [], ◌∷◌, ◌++◌, ap, subst, sym, ◌∙◌, map, append_assoc}
use Rattle.std.proofs.lemmas.List.{append-nil, map-append, nil_from_length}
use Rattle.std.proofs.lemmas.List.Sorted.{All-permutation}
use Rattle.odd_modes.specs.Layering.{AreRising, last_of}
use Rattle.odd_modes.proofs.ByKey.{IsOwn, last_stays, values, values_rise}
use Rattle.odd_modes.proofs.Layering.{last_among}
use Rattle.odd_modes.proofs.layer.specs_by_key.Goals as goal

pub loop-one-init : goal.loop-one-init
loop-one-init c = ap (λ ss. map (λ s. s.now) ss ++ values c.into_iter-one-iterator.result.rest.items) c.new-specs.ensures.items

pub loop-one-preserved : goal.loop-one-preserved
loop-one-preserved c =
    ap (λ ss. map (λ s. s.now) ss ++ values c.next.new.self.rest.items) c.in_ok-push.ensures.items
    ∙ ap (λ ss. ss ++ values c.next.new.self.rest.items) (map-append (λ s. s.now) c.loop-one.specs.items (c.in-Some.one.value ∷ []))
    ∙ append_assoc (map (λ s. s.now) c.loop-one.specs.items) (c.in-Some.one.value.now ∷ []) (values c.next.new.self.rest.items)
    ∙ ap (λ ks. map (λ s. s.now) c.loop-one.specs.items ++ values ks) (sym c.in-Some.ensures.steps.0)
    ∙ c.loop-one.invariant

pub returns-clause-rising : goal.returns-clause-rising
returns-clause-rising c =
    let sorted = c.sort.new.self.items in
    let rest = c.loop-one.one-iterator.rest in
    let none_left : rest.items ≡ [] = nil_from_length rest.items (sym rest.ok.0 ∙ c.in-None.ensures.steps.0) in
    let all : map (λ s. s.now) c.loop-one.specs.items ≡ values sorted =
    sym (append-nil (map (λ s. s.now) c.loop-one.specs.items)) ∙ ap (λ ks. map (λ s. s.now) c.loop-one.specs.items ++ values ks) (sym none_left) ∙ c.loop-one.invariant
    ∙ ap values c.into_iter-one-iterator.ensures.into_iter_gives.0 in
    let own = All-permutation IsOwn c.in_ok-keyed.keyed.items sorted c.sort.ensures.permutation c.in_ok-keyed.ensures.1 in
    subst AreRising (sym all) (values_rise sorted own c.in_ok-sort.ensures.sorted)

pub returns-clause-last : goal.returns-clause-last
returns-clause-last c = λ key.
    let keyed = c.in_ok-keyed.keyed.items in
    let sorted = c.sort.new.self.items in
    let rest = c.loop-one.one-iterator.rest in
    let none_left : rest.items ≡ [] = nil_from_length rest.items (sym rest.ok.0 ∙ c.in-None.ensures.steps.0) in
    let all : map (λ s. s.now) c.loop-one.specs.items ≡ values sorted =
    sym (append-nil (map (λ s. s.now) c.loop-one.specs.items)) ∙ ap (λ ks. map (λ s. s.now) c.loop-one.specs.items ++ values ks) (sym none_left) ∙ c.loop-one.invariant
    ∙ ap values c.into_iter-one-iterator.ensures.into_iter_gives.0 in
    let own = All-permutation IsOwn keyed sorted c.sort.ensures.permutation c.in_ok-keyed.ensures.1 in
    ap (λ ss. last_of ss key) all ∙ last_stays keyed sorted c.in_ok-keyed.ensures.1 own c.in_ok-sort.ensures.stable key ∙ ap (λ ss. last_of ss key) c.in_ok-keyed.ensures.0
    ∙ last_among c.args.entries.now key
