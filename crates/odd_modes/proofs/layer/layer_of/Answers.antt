use Rattle.std.proofs.Common.{◌≡◌, List, ◌∷◌, [], ap, subst, sym, ◌∙◌, map, take, ◌++◌}
use Rattle.std.proofs.lemmas.List.{reverse-reverse}
use Rattle.std.specs.FinMap.{find, is_sorted}
use Rattle.std.specs.Prelude.{IsTrue}
use Rattle.odd_text.specs.Key.{key_cmp}
use Rattle.odd_text.proofs.Rise.{above_last}
use Rattle.odd_text.specs.Above.{IsAboveLast}
use Rattle.odd_text.proofs.InList.{ends}
use Rattle.odd_text.specs.declared.key.Key.{Key}
use Rattle.odd_library.specs.declared.library.Component.{Component}
use Rattle.odd_modes.specs.After.{spec_at}
use Rattle.odd_modes.specs.Index.{kept_at, put_over}
use Rattle.odd_modes.specs.Layering.{is_at, still_to_put, waiting}
use Rattle.odd_modes.specs.declared.sweeping.Act.TheVariants.{Keep}
use Rattle.odd_modes.proofs.LayerActs.{above_there}
use Rattle.odd_modes.proofs.Layering.{AreActs, none_passed, one_kept, one_left, one_put}
use Rattle.odd_modes.proofs.layer.layer_of.Goals as goal
use Rattle.odd_modes.proofs.layer.layer_of.Goals.{then-not-is_next+then-refer+in_ok-copy+in_ok-push, else-not-is_next, else-not-is_next-via-then-not-is_next+else-refer, else-not-is_next-via-else-not-is_next}

pub loop-key-init : goal.loop-key-init
loop-key-init c =
    let specs = map (λ s. s.now) c.in_ok-specs.specs.items in
    let all : still_to_put c.reverse.new.self.items ≡ specs = ap still_to_put c.reverse.ensures.items ∙ ap (map (λ s. s.now)) (reverse-reverse c.in_ok-specs.specs.items) in
    let begun = none_passed c.args.references.now c.args.entries.now specs c.in_ok-specs.ensures.rising c.in_ok-specs.ensures.last in
    subst (λ layer. AreActs c.args.references.now c.args.entries.now [] layer (still_to_put c.reverse.new.self.items)) (sym c.new-layer.ensures)
    (subst (AreActs c.args.references.now c.args.entries.now [] []) (sym all) begun)

pub push-requires : goal.push-requires
push-requires c =
    let parts = c.entries-key-items.result.now in
    let rising = subst (λ es. IsTrue (is_sorted key_cmp es)) (sym c.entries-key-items.ensures.all) c.entries-key-items.ensures.rising in
    let above = above_there parts c.loop-key.key-index c.loop-key-item.result rising c.loop-key-test.true c.loop-key-item.is in
    let below = c.in_ok-put_below.ensures.below (c.loop-key.invariant.bound c.loop-key-item.result.0 above) in
    subst (IsAboveLast key_cmp c.put_below.new.layer) (sym c.in_ok-copy.ensures) (above_last key_cmp c.put_below.new.layer c.loop-key-item.result.0 below)

pub loop-key-preserved : goal.loop-key-preserved
loop-key-preserved c =
    let refs = c.args.references.now in
    let entries = c.args.entries.now in
    let parts = c.entries-key-items.result.now in
    let i = c.loop-key.key-index in
    let e = c.loop-key-item.result in
    let layer = c.put_below.new.layer in
    let specs = still_to_put c.put_below.new.specs.items in
    let same = c.in_ok-put_below.ensures.same in
    let sorted = subst (λ es. IsTrue (is_sorted key_cmp es)) (sym c.entries-key-items.ensures.all) c.entries-key-items.ensures.rising in
    let above = above_there parts i e sorted c.loop-key-test.true c.loop-key-item.is in
    let below = c.in_ok-put_below.ensures.below (c.loop-key.invariant.bound e.0 above) in
    let rising = subst (λ es. IsTrue (is_sorted key_cmp es)) (sym same) c.loop-key.invariant.rising in
    let acts : (asked : Key) → find key_cmp asked (waiting layer specs) ≡ put_over (spec_at entries asked) (kept_at refs asked (find key_cmp asked (take i parts))) = λ asked. ap (find key_cmp asked) same ∙ c.loop-key.invariant.acts asked in
    let more = sym (ends parts i e c.loop-key-test.true c.loop-key-item.is) in
    let next : c.is_next.result ≡ is_at specs e.0 = c.is_next.ensures ∙ ap (λ ss. is_at (still_to_put ss) e.0) c.as_slice.ensures.value in
    let grown : (passed : List (Key × Component)) → Type 0 = λ passed. AreActs refs entries passed c.if-not-is_next.layer specs in
    elim c.if-not-is_next.branch [
      | then-not-is_next+then-refer+in_ok-copy+in_ok-push w ↦
          let none = sym next ∙ w.if-not-is_next.true in
          let kept = one_kept refs entries (take i parts) e.0 e.1 above layer specs rising acts below c.in_ok-put_below.ensures.rest none (sym w.refer.ensures ∙ w.if-refer.true) in
          let is = w.layer-is ∙ w.in_ok-push.ensures.ok ∙ ap (λ k. layer ++ (k, Keep) ∷ []) w.in_ok-copy.ensures in
          subst grown more (subst (λ l. AreActs refs entries (take i parts ++ e ∷ []) l specs) (sym is) kept)
      | else-not-is_next w ↦
          subst grown more (subst (λ l. AreActs refs entries (take i parts ++ e ∷ []) l specs) (sym w.layer-is) (elim w.else-not-is_next.branch [
            | else-not-is_next-via-then-not-is_next+else-refer w' ↦
                let none = sym next ∙ w'.if-not-is_next.true in
                one_left refs entries (take i parts) e.0 e.1 above layer specs rising acts below c.in_ok-put_below.ensures.rest none (sym w'.refer.ensures ∙ w'.if-refer.false)
            | else-not-is_next-via-else-not-is_next w' ↦
                one_put refs entries (take i parts) e.0 e.1 above layer specs rising acts below (sym next ∙ w'.if-not-is_next.false)
          ]))
    ]
