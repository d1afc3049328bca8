use Rattle.std.proofs.Common.{cond, ◌≡◌, ◌+◌, ℕ, List, Some, None, sym, ap, ◌∙◌, subst, arith}
use Rattle.std.proofs.lemmas.List.{length-map}
use Rattle.std.specs.BTreeMap.{get, is_at}
use Rattle.std.specs.Borrow.{Bor}
use Rattle.std.specs.Map.{lookup}
use Rattle.std.specs.Option.{option_copied}
use Rattle.odd_text.specs.Least.{IsLeast}
use Rattle.odd_text.specs.Text.{text_cmp}
use Rattle.odd_items.specs.Ids.{HasId, id_of}
use Rattle.odd_items.proofs.Placed.{groups_seen, group_at, nothing_first, nothing_again, first_put, again_put, first_there, again_held, again_new, is_again, first_unnamed, again_unnamed, all_first, all_again, is_missing, is_there, IsFirstBefore, IsAgainBefore}
use Rattle.odd_items.proofs.ids.ids_of.Goals.{in-Some+then-is_none+in_ok-copy+in_ok-insert, in-Some+else-is_none+then-is_none-2, in-Some+else-is_none+else-is_none-2, in_default}
use Rattle.odd_items.proofs.ids.ids_of.Goals as goal

pub loop-place-init : goal.loop-place-init
loop-place-init c =
    let groups = groups_seen c.args.groups.now in
    let none : (id : List ℕ) → get text_cmp c.new-by_id.result id ≡ None = λ id. ap (λ entries. lookup (is_at (text_cmp id)) entries) c.new-by_id.ensures.empty in
    (λ id. subst (IsFirstBefore groups 0 id) (sym (none id)) (nothing_first groups id), nothing_again groups)

pub loop-place-preserved : goal.loop-place-preserved
loop-place-preserved c =
    let groups = groups_seen c.args.groups.now in
    let place = c.loop-place.place in
    let before = c.loop-place.invariant in
    let held = c.loop-place.by_id in
    let at = group_at c.args.groups.now place c.index-groups-place.result c.loop-place-test.true c.index-groups-place.is in
    let has : (id : Bor (List ℕ)) → c.id_of.result ≡ Some id → HasId groups id.now place = λ id is. (c.index-groups-place.result.now, at, sym c.id_of.ensures ∙ ap option_copied is) in
    elim c.match-id_of.branch [
      | in-Some+then-is_none+in_ok-copy+in_ok-insert w ↦
          let id = w.in-Some.id.now in
          let same = w.in_ok-copy.ensures in
          let missing : get text_cmp held id ≡ None = sym w.get.ensures.value ∙ ap option_copied (is_missing w.get.result w.if-is_none.ensures) in
          let none = subst (IsFirstBefore groups place id) missing (before.0 id) in
          let here = has w.in-Some.id w.in-Some.is in
          rw (w.by_id-is, w.again-is) (
            λ other. subst (IsFirstBefore groups (place + 1) other) (sym (w.in_ok-insert.ensures.updates.0 other ∙ ap (λ key. cond (is_at (text_cmp key) other) (Some place) (get text_cmp held other)) same)) (first_put groups place id other (get text_cmp held other) here none (before.0 other)),
            again_put groups place id c.loop-place.again here none before.1,
          )
      | in-Some+else-is_none+then-is_none-2 w ↦
          let id = w.in-Some.id.now in
          let there = is_there w.get.result w.if-is_none.ensures in
          let found : get text_cmp held id ≡ Some there.0.now = sym w.get.ensures.value ∙ ap option_copied there.1 in
          let here = has w.in-Some.id w.in-Some.is in
          let again = is_again groups place id there.0.now here (subst (IsFirstBefore groups place id) found (before.0 id)) in
          rw (w.by_id-is, w.again-is) (
            first_there groups place id (get text_cmp held) there.0.now here found before.0,
            again_new groups place again (subst (IsLeast (IsAgainBefore groups place)) (is_missing c.loop-place.again w.if-is_none-2.ensures) before.1),
          )
      | in-Some+else-is_none+else-is_none-2 w ↦
          let id = w.in-Some.id.now in
          let there = is_there w.get.result w.if-is_none.ensures in
          let found : get text_cmp held id ≡ Some there.0.now = sym w.get.ensures.value ∙ ap option_copied there.1 in
          let here = has w.in-Some.id w.in-Some.is in
          let had = is_there c.loop-place.again w.if-is_none-2.ensures in
          rw (w.by_id-is, w.again-is) (
            first_there groups place id (get text_cmp held) there.0.now here found before.0,
            subst (IsLeast (IsAgainBefore groups (place + 1))) (sym had.1) (again_held groups place had.0 (subst (IsLeast (IsAgainBefore groups place)) had.1 before.1)),
          )
      | in_default w ↦
          let none : id_of c.index-groups-place.result.now ≡ None = sym c.id_of.ensures ∙ ap option_copied w.in_default.is in
          rw (w.by_id-is, w.again-is) (
            λ id. first_unnamed groups place c.index-groups-place.result.now id (get text_cmp held id) at none (before.0 id),
            again_unnamed groups place c.index-groups-place.result.now c.loop-place.again at none before.1,
          )
    ]

pub returns-clause-first : goal.returns-clause-first
returns-clause-first c = λ id.
    all_first (groups_seen c.args.groups.now) c.loop-place.place id (get text_cmp c.loop-place.by_id id) (omega (arith, length-map c.args.groups.now (λ g. g.now), c.loop-place-test.false)) (c.loop-place.invariant.0 id)

pub returns-clause-again : goal.returns-clause-again
returns-clause-again c =
    all_again (groups_seen c.args.groups.now) c.loop-place.place c.loop-place.again (omega (arith, length-map c.args.groups.now (λ g. g.now), c.loop-place-test.false)) c.loop-place.invariant.1
