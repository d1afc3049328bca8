use Rattle.std.proofs.Common.{◌≡◌, ◌++◌, ◌∷◌, ◌≤◌, [], ap, length, refl, reverse, subst, sym, ◌∙◌}
use Rattle.std.proofs.lemmas.List.{length-map, map-append}
use Rattle.std.proofs.lemmas.Option.{slice_get_past, slice_get_read}
use Rattle.odd_tree.specs.Elements.{all_binds}
use Rattle.odd_items.proofs.Levels.{LeadsOut, made_of, path_ends, path_leaves, path_more, path_starts, path_whole, scopes, turned}
use Rattle.odd_items.proofs.around.bindings_around.Goals.{else-loop-test, then-loop-test+in_default, then-loop-test+in-Some+in_default-2, then-loop-test+in-Some+in_default-2-2}
use Rattle.odd_items.proofs.around.bindings_around.Goals as goal

pub loop-init : goal.loop-init
loop-init c =
    let levels = c.args.levels.now in
    subst (λ items. LeadsOut levels c.args.level c.args.level (scopes items) 0) (sym c.new-path.ensures.items) (path_starts levels c.args.level)

pub loop-preserved : goal.loop-preserved
loop-preserved c =
    let levels = c.args.levels.now in
    let own = c.args.own.now in
    let at = c.in-Some.at in
    let level = c.in-Some-Some.level.now in
    let made = c.in-Some-Some.own.now in
    let path = scopes c.loop.path.items in
    let found = c.in-Some-Some.ensures.lookup in
    let found_own = c.in-Some-Some.ensures'.lookup in
    let here = slice_get_read levels (length levels) at level refl found.3.0 found.1 in
    let same = made_of levels own at level made c.requires here (slice_get_read own (length own) at made refl found_own.3.0 found_own.1) in
    path_more levels c.args.level c.loop.next at level path _ c.loop.index c.in-Some.is here
    (ap scopes c.in_ok-push.ensures.items ∙ map-append (λ s. s.now) c.loop.path.items _ ∙ ap (λ b. path ++ b ∷ []) same) c.loop.invariant

pub returns : goal.returns
returns c = λ around h.
    let levels = c.args.levels.now in
    let path = scopes c.loop.path.items in
    let as_many : length c.args.own.now ≡ length levels = ap length c.requires ∙ length-map levels (λ l. l.binds.now) in
    let whole : all_binds (reverse path) ≡ around =
    elim c.loop-test.branch [
      | else-loop-test w ↦ path_whole levels c.args.level c.loop.next path c.loop.index w.loop-test.false c.loop.invariant around h
      | then-loop-test+in_default w ↦ path_ends levels c.args.level c.loop.next path c.loop.index w.in_default.is c.loop.invariant around h
      | then-loop-test+in-Some+in_default-2 w ↦ path_leaves levels c.args.level c.loop.next w.in-Some.at path c.loop.index w.in-Some.is
          (slice_get_past levels w.in-Some.at (subst (λ n. n ≤ w.in-Some.at) as_many w.in_default-2.ensures'.lookup.3)) c.loop.invariant around h
      | then-loop-test+in-Some+in_default-2-2 w ↦ path_leaves levels c.args.level c.loop.next w.in-Some.at path c.loop.index w.in-Some.is
          (slice_get_past levels w.in-Some.at w.in_default-2.ensures.lookup.3) c.loop.invariant around h
    ] in
    turned c.loop.path.items c.reverse.new.self.items around c.reverse.ensures.items whole
