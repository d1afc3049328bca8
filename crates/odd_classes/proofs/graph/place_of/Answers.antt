use Rattle.std.proofs.Common.{Err, Ok, rules}
use Rattle.std.proofs.lemmas.Fn.{always_returns_same}
use Rattle.odd_text.proofs.Entries.{searched}
use Rattle.odd_text.specs.Key.{key_cmp}
use Rattle.odd_text.specs.KeyOrder.{key_total}
use Rattle.odd_classes.proofs.Places.{placed_at, unplaced}
use Rattle.odd_classes.proofs.graph.place_of.Goals as goal

pub returns-in-Ok : goal.returns-in-Ok
returns-in-Ok c =
    let key = c.args.key.now in
    let by_key = c.in-Ok.ensures.position (λ e. key_cmp e.0 key) (always_returns_same _ _ _ (λ a r f called. (search rules, search rules))) in
    let at = (searched key_cmp key_total c.args.entries.now c.requires key (Ok c.in-Ok.place) c.in-Ok.ensures.bound by_key).found in
    placed_at c.args.entries.now c.requires key c.in-Ok.place at

pub returns-in-Err : goal.returns-in-Err
returns-in-Err c =
    let key = c.args.key.now in
    let by_key = c.in-Err.ensures.position (λ e. key_cmp e.0 key) (always_returns_same _ _ _ (λ a r f called. (search rules, search rules))) in
    let gap = (searched key_cmp key_total c.args.entries.now c.requires key (Err c.in-Err.field-0) c.in-Err.ensures.bound by_key).absent in
    unplaced c.args.entries.now c.requires key c.in-Err.field-0 gap
