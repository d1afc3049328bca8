use Rattle.std.proofs.Common.{Err, IsTrue, Ok, ap, rules, subst, sym, ◌∙◌}
use Rattle.std.proofs.lemmas.Fn.{always_returns_same}
use Rattle.std.specs.FinMap.{find, is_sorted}
use Rattle.odd_text.proofs.Entries.{find_at, find_gap, searched}
use Rattle.odd_text.specs.Key.{key_cmp}
use Rattle.odd_text.specs.KeyOrder.{key_total}
use Rattle.odd_text.specs.declared.key.Key.{Key}
use Rattle.odd_library.proofs.library.Library.find_by.Goals as goal

pub returns-in-Ok : goal.returns-in-Ok
returns-in-Ok c =
    let key : Key = record { kind = c.args.kind; ident = c.args.ident.now } in
    let entries = c.entries-entries.result.now in
    let rising = subst (λ es. IsTrue (is_sorted key_cmp es)) (sym c.entries-entries.ensures.all) c.entries-entries.ensures.rising in
    let by_key = c.in-Ok.ensures.position (λ e. key_cmp e.0 key) (always_returns_same _ _ _ (λ a r f called. (search rules, search rules))) in
    let at = (searched key_cmp key_total entries rising key (Ok c.in-Ok.at) c.in-Ok.ensures.bound by_key).found in
    sym (find_at key_cmp key_total key entries c.in-Ok.at c.index-entries-at.result at.within at.after (at.here c.index-entries-at.result))
    ∙ ap (find key_cmp key) c.entries-entries.ensures.all

pub returns-in-Err : goal.returns-in-Err
returns-in-Err c =
    let key : Key = record { kind = c.args.kind; ident = c.args.ident.now } in
    let entries = c.entries-entries.result.now in
    let rising = subst (λ es. IsTrue (is_sorted key_cmp es)) (sym c.entries-entries.ensures.all) c.entries-entries.ensures.rising in
    let by_key = c.in-Err.ensures.position (λ e. key_cmp e.0 key) (always_returns_same _ _ _ (λ a r f called. (search rules, search rules))) in
    let gap = (searched key_cmp key_total entries rising key (Err c.in-Err.field-0) c.in-Err.ensures.bound by_key).absent in
    sym (ap (find key_cmp key) (sym c.entries-entries.ensures.all) ∙ find_gap key_cmp key_total key entries c.in-Err.field-0 gap)
