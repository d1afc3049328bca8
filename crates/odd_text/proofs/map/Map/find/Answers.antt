use Rattle.std.proofs.Common.{ap, sym, subst, ◌∙◌, Some}
use Rattle.std.specs.FinMap.{find}
use Rattle.odd_text.specs.Map.{IsAt, IsGap}
use Rattle.odd_text.proofs.Entries.{find_at, find_gap}
use Rattle.odd_text.proofs.map.Map.find.Goals as goal

pub returns-in-Ok : goal.returns-in-Ok
returns-in-Ok g c =
    let es = c.self.inside.entries.items in
    let at = subst (λ xs. IsAt g.K.Ord.cmp c.args.key.now xs c.in-Ok.at) (c.entries.ensures.all ∙ sym c.self.view_is) c.in-Ok.ensures.found in
    ap (λ e. Some e.1) c.index.ensures
    ∙ sym (find_at g.K.Ord.cmp g.met.K.Ord.total c.args.key.now es c.in-Ok.at c.index.result.now at.within at.after (at.here c.index.result.now))
    ∙ ap (find g.K.Ord.cmp c.args.key.now) c.self.view_is

pub returns-in-Err : goal.returns-in-Err
returns-in-Err g c =
    let gap = subst (λ xs. IsGap g.K.Ord.cmp c.args.key.now xs c.in-Err.field-0) c.entries.ensures.all c.in-Err.ensures.absent in
    sym (find_gap g.K.Ord.cmp g.met.K.Ord.total c.args.key.now c.args.self.now c.in-Err.field-0 gap)
