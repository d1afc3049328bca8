use Rattle.std.proofs.Common.{sym, subst, ap, ◌∙◌, refl}
use Rattle.std.specs.FinMap.{put}
use Rattle.odd_text.specs.Map.{IsAt, IsGap}
use Rattle.odd_text.proofs.Entries.{written, inserted, put_sets, put_rises}
use Rattle.odd_text.proofs.map.Map.put.Goals as goal

pub invariant_of-self : goal.invariant_of-self
invariant_of-self g c =
    let es = c.self.inside.entries.items in
    let at = subst (λ xs. IsAt g.K.Ord.cmp c.args.key xs c.in-Ok.at) (c.entries.ensures.all ∙ sym c.self.view_is) c.in-Ok.ensures.found in
    put_rises g.K.Ord.cmp g.met.K.Ord.total c.args.key c.args.value es _ c.self.invariant
    (written g.K.Ord.cmp g.met.K.Ord.total c.args.key c.args.value es _ c.in-Ok.at c.index_mut.result.now at c.index_mut.ensures.value refl)

pub returns-in-Ok-clause-ok : goal.returns-in-Ok-clause-ok
returns-in-Ok-clause-ok g c =
    let es = c.self.inside.entries.items in
    let at = subst (λ xs. IsAt g.K.Ord.cmp c.args.key xs c.in-Ok.at) (c.entries.ensures.all ∙ sym c.self.view_is) c.in-Ok.ensures.found in
    written g.K.Ord.cmp g.met.K.Ord.total c.args.key c.args.value es _ c.in-Ok.at c.index_mut.result.now at c.index_mut.ensures.value refl
    ∙ ap (put g.K.Ord.cmp c.args.key c.args.value) c.self.view_is

pub returns-in-Ok-clause-finds : goal.returns-in-Ok-clause-finds
returns-in-Ok-clause-finds g c = put_sets g.K.Ord.cmp g.met.K.Ord.total c.args.key c.args.value c.args.self.now _ (returns-in-Ok-clause-ok g c)

pub invariant_of-self-in-Err : goal.invariant_of-self-in-Err
invariant_of-self-in-Err g c =
    let es = c.self.inside.entries.items in
    let gap = subst (λ xs. IsGap g.K.Ord.cmp c.args.key xs c.in-Err.at) (c.entries.ensures.all ∙ sym c.self.view_is) c.in-Err.ensures.absent in
    put_rises g.K.Ord.cmp g.met.K.Ord.total c.args.key c.args.value es _ c.self.invariant
    (inserted g.K.Ord.cmp g.met.K.Ord.total c.args.key c.args.value es _ c.in-Err.at gap c.in_ok-insert-in-Err.ensures.items)

pub returns-in_ok-insert-in-Err-clause-ok : goal.returns-in_ok-insert-in-Err-clause-ok
returns-in_ok-insert-in-Err-clause-ok g c =
    let es = c.self.inside.entries.items in
    let gap = subst (λ xs. IsGap g.K.Ord.cmp c.args.key xs c.in-Err.at) (c.entries.ensures.all ∙ sym c.self.view_is) c.in-Err.ensures.absent in
    inserted g.K.Ord.cmp g.met.K.Ord.total c.args.key c.args.value es _ c.in-Err.at gap c.in_ok-insert-in-Err.ensures.items
    ∙ ap (put g.K.Ord.cmp c.args.key c.args.value) c.self.view_is

pub returns-in_ok-insert-in-Err-clause-finds : goal.returns-in_ok-insert-in-Err-clause-finds
returns-in_ok-insert-in-Err-clause-finds g c = put_sets g.K.Ord.cmp g.met.K.Ord.total c.args.key c.args.value c.args.self.now _ (returns-in_ok-insert-in-Err-clause-ok g c)

pub returns-in-Ok-clause-rising : goal.returns-in-Ok-clause-rising
returns-in-Ok-clause-rising g c = invariant_of-self g c

pub returns-in_ok-insert-in-Err-clause-rising : goal.returns-in_ok-insert-in-Err-clause-rising
returns-in_ok-insert-in-Err-clause-rising g c = invariant_of-self-in-Err g c
