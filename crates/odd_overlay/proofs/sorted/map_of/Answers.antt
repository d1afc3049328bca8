use Rattle.std.proofs.Common.{◌≡◌, [], ◌∷◌, ◌++◌, append_assoc, sym, ap, subst, ◌∙◌}
use Rattle.std.specs.FinMap.{is_sorted}
use Rattle.odd_text.proofs.Entries.{as_T}
use Rattle.odd_overlay.proofs.Ordered.{put_last}
use Rattle.odd_overlay.proofs.sorted.map_of.Goals as goal

pub loop-key-preserved : goal.loop-key-preserved
loop-key-preserved g c =
    let made = c.loop-key.made in
    let rest = c.next.new.self in
    let all = ap (λ es. made ++ es) (sym c.in-Some.ensures.steps) ∙ c.loop-key.invariant in
    let up = as_T _ (subst (λ es. is_sorted g.K.Ord.cmp es ≡ _) (sym all) c.requires) in
    ap (λ es. es ++ rest) (c.in_ok-put.ensures.ok ∙ put_last g.K.Ord.cmp g.met.K.Ord.total _ _ made rest up) ∙ append_assoc made (_ ∷ []) rest ∙ all
