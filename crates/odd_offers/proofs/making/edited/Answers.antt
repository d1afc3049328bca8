use Rattle.std.proofs.Common.{◌≡◌, [], Some, sym, ap, ◌∙◌}
use Rattle.std.proofs.lemmas.List.{nil_from_length}
use Rattle.std.specs.Prelude.{unwrap_or}
use Rattle.odd_offers.specs.Tables.{own_at}
use Rattle.odd_offers.proofs.OneByOne.{all_put, first_put}
use Rattle.odd_offers.proofs.making.edited.Goals as goal

pub loop-ident-preserved : goal.loop-ident-preserved
loop-ident-preserved c =
    let class = c.args.own.now.class in
    let edit = c.in-Some.edit in
    first_put class c.args.edits _ _ c.args.inherited c.loop-ident.table _ c.in-Some.ident edit c.in_ok-offers.offers c.loop-ident.invariant c.in-Some.ensures.steps.0
    (c.in_ok-offers.ensures ∙ ap (λ o. unwrap_or (own_at class (Some edit) o) []) c.find.ensures) c.in_ok-put.ensures.finds

pub returns : goal.returns
returns c =
    let rest = c.loop-ident.ident-iterator.rest in
    let none_left : rest.items ≡ [] = nil_from_length rest.items (sym rest.ok.0 ∙ c.in-None.ensures.steps.0) in
    all_put c.args.own.now.class c.args.edits rest.items c.args.inherited c.loop-ident.table c.loop-ident.invariant none_left
