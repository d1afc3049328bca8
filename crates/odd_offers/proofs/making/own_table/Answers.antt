use Rattle.std.proofs.Common.{◌≡◌, sym, ap, subst, ◌∙◌}
use Rattle.std.proofs.lemmas.Result.{IfOk-weaker}
use Rattle.odd_text.specs.Text.{text_cmp}
use Rattle.odd_overlay.specs.Overlaid.{zipped}
use Rattle.odd_meaning.specs.Offering.{edits_of}
use Rattle.odd_offers.specs.Tables.{IsOwnTable, own_at}
use Rattle.odd_offers.proofs.TableOf.{own_zipped}
use Rattle.odd_offers.proofs.making.own_table.Goals as goal

pub returns : goal.returns
returns c =
    let ident = c.args.ident.now in
    let inherited = c.args.inherited in
    let edits = edits_of c.args.part.now in
    IfOk-weaker c.zipped_maps.result (λ made. made ≡ zipped text_cmp (own_at c.in_ok-copy.field-0) c.into_map-edits.result inherited) (IsOwnTable ident edits inherited)
    (λ made e. subst (IsOwnTable ident edits inherited)
    (sym (e ∙ ap (λ k. zipped text_cmp (own_at k) c.into_map-edits.result inherited) c.in_ok-copy.ensures
    ∙ ap (λ es. zipped text_cmp (own_at ident) es inherited) (c.into_map-edits.ensures ∙ c.in_ok-copy-2.ensures ∙ c.in-Some.ensures)))
    (own_zipped ident edits inherited))
    c.zipped_maps.ensures
