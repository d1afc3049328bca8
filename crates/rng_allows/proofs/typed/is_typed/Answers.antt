use Rattle.std.proofs.Common.{All, refl, sym, subst, ◌∙◌}
use Rattle.std.proofs.lemmas.List.{take_all}
use Rattle.std.proofs.lemmas.List.Elements.{All-get_or, All-more}
use Rattle.std.specs.Str.{chars}
use Rattle.rng_types.specs.declared.facet.Facet.{Facet}
use Rattle.rng_values.specs.Facets.{Meets}
use Rattle.rng_values.specs.Treated.{treated}
use Rattle.rng_allows.proofs.typed.is_typed.Goals as goal

pub returns-then-not-branch : goal.returns-then-not-branch
returns-then-not-branch c =
    let Met : Facet → Type 0 = λ f. Meets f (treated c.args.kind (chars c.args.text.now)) in
    let items = c.as_slice-facet-items.result.now in (
      λ t. absurd cc,
      λ h.
          let all = subst (All Met) (sym c.as_slice-facet-items.ensures) h.1 in
          sym c.if-not-branch.true ∙ c.in_ok-is_met.ensures.1 (subst Met (sym c.facet-item.is) (All-get_or Met items c.loop-facet.facet-index c.facet-item.result c.loop-facet-test.true all)),
    )

pub loop-facet-preserved : goal.loop-facet-preserved
loop-facet-preserved c =
    let Met : Facet → Type 0 = λ f. Meets f (treated c.args.kind (chars c.args.text.now)) in
    let items = c.as_slice-facet-items.result.now in
    All-more Met items c.loop-facet.facet-index c.facet-item.result c.loop-facet-test.true c.loop-facet.invariant (subst Met c.facet-item.is (c.in_ok-is_met.ensures.0 c.if-not-branch.false))

pub returns : goal.returns
returns c =
    let Met : Facet → Type 0 = λ f. Meets f (treated c.args.kind (chars c.args.text.now)) in
    let items = c.as_slice-facet-items.result.now in
    let all : All Met c.args.facets.now = subst (All Met) (take_all c.loop-facet.facet-index items c.loop-facet-test.false ∙ c.as_slice-facet-items.ensures) c.loop-facet.invariant in
    (λ t. (c.fits.ensures.0 c.if-not-fits.false, all), λ h. refl)
