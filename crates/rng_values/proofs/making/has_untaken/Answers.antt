use Rattle.std.proofs.Common.{◌∙◌, ap, arith, not, refl, subst, sym}
use Rattle.std.proofs.lemmas.Bool.{false≢true}
use Rattle.std.proofs.lemmas.List.Elements.{AllWithin-more, at_read}
use Rattle.rng_types.specs.declared.facet.FacetText.{FacetText}
use Rattle.rng_values.specs.Making.{IsUntaken}
use Rattle.rng_values.proofs.Standing.{one_of}
use Rattle.rng_values.proofs.making.has_untaken.Goals as goal

pub returns-then-not-branch : goal.returns-then-not-branch
returns-then-not-branch c =
    let untaken = c.in_ok-is_taken.ensures.0 (ap not c.if-not-branch.true) in
    (λ h. one_of (IsUntaken c.args.kind) c.args.facets.now c.facet-item.result (c.loop-facet.facet-index, c.loop-facet-test.true, sym c.facet-item.is) untaken, λ h. refl)

pub loop-facet-preserved : goal.loop-facet-preserved
loop-facet-preserved c =
    let Taken : FacetText → Type 0 = λ f. IsUntaken c.args.kind f → ⊥ in
    let taken : Taken c.facet-item.result = λ u. false≢true (sym (ap not c.if-not-branch.false) ∙ c.in_ok-is_taken.ensures.1 u) in
    AllWithin-more Taken c.args.facets.now 0 c.loop-facet.facet-index c.loop-facet.invariant
    (at_read c.args.facets.now Taken c.loop-facet.facet-index c.facet-item.result c.loop-facet-test.true c.facet-item.is taken)

pub returns : goal.returns
returns c =
    (λ h. absurd (false≢true h), λ a. absurd (c.loop-facet.invariant a.0 a.1 (omega arith) (let low = a.2 in omega arith) (subst (IsUntaken c.args.kind) (sym a.3) a.4)))
