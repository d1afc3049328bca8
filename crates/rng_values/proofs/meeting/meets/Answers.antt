use Rattle.std.proofs.Common.{◌≡◌, ◌∙◌, ◌↔◌, true, sym, ap, subst}
use Rattle.std.specs.Prelude.{IsTrue}
use Rattle.std.specs.Str.{chars}
use Rattle.rng_values.specs.Facets.{AreInOrder, has_order, takes_facet}
use Rattle.rng_values.specs.Trimmed.{IsTrimmed}
use Rattle.rng_values.proofs.Asked.{greatest_met, least_met, whole_text}
use Rattle.rng_values.proofs.meeting.meets.Goals as goal

pub is_up_to-requires-clause-other : goal.is_up_to-requires-clause-other
is_up_to-requires-clause-other c =
    let ordered : has_order c.args.kind ≡ true = ap (takes_facet c.args.kind) (sym c.in-MinInclusive.is) ∙ c.requires.formed.taken in
    whole_text c.args.kind (chars c.args.text.now) _ ordered c.requires.fits (subst (λ bytes. IsTrimmed (chars bytes) (chars c.trimmed.result.now)) c.as_str-in-MinInclusive.ensures c.trimmed.ensures)

pub is_up_to-requires-in-MaxInclusive-clause-one : goal.is_up_to-requires-in-MaxInclusive-clause-one
is_up_to-requires-in-MaxInclusive-clause-one c =
    let ordered : has_order c.args.kind ≡ true = ap (takes_facet c.args.kind) (sym c.in-MaxInclusive.is) ∙ c.requires.formed.taken in
    whole_text c.args.kind (chars c.args.text.now) _ ordered c.requires.fits
    (subst (λ bytes. IsTrimmed (chars bytes) (chars c.trimmed-in-MaxInclusive.result.now)) c.as_str-in-MaxInclusive.ensures c.trimmed-in-MaxInclusive.ensures)

pub returns-in-MinInclusive : goal.returns-in-MinInclusive
returns-in-MinInclusive c =
    let ordered : has_order c.args.kind ≡ true = ap (takes_facet c.args.kind) (sym c.in-MinInclusive.is) ∙ c.requires.formed.taken in
    least_met c.args.kind c.args.facet.now (chars c.args.text.now) (chars c.trimmed.result.now) c.is_up_to.result c.in-MinInclusive.is ordered
    (subst (λ bytes. IsTrimmed (chars bytes) (chars c.trimmed.result.now)) c.as_str-in-MinInclusive.ensures c.trimmed.ensures)
    (subst (λ bytes. IsTrue c.is_up_to.result ↔ AreInOrder (chars bytes) (chars c.trimmed.result.now)) c.as_str.ensures c.is_up_to.ensures)

pub returns-in-MaxInclusive : goal.returns-in-MaxInclusive
returns-in-MaxInclusive c =
    let ordered : has_order c.args.kind ≡ true = ap (takes_facet c.args.kind) (sym c.in-MaxInclusive.is) ∙ c.requires.formed.taken in
    greatest_met c.args.kind c.args.facet.now (chars c.args.text.now) (chars c.trimmed-in-MaxInclusive.result.now) c.is_up_to-in-MaxInclusive.result c.in-MaxInclusive.is ordered
    (subst (λ bytes. IsTrimmed (chars bytes) (chars c.trimmed-in-MaxInclusive.result.now)) c.as_str-in-MaxInclusive.ensures c.trimmed-in-MaxInclusive.ensures)
    (subst (λ bytes. IsTrue c.is_up_to-in-MaxInclusive.result ↔ AreInOrder (chars c.trimmed-in-MaxInclusive.result.now) (chars bytes)) c.as_str-in-MaxInclusive-2.ensures c.is_up_to-in-MaxInclusive.ensures)
