use Rattle.std.proofs.Common.{rules, sym, subst}
use Rattle.odd_reader.specs.Tagging.{AreAttributesFirst, IsAttributeFirst}
use Rattle.odd_reader.proofs.TaggingProofs.{attribute_shorter, one_more}
use Rattle.odd_reader.proofs.simple_tags.TagReader.attributes.Goals as goal

pub attributes-smaller : goal.attributes-smaller
attributes-smaller c =
    let a : IsAttributeFirst c.attributes.rest.now c.in-Ok-Some.attr c.in-Ok-Some.left.now = rw c.in-Ok-Some.field-0-is at c.in-Ok-Some.ensures in
    attribute_shorter c.attributes.rest.now c.in-Ok-Some.attr c.in-Ok-Some.left.now a

pub attributes-preserved : goal.attributes-preserved
attributes-preserved c =
    let a : IsAttributeFirst c.attributes.rest.now c.in-Ok-Some.attr c.in-Ok-Some.left.now = rw c.in-Ok-Some.field-0-is at c.in-Ok-Some.ensures in (
      search rules,
      subst (λ xs. AreAttributesFirst c.args.text.now xs c.in-Ok-Some.left.now) (sym c.in_ok-push-in-Ok-Some.ensures.ok)
          (one_more c.args.text.now c.attributes.attrs c.in-Ok-Some.attr c.attributes.rest.now c.in-Ok-Some.left.now c.attributes.invariant.1 a),
    )
