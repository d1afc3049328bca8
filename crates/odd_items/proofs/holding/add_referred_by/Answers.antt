use Rattle.std.proofs.Common.{◌≡◌, Some, refl, arith}
use Rattle.std.specs.BTreeMap.{get}
use Rattle.odd_text.specs.Text.{text_cmp}
use Rattle.odd_tree.specs.Elements.{children_of}
use Rattle.odd_items.specs.Arrows.{RefersAmong}
use Rattle.odd_items.proofs.Grown.{grown_one}
use Rattle.odd_items.proofs.holding.add_referred_by.Goals as goal

pub returns-in_ok-push_referred : goal.returns-in_ok-push_referred
returns-in_ok-push_referred c =
    grown_one c.args.arrows.now.items c.args.holder c.in-Some.list.now c.push_referred.new.list (RefersAmong (λ id first. get text_cmp c.args.ids.now.by_id id ≡ Some first) (children_of c.args.tree.now))
    (omega (arith, c.in-Some.ensures.variant.0 refl)) c.in-Some.ensures.value c.in_ok-push_referred.ensures
