use Rattle.std.proofs.Common.{◌≡◌, ℕ, List, Some}
use Rattle.std.specs.BTreeMap.{get}
use Rattle.odd_text.specs.Text.{text_cmp}
use Rattle.odd_tree.specs.Elements.{children_of}
use Rattle.odd_items.proofs.Referring.{ToCome, all_pushed, child_passed}
use Rattle.odd_items.proofs.holding.push_referred.Goals as goal

pub loop-child-preserved : goal.loop-child-preserved
loop-child-preserved c =
    let First : List ℕ → ℕ → Type 0 = λ id first. get text_cmp c.args.ids.now.by_id id ≡ Some first in
    child_passed First c.loop-child.list _ _ _ c.in-Some.child.now (ToCome First c.args.list.now (children_of c.args.tree.now)) c.loop-child.invariant c.in-Some.ensures.steps c.in_ok-push_place.ensures

pub returns : goal.returns
returns c =
    let First : List ℕ → ℕ → Type 0 = λ id first. get text_cmp c.args.ids.now.by_id id ≡ Some first in
    all_pushed First c.loop-child.list _ (ToCome First c.args.list.now (children_of c.args.tree.now)) c.loop-child.invariant c.in-None.ensures.steps.0
