use Rattle.std.proofs.Common.{[], ◌∷◌, All, arith, subst, sym}
use Rattle.std.proofs.lemmas.List.Elements.{All-append, All-cons, All-nil, All-rest}
use Rattle.rng_allows.proofs.Rows.{list_formed}
use Rattle.rng_allows.specs.Formed.{IsFormedValue}
use Rattle.odd_cases.proofs.allowing.list.Goals as goal

pub loop-leaf-preserved : goal.loop-leaf-preserved
loop-leaf-preserved c =
    let leaf = c.in-Some.leaf in
    let old = c.loop-leaf.leaf-iterator.rest.items in
    let rest = c.next.new.self.rest.items in
    let is = c.in-Some.ensures.steps.0 in
    let one = All-cons IsFormedValue leaf [] (subst (All IsFormedValue) is c.loop-leaf.invariant.left 0 leaf (omega arith)) (All-nil IsFormedValue) in
    record {
      made = subst (All IsFormedValue) (sym c.in_ok-push.ensures.ok) (All-append IsFormedValue c.loop-leaf.leaves (leaf ∷ []) c.loop-leaf.invariant.made one);
      left = All-rest IsFormedValue leaf rest old is c.loop-leaf.invariant.left;
    }

pub returns-clause-made : goal.returns-clause-made
returns-clause-made c = list_formed c.loop-leaf.leaves c.in_ok-pat.pat c.loop-leaf.invariant.made
