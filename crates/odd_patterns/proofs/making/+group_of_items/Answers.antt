use Rattle.std.proofs.lemmas.Result.{IfOk-weaker}
use Rattle.odd_patterns.specs.Words.{IsGroupOf, SameWords}
use Rattle.odd_patterns.specs.declared.pattern.Pat.TheVariants.{Group}
use Rattle.odd_patterns.proofs.Pieces.{group_halves, group_of_few}
use Rattle.odd_patterns.proofs.making.+group_of_items.Goals as goal

pub returns-then-count-lt2 : goal.returns-then-count-lt2
returns-then-count-lt2 g t c = group_of_few c.args.items.items c.only.result c.only.ensures

pub returns : goal.returns
returns g t c =
    let p = c.in_ok-left.left in
    let q = c.in_ok-right.right in
    let cut = c.in_ok-rest.ensures in
    IfOk-weaker c.group.result (λ made. SameWords made (Group p q)) (λ made. IsGroupOf c.args.items.items made)
    (λ made one. group_halves c.args.items.items _ _ _ p q made cut.items cut.tail c.in_ok-left.ensures c.in_ok-right.ensures one) c.group.ensures
