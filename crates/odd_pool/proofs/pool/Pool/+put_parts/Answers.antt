use Rattle.std.proofs.Common.{◌≡◌, ap, ◌∙◌, Some, slice_get}
use Rattle.std.proofs.lemmas.Result.{IfOk-weaker}
use Rattle.odd_pool.specs.Pattern.{shape}
use Rattle.odd_pool.specs.Pool.{kind_pattern}
use Rattle.odd_pool.specs.declared.node.Kind.TheVariants as kind
use Rattle.odd_pool.proofs.Shapes.{put_choice, put_group, put_more}
use Rattle.odd_pool.proofs.pool.Pool.+put_parts.Goals as goal

pub returns-in_ok-right-in-Choice-clause-at : goal.returns-in_ok-right-in-Choice-clause-at
returns-in_ok-right-in-Choice-clause-at g t c =
    let first = c.put_parts.new.self in
    let both = c.put_parts-in-Choice.new.self in
    let i = c.in_ok-left-in-Choice.left in
    let j = c.in_ok-right-in-Choice.right in
    IfOk-weaker c.place-in-Choice.result
    (λ at. slice_get c.place-in-Choice.new.self at ≡ Some (kind_pattern both (kind.Choice i j)))
    (λ at. slice_get c.place-in-Choice.new.self at ≡ Some (shape c.args.pat.now))
    (λ at e. e ∙ ap Some (put_choice c.args.pat.now c.in-Choice.left c.in-Choice.right c.get.result.now c.get-in-Choice.result.now first both i j c.in-Choice.is c.get.ensures c.get-in-Choice.ensures
    c.in_ok-left-in-Choice.ensures.at c.in_ok-right-in-Choice.ensures.kept c.in_ok-right-in-Choice.ensures.at))
    c.place-in-Choice.ensures.at

pub returns-in_ok-right-in-Group-clause-at : goal.returns-in_ok-right-in-Group-clause-at
returns-in_ok-right-in-Group-clause-at g t c =
    let first = c.put_parts-in-Group.new.self in
    let both = c.put_parts-in-Group-2.new.self in
    let i = c.in_ok-left-in-Group.left in
    let j = c.in_ok-right-in-Group.right in
    IfOk-weaker c.place-in-Group.result
    (λ at. slice_get c.place-in-Group.new.self at ≡ Some (kind_pattern both (kind.Group i j)))
    (λ at. slice_get c.place-in-Group.new.self at ≡ Some (shape c.args.pat.now))
    (λ at e. e ∙ ap Some (put_group c.args.pat.now c.in-Group.left c.in-Group.right c.get-in-Group.result.now c.get-in-Group-2.result.now first both i j c.in-Group.is c.get-in-Group.ensures c.get-in-Group-2.ensures
    c.in_ok-left-in-Group.ensures.at c.in_ok-right-in-Group.ensures.kept c.in_ok-right-in-Group.ensures.at))
    c.place-in-Group.ensures.at

pub returns-in_ok-part-in-More-clause-at : goal.returns-in_ok-part-in-More-clause-at
returns-in_ok-part-in-More-clause-at g t c =
    let first = c.put_parts-in-More.new.self in
    let i = c.in_ok-part-in-More.part in
    IfOk-weaker c.place-in-More.result
    (λ at. slice_get c.place-in-More.new.self at ≡ Some (kind_pattern first (kind.More i)))
    (λ at. slice_get c.place-in-More.new.self at ≡ Some (shape c.args.pat.now))
    (λ at e. e ∙ ap Some (put_more c.args.pat.now c.in-More.part c.get-in-More.result.now first i c.in-More.is c.get-in-More.ensures c.in_ok-part-in-More.ensures.at))
    c.place-in-More.ensures.at
