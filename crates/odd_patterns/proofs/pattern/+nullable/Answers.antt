use Rattle.odd_patterns.proofs.Derivatives.{choice_else, choice_then, group_else, group_then, more_part}
use Rattle.odd_patterns.proofs.pattern.+nullable.Goals as goal

pub returns-then-nullable : goal.returns-then-nullable
returns-then-nullable g t c = λ takes.
    choice_then takes c.args.pat.now c.in-Choice.left c.in-Choice.right c.get.result.now c.nullable.result c.in-Choice.is c.get.ensures c.if-nullable.true (c.nullable.ensures takes)

pub returns-else-nullable : goal.returns-else-nullable
returns-else-nullable g t c = λ takes.
    choice_else takes c.args.pat.now c.in-Choice.left c.in-Choice.right c.get.result.now c.get-else-nullable.result.now c.nullable.result c.nullable-else-nullable.result
    c.in-Choice.is c.get.ensures c.get-else-nullable.ensures c.if-nullable.false (c.nullable.ensures takes) (c.nullable-else-nullable.ensures takes)

pub returns-then-nullable-2 : goal.returns-then-nullable-2
returns-then-nullable-2 g t c = λ takes.
    group_then takes c.args.pat.now c.in-Group.left c.in-Group.right c.get-in-Group.result.now c.get-then-nullable-2.result.now c.nullable-in-Group.result c.nullable-then-nullable-2.result
    c.in-Group.is c.get-in-Group.ensures c.get-then-nullable-2.ensures c.if-nullable-2.true (c.nullable-in-Group.ensures takes) (c.nullable-then-nullable-2.ensures takes)

pub returns-else-nullable-2 : goal.returns-else-nullable-2
returns-else-nullable-2 g t c = λ takes.
    group_else takes c.args.pat.now c.in-Group.left c.in-Group.right c.get-in-Group.result.now c.nullable-in-Group.result
    c.in-Group.is c.get-in-Group.ensures c.if-nullable-2.false (c.nullable-in-Group.ensures takes)

pub returns-in-More : goal.returns-in-More
returns-in-More g t c = λ takes.
    more_part takes c.args.pat.now c.in-More.part c.get-in-More.result.now c.nullable-in-More.result c.in-More.is c.get-in-More.ensures (c.nullable-in-More.ensures takes)
