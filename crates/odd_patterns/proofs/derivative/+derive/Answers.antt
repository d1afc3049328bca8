use Rattle.std.proofs.Common.{◌≡◌, [], subst}
use Rattle.std.proofs.lemmas.Result.{IfOk-weaker}
use Rattle.odd_patterns.specs.Words.{IsLeft, Matches, SameWords}
use Rattle.odd_patterns.specs.declared.pattern.Pat.TheVariants.{Choice, Group}
use Rattle.odd_patterns.proofs.Derivatives.{choice_left, group_left, group_left_by_both, more_left}
use Rattle.odd_patterns.proofs.derivative.+derive.Goals as goal

pub returns-in_ok-right-in-Choice : goal.returns-in_ok-right-in-Choice
returns-in_ok-right-in-Choice g t c =
    let takes = g.A.Alphabet.admits c.args.alphabet.now in
    let s = c.args.symbol.now in
    let d = c.in_ok-left-in-Choice.left in
    let e = c.in_ok-right-in-Choice.right in
    let first = subst (λ y. IsLeft takes y s d) c.get.ensures c.in_ok-left-in-Choice.ensures in
    let last = subst (λ y. IsLeft takes y s e) c.get-in-Choice.ensures c.in_ok-right-in-Choice.ensures in
    IfOk-weaker c.choice.result (λ made. SameWords made (Choice d e)) (λ made. IsLeft takes c.args.pat.now s made)
    (λ made one. choice_left takes s c.args.pat.now c.in-Choice.left c.in-Choice.right d e made c.in-Choice.is first last one)
    c.choice.ensures.words

pub returns-in_ok-passed-in-Group : goal.returns-in_ok-passed-in-Group
returns-in_ok-passed-in-Group g t c =
    let takes = g.A.Alphabet.admits c.args.alphabet.now in
    let s = c.args.symbol.now in
    let d = c.in_ok-begun-in-Group.begun in
    let b = c.in_ok-begun-in-Group-2.begun in
    let e = c.in_ok-passed-in-Group.passed in
    let first = subst (λ y. IsLeft takes y s d) c.get-in-Group.ensures c.in_ok-begun-in-Group.ensures in
    let rest = subst (λ y. c.in_ok-rest-in-Group.rest ≡ y) c.get-in-Group-2.ensures c.in_ok-rest-in-Group.ensures in
    let none = subst (λ y. Matches takes y []) c.get-in-Group-3.ensures ((c.nullable.ensures takes).0 c.if-nullable.true) in
    let last = subst (λ y. IsLeft takes y s e) c.get-then-nullable.ensures c.in_ok-passed-in-Group.ensures in
    IfOk-weaker c.choice-then-nullable.result (λ made. SameWords made (Choice b e)) (λ made. IsLeft takes c.args.pat.now s made)
    (λ made two. group_left_by_both takes s c.args.pat.now c.in-Group.left c.in-Group.right d c.in_ok-rest-in-Group.rest b e made
    c.in-Group.is first rest none c.in_ok-begun-in-Group-2.ensures last two)
    c.choice-then-nullable.ensures.words

pub returns-else-nullable : goal.returns-else-nullable
returns-else-nullable g t c =
    let takes = g.A.Alphabet.admits c.args.alphabet.now in
    let s = c.args.symbol.now in
    let d = c.in_ok-begun-in-Group.begun in
    let first = subst (λ y. IsLeft takes y s d) c.get-in-Group.ensures c.in_ok-begun-in-Group.ensures in
    let rest = subst (λ y. c.in_ok-rest-in-Group.rest ≡ y) c.get-in-Group-2.ensures c.in_ok-rest-in-Group.ensures in
    let none = subst (λ y. Matches takes y [] → ⊥) c.get-in-Group-3.ensures (λ m. let yes = (c.nullable.ensures takes).1 m in cc) in
    group_left takes s c.args.pat.now c.in-Group.left c.in-Group.right d c.in_ok-rest-in-Group.rest c.in_ok-begun-in-Group-2.begun
    c.in-Group.is first rest none c.in_ok-begun-in-Group-2.ensures

pub returns-in_ok-rest-in-More : goal.returns-in_ok-rest-in-More
returns-in_ok-rest-in-More g t c =
    let takes = g.A.Alphabet.admits c.args.alphabet.now in
    let s = c.args.symbol.now in
    let d = c.in_ok-begun-in-More.begun in
    let r = c.in_ok-rest-in-More.rest in
    let first = subst (λ y. IsLeft takes y s d) c.get-in-More.ensures c.in_ok-begun-in-More.ensures in
    let again = subst (λ y. c.in_ok-again-in-More.again ≡ y) c.get-in-More-2.ensures c.in_ok-again-in-More.ensures in
    IfOk-weaker c.group-in-More.result (λ made. SameWords made (Group d r)) (λ made. IsLeft takes c.args.pat.now s made)
    (λ made three. more_left takes s c.args.pat.now c.in-More.part d c.in_ok-again-in-More.again c.in_ok-again-in-More-2.again r made
    c.in-More.is first again c.in_ok-again-in-More-2.ensures c.in_ok-rest-in-More.ensures.words three)
    c.group-in-More.ensures
