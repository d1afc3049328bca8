use Rattle.std.proofs.Common.{rules, ◌∙◌, ◌+◌, ◌<◌, [], length, sym, subst, arith}
use Rattle.odd_pool.specs.Pattern.{Fits}
use Rattle.odd_pool.specs.Pool.{pattern_at}
use Rattle.odd_pool.specs.declared.walk.Way.{Way}
use Rattle.odd_pool.specs.Left.{Begun, HasOneMore, IsWalk}
use Rattle.odd_pool.proofs.Begin.{begin_choice, begin_leaf, begin_more, begin_pass, begin_stop}
use Rattle.odd_pool.proofs.Kept.{at_grown, grows_length, grows_twice}
use Rattle.odd_pool.proofs.Walks.{begun_seen, walk_added, walk_grown, walk_marked}
use Rattle.odd_pool.proofs.Members.{on_ok}
use Rattle.odd_pool.proofs.pool.Pool.+begin.Goals as goal

pub begin-returns-then-has-clause-begun : goal.begin-returns-then-has-clause-begun
begin-returns-then-has-clause-begun g t c =
    let way : Way = record { at = c.args.at; rest = c.args.rest } in
    begun_seen (g.A.Alphabet.admits c.args.alphabet.now) c.args.symbol.now c.args.self.now c.args.walk.now.members.keys c.args.walk.now.ways.keys way c.requires.walk (c.has.ensures c.if-has.true)

pub begin-returns-clause-walk : goal.begin-returns-clause-walk
begin-returns-clause-walk g t c =
    let admits = g.A.Alphabet.admits c.args.alphabet.now in
    let s = c.args.symbol.now in
    let now = c.enter.new.self in
    let way : Way = record { at = c.args.at; rest = c.args.rest } in
    let members = c.enter.new.walk.members.keys in
    let old = c.enter.new.walk.ways.keys in
    let new = c.mark.new.self.ways.keys in
    on_ok c.mark.result (HasOneMore old new way) (IsWalk admits s now c.mark.new.self.members.keys new)
    (λ more. subst (λ is. IsWalk admits s now is new) (sym c.mark.ensures.members)
    (walk_marked admits s now c.args.walk.now.members.keys members old new way c.in_ok-enter.ensures.begun more c.in_ok-enter.ensures.walk))
    c.mark.ensures.ways

pub begin-returns-clause-begun : goal.begin-returns-clause-begun
begin-returns-clause-begun g t c =
    let admits = g.A.Alphabet.admits c.args.alphabet.now in
    let s = c.args.symbol.now in
    let now = c.enter.new.self in
    let way : Way = record { at = c.args.at; rest = c.args.rest } in
    let before = c.args.walk.now.members.keys in
    on_ok c.mark.result (HasOneMore c.enter.new.walk.ways.keys c.mark.new.self.ways.keys way) (Begun admits s now c.args.at c.args.rest before c.mark.new.self.members.keys)
    (λ _. subst (λ is. Begun admits s now c.args.at c.args.rest before is) (sym c.mark.ensures.members) c.in_ok-enter.ensures.begun) c.mark.ensures.ways

pub enter-returns-then-takes-clause-walk : goal.enter-returns-then-takes-clause-walk
enter-returns-then-takes-clause-walk g t c =
    let admits = g.A.Alphabet.admits c.args.alphabet.now in
    let s = c.args.symbol.now in
    let now = c.args.self.now in
    let old = c.args.walk.now.members.keys in
    let new = c.add.new.self.members.keys in
    on_ok c.add.result (HasOneMore old new c.args.rest) (IsWalk admits s now new c.add.new.self.ways.keys)
    (λ more. subst (λ ws. IsWalk admits s now new ws) (sym c.add.ensures.ways) (walk_added admits s now old new c.args.walk.now.ways.keys c.args.rest c.requires.rest more c.requires.walk)) c.add.ensures.members

pub enter-returns-then-takes-clause-begun : goal.enter-returns-then-takes-clause-begun
enter-returns-then-takes-clause-begun g t c =
    let admits = g.A.Alphabet.admits c.args.alphabet.now in
    let s = c.args.symbol.now in
    let now = c.args.self.now in
    let old = c.args.walk.now.members.keys in
    let new = c.add.new.self.members.keys in
    on_ok c.add.result (HasOneMore old new c.args.rest) (Begun admits s now c.args.at c.args.rest old new)
    (λ more. begin_leaf admits s now c.args.at c.args.rest c.in-Leaf.leaf old new c.in-Leaf.ensures.reads (sym c.takes.ensures ∙ c.if-takes.true) more) c.add.ensures.members

pub enter-returns-in_ok-begin-in-Choice-clause-begun : goal.enter-returns-in_ok-begin-in-Choice-clause-begun
enter-returns-in_ok-begin-in-Choice-clause-begun g t c =
    let admits = g.A.Alphabet.admits c.args.alphabet.now in
    let s = c.args.symbol.now in
    let first = c.args.self.now in
    let mid = c.begin.new.self in
    let now = c.begin-in-Choice.new.self in
    let old = c.args.walk.now.members.keys in
    let one = c.begin.new.walk.members.keys in
    let new = c.begin-in-Choice.new.walk.members.keys in
    let p = c.in-Choice.left in
    let q = c.in-Choice.right in
    let more = c.begin-in-Choice.ensures.kept in
    let grown = grows_twice first mid now c.in_ok-begin-in-Choice.ensures.kept more in
    on_ok c.begin-in-Choice.result (Begun admits s now q c.args.rest one new) (Begun admits s now c.args.at c.args.rest old new)
    (λ b. begin_choice admits s now c.args.at c.args.rest p q mid old one new (λ ps h. c.in-Choice.ensures.reads ps (grows_twice first now ps grown h)) more c.in_ok-begin-in-Choice.ensures.begun b)
    c.begin-in-Choice.ensures.begun

pub enter-returns-then-nullable-clause-begun : goal.enter-returns-then-nullable-clause-begun
enter-returns-then-nullable-clause-begun g t c =
    let admits = g.A.Alphabet.admits c.args.alphabet.now in
    let s = c.args.symbol.now in
    let first = c.args.self.now in
    let joined = c.join.new.self in
    let mid = c.begin-in-Group.new.self in
    let now = c.begin-then-nullable.new.self in
    let old = c.args.walk.now.members.keys in
    let one = c.begin-in-Group.new.walk.members.keys in
    let new = c.begin-then-nullable.new.walk.members.keys in
    let p = c.in-Group.left in
    let q = c.in-Group.right in
    let behind = c.in_ok-behind-in-Group.behind in
    let a = c.in_ok-behind-in-Group.ensures.kept in
    let b = c.in_ok-begin-in-Group.ensures.kept in
    let d = c.begin-then-nullable.ensures.kept in
    let to_mid = grows_twice first joined mid a b in
    let from_joined = grows_twice joined mid now b d in
    let grown = grows_twice first mid now to_mid d in
    let below = c.in-Group.ensures.below.0 in
    let at_first = c.requires.at in
    let in_first : p < length first = omega arith in
    let in_mid = grows_length first mid p to_mid in_first in
    let has = (c.nullable.ensures admits).0 c.if-nullable.true in
    on_ok c.begin-then-nullable.result (Begun admits s now q c.args.rest one new) (Begun admits s now c.args.at c.args.rest old new)
    (λ e. begin_pass admits s now c.args.at c.args.rest p q behind mid old one new (λ ps h. c.in-Group.ensures.reads ps (grows_twice first now ps grown h))
    (λ ps h. c.in_ok-behind-in-Group.ensures.stands admits ps (grows_twice joined now ps from_joined h))
    (λ ps h. subst (λ x. Fits admits x []) (sym (at_grown mid ps (grows_twice mid now ps d h) p in_mid)) has)
    d c.in_ok-begin-in-Group.ensures.begun e)
    c.begin-then-nullable.ensures.begun

pub enter-returns-else-nullable-clause-begun : goal.enter-returns-else-nullable-clause-begun
enter-returns-else-nullable-clause-begun g t c =
    let admits = g.A.Alphabet.admits c.args.alphabet.now in
    let s = c.args.symbol.now in
    let first = c.args.self.now in
    let joined = c.join.new.self in
    let mid = c.begin-in-Group.new.self in
    let old = c.args.walk.now.members.keys in
    let one = c.begin-in-Group.new.walk.members.keys in
    let p = c.in-Group.left in
    let q = c.in-Group.right in
    let behind = c.in_ok-behind-in-Group.behind in
    let a = c.in_ok-behind-in-Group.ensures.kept in
    let b = c.in_ok-begin-in-Group.ensures.kept in
    let to_mid = grows_twice first joined mid a b in
    let below = c.in-Group.ensures.below.0 in
    let at_first = c.requires.at in
    let in_first : p < length first = omega arith in
    let in_mid = grows_length first mid p to_mid in_first in
    let lacks : Fits admits (pattern_at mid p) [] → ⊥ = λ m. let has = (c.nullable.ensures admits).1 m in let not_so = c.if-nullable.false in cc in
    begin_stop admits s mid c.args.at c.args.rest p q behind old one (λ ps h. c.in-Group.ensures.reads ps (grows_twice first mid ps to_mid h))
    (λ ps h. c.in_ok-behind-in-Group.ensures.stands admits ps (grows_twice joined mid ps b h))
    (λ ps h m. lacks (subst (λ x. Fits admits x []) (at_grown mid ps h p in_mid) m))
    c.in_ok-begin-in-Group.ensures.begun

pub enter-returns-in_ok-behind-in-More-clause-begun : goal.enter-returns-in_ok-behind-in-More-clause-begun
enter-returns-in_ok-behind-in-More-clause-begun g t c =
    let admits = g.A.Alphabet.admits c.args.alphabet.now in
    let s = c.args.symbol.now in
    let first = c.args.self.now in
    let joined = c.again.new.self in
    let now = c.begin-in-More.new.self in
    let old = c.args.walk.now.members.keys in
    let new = c.begin-in-More.new.walk.members.keys in
    let p = c.in-More.part in
    let behind = c.in_ok-behind-in-More.behind in
    let a = c.in_ok-behind-in-More.ensures.kept in
    let b = c.begin-in-More.ensures.kept in
    let grown = grows_twice first joined now a b in
    on_ok c.begin-in-More.result (Begun admits s now p behind old new) (Begun admits s now c.args.at c.args.rest old new)
    (λ e. begin_more admits s now c.args.at c.args.rest p behind old new (λ ps h. c.in-More.ensures.reads ps (grows_twice first now ps grown h))
    (λ ps h. c.in_ok-behind-in-More.ensures.stands admits ps (grows_twice joined now ps b h)) e)
    c.begin-in-More.ensures.begun

pub enter-begin-requires-in-Group : goal.enter-begin-requires-in-Group
enter-begin-requires-in-Group g t c κs within =
    let first = c.args.self.now in
    let joined = c.join.new.self in
    let kept = c.in_ok-behind-in-Group.ensures.kept in
    let part = c.in-Group.left in
    let below = c.in-Group.ensures.below.0 in
    let at_first = c.requires.at in
    let in_first : part < length first = omega arith in
    let here : part < length joined = grows_length first joined part kept in_first in
    let less : part + part + 1 < c.args.at + c.args.at = omega arith in
    let then_ : c.in_ok-behind-in-Group.behind < length joined = c.in_ok-behind-in-Group.ensures.within in
    let walk = walk_grown (g.A.Alphabet.admits c.args.alphabet.now) c.args.symbol.now first joined c.args.walk.now.members.keys c.args.walk.now.ways.keys kept c.requires.walk in
    search (rules, less, here, then_, walk)

pub enter-begin-requires-in-More : goal.enter-begin-requires-in-More
enter-begin-requires-in-More g t c κs within =
    let first = c.args.self.now in
    let joined = c.again.new.self in
    let kept = c.in_ok-behind-in-More.ensures.kept in
    let part = c.in-More.part in
    let below = c.in-More.ensures.below in
    let at_first = c.requires.at in
    let in_first : part < length first = omega arith in
    let here : part < length joined = grows_length first joined part kept in_first in
    let less : part + part + 1 < c.args.at + c.args.at = omega arith in
    let then_ : c.in_ok-behind-in-More.behind < length joined = c.in_ok-behind-in-More.ensures.within in
    let walk = walk_grown (g.A.Alphabet.admits c.args.alphabet.now) c.args.symbol.now first joined c.args.walk.now.members.keys c.args.walk.now.ways.keys kept c.requires.walk in
    search (rules, less, here, then_, walk)
