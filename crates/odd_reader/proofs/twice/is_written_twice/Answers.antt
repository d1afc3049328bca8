use Rattle.std.proofs.Common.{◌≡◌, ◌<◌, false, List, [], ◌∷◌, length, map, refl, arith}
use Rattle.odd_reader.specs.Resolving.{is_written_same, some_twice}
use Rattle.odd_tokens.specs.declared.token.WrittenAttr.{WrittenAttr}
use Rattle.odd_reader.proofs.twice.is_written_twice.Goals as goal

-- none of fewer than two names stands twice
few_once : (attrs : List WrittenAttr) → length attrs < 2 → false ≡ some_twice is_written_same (map (λ (a : WrittenAttr). a.name) attrs)
few_once [] few = refl
few_once (a ∷ []) few = refl
few_once (a ∷ (b ∷ rest)) few = absurd (omega (arith, few))

pub returns-then-len-lt2 : goal.returns-then-len-lt2
returns-then-len-lt2 c = let few : length c.args.attrs.now < 2 = omega arith in few_once c.args.attrs.now few
