use Rattle.std.proofs.Common.{rules}
use Rattle.std.proofs.lemmas.Fn.{always_returns_same}
use Rattle.std.specs.Ordering.{is_lt}
use Rattle.odd_text.specs.NameOrder.{name_cmp}
use Rattle.odd_offers.proofs.AlikeNames.{none_rise_alike}
use Rattle.odd_offers.proofs.naming.do_rise.Goals as goal

pub returns : goal.returns
returns c =
    none_rise_alike c.args.names.now c.is_sorted_by.result
    (c.is_sorted_by.ensures.cases (λ a b. is_lt (name_cmp a b)) (always_returns_same _ _ _ (λ a r f called. (search rules, search rules))))
