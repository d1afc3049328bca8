use Rattle.std.proofs.Common.{◌≡◌, ◌<◌, ◌-◌, arith, length, get_or, Some, subst}
use Rattle.odd_offers.specs.Tables.{Table}
use Rattle.odd_offers.proofs.TableOf.{all_of_few}
use Rattle.odd_offers.proofs.making.united.Goals as goal

pub returns-then-len-lt2 : goal.returns-then-len-lt2
returns-then-len-lt2 c =
    let tables = c.args.tables.items in
    let as_many : c.args.tables.len ≡ length tables = omega (arith, c.args.tables.ok.0) in
    all_of_few tables c.pop.result c.new.result c.unwrap_or.result (omega (arith, c.if-len-lt2.true, c.len.ensures, as_many))
    (λ h. subst (λ n. 0 < n) as_many (c.pop.ensures.variant.0 h))
    (subst (λ n. (d : Table) → 0 < n → c.pop.result ≡ Some (get_or tables (n - 1) d)) as_many c.pop.ensures.value) c.new.ensures c.unwrap_or.ensures
