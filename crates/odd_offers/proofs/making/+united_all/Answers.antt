use Rattle.std.proofs.Common.{◌≡◌, ◌++◌, List, arith}
use Rattle.std.proofs.lemmas.List.{nil_from_length}
use Rattle.std.proofs.lemmas.Result.{IfOk-weaker}
use Rattle.odd_offers.specs.Tables.{HaveAll, Table, united}
use Rattle.odd_offers.proofs.Lists.{cut_apart, one_item}
use Rattle.odd_offers.proofs.TableOf.{all_of_both, all_of_none, all_of_one}
use Rattle.odd_offers.proofs.making.+united_all.Goals as goal

pub returns-in-empty : goal.returns-in-empty
returns-in-empty n c = all_of_none c.args.tables.now c.new.result (nil_from_length c.args.tables.now (omega (arith, c.in-empty.len_below))) c.new.ensures

pub returns-in-len1 : goal.returns-in-len1
returns-in-len1 n c =
    IfOk-weaker c.copy.result (λ made. made ≡ c.table-item.result) (HaveAll c.args.tables.now)
    (λ made e. all_of_one c.args.tables.now c.table-item.result made (one_item c.args.tables.now c.table-item.result c.in-len1.len_at_least c.in-len1.len_below c.table-item.is) e)
    c.copy.ensures

pub returns-in_ok-other-in_default : goal.returns-in_ok-other-in_default
returns-in_ok-other-in_default n c =
    let front : List Table = c.split_at.result.0.now in
    let back : List Table = c.split_at.result.1.now in
    let one = c.in_ok-one-in_default.one in
    let other = c.in_ok-other-in_default.other in
    let whole : c.args.tables.now ≡ front ++ back = cut_apart _ c.args.tables.now front back c.split_at.ensures.front c.split_at.ensures.back in
    IfOk-weaker c.zipped_maps.result (λ made. made ≡ united one other) (HaveAll c.args.tables.now)
    (λ made e. all_of_both front back c.args.tables.now one other made whole c.in_ok-one-in_default.ensures c.in_ok-other-in_default.ensures e)
    c.zipped_maps.ensures
