use Rattle.std.specs.Option.{is_some}
use Rattle.odd_offers.specs.Same.{datatype_test, option_test, text_test, vals_test}
use Rattle.odd_offers.proofs.Lists.{told}
use Rattle.odd_offers.proofs.TestsTold.{bools_told}
use Rattle.odd_offers.proofs.telling.DefPartPart.are_alike.Goals as goal

pub returns-in-Alt : goal.returns-in-Alt
returns-in-Alt c = rw c.in-Alt.is (told (option_test text_test) c.same_option.result c.args.one.now.alt c.args.other.now.alt c.same_option.ensures)

pub returns-in-Ns : goal.returns-in-Ns
returns-in-Ns c = rw c.in-Ns.is (told (option_test text_test) c.same_option-in-Ns.result c.args.one.now.ns c.args.other.now.ns c.same_option-in-Ns.ensures)

pub returns-in-Needed : goal.returns-in-Needed
returns-in-Needed c = rw c.in-Needed.is (bools_told c.args.one.now.needed c.args.other.now.needed)

pub returns-in-Datatype : goal.returns-in-Datatype
returns-in-Datatype c =
    rw c.in-Datatype.is (told (option_test datatype_test) c.same_option-in-Datatype.result c.args.one.now.datatype c.args.other.now.datatype c.same_option-in-Datatype.ensures)

pub returns-in-Values : goal.returns-in-Values
returns-in-Values c =
    rw c.in-Values.is (told (option_test vals_test) c.same_option-in-Values.result c.args.one.now.vals c.args.other.now.vals c.same_option-in-Values.ensures)

pub returns-in-HasValues : goal.returns-in-HasValues
returns-in-HasValues c =
    rw c.in-HasValues.is (rw c.is_some.ensures (rw c.is_some-in-HasValues.ensures (bools_told (is_some c.args.one.now.vals) (is_some c.args.other.now.vals))))
