use Rattle.std.proofs.Common.{◌≡◌, ℕ, ap, arith, length, subst, sym}
use Rattle.std.proofs.lemmas.Result.{IfOk-weaker}
use Rattle.odd_tree.specs.Formed.{IsFormed}
use Rattle.odd_items.specs.Groups.{IsItemIn}
use Rattle.odd_items.specs.Listing.{AreItems}
use Rattle.odd_decls.specs.Aside.{IsReadOf, whole}
use Rattle.odd_decls.specs.Declares.{Declares}
use Rattle.odd_decls.proofs.ReadWith.{declares_with, formed_read, places_left, refused_with}
use Rattle.odd_decls.proofs.reading.read_odd.Goals as goal

pub returns-then-not-aside-clause-ok : goal.returns-then-not-aside-clause-ok
returns-then-not-aside-clause-ok c = λ first end formed.
    let t = c.args.tree.now in
    let is : IsReadOf t c.args.aside t 0 = subst (λ b. IsReadOf t b t 0) (sym c.if-not-aside.true) whole in
    IfOk-weaker c.read_whole.result _ (Declares t c.args.aside) (declares_with t t c.args.aside 0 is) (c.read_whole.ensures.ok first end formed)

pub returns-then-not-aside-clause-offence : goal.returns-then-not-aside-clause-offence
returns-then-not-aside-clause-offence c = λ offence first end formed e.
    let t = c.args.tree.now in
    let is : IsReadOf t c.args.aside t 0 = subst (λ b. IsReadOf t b t 0) (sym c.if-not-aside.true) whole in
    refused_with t t c.args.aside 0 c.args.file offence is (c.read_whole.ensures.offence offence first end formed e)

-- with `aside` a formed file is read as what is left of it
left_read : (c : goal.After-drop-of-6) → (first end : ℕ) → IsFormed first end c.args.tree.now → IsReadOf c.args.tree.now c.args.aside c.in_ok-left.left c.len.result
left_read c first end formed =
    let t = c.args.tree.now in
    let left = c.in_ok-left.left in
    let of = c.in_ok-of.of in
    let are = c.in_ok-of.ensures first end formed in
    let items = subst (λ items. AreItems of.levels.items items (IsItemIn t are.schemas)) (sym c.as_slice.ensures.value) are.items in
    let adds = c.in_ok-places.ensures t are.schemas of.levels.items items in
    let gone = c.in_ok-left.ensures in
    let counted : gone.0 ≡ c.len.result = omega (arith, c.len.ensures, gone.2, ap length c.new-gone.ensures.items) in
    let is = places_left first end t left are.schemas c.in_ok-places.places.keys gone.0 formed are.finds adds gone.1 in
    subst (IsReadOf t c.args.aside left) counted (subst (λ b. IsReadOf t b left gone.0) (sym c.if-not-aside.false) is)

pub returns-clause-ok : goal.returns-clause-ok
returns-clause-ok c = λ first end formed.
    let t = c.args.tree.now in
    let left = c.in_ok-left.left in
    let is = left_read c first end formed in
    IfOk-weaker c.read_whole-2.result _ (Declares t c.args.aside) (declares_with t left c.args.aside c.len.result is)
    (c.read_whole-2.ensures.ok first end (formed_read first end t left c.args.aside c.len.result formed is))

pub returns-clause-offence : goal.returns-clause-offence
returns-clause-offence c = λ offence first end formed e.
    let t = c.args.tree.now in
    let left = c.in_ok-left.left in
    let is = left_read c first end formed in
    refused_with t left c.args.aside c.len.result c.args.file offence is
    (c.read_whole-2.ensures.offence offence first end (formed_read first end t left c.args.aside c.len.result formed is) e)

pub returns-clause-formed : goal.returns-clause-formed
returns-clause-formed c = λ first end formed.
    c.read_whole-2.ensures.formed first end
    (formed_read first end c.args.tree.now c.in_ok-left.left c.args.aside c.len.result formed (left_read c first end formed))
