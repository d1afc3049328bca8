use Rattle.std.proofs.Common.{◌∙◌, [], ◌∷◌, ◌++◌, ap, sym, arith}
use Rattle.std.proofs.lemmas.List.Sums.{sum_by-append, sum_by-cons}
use Rattle.std.specs.Option.{option_copied}
use Rattle.std.specs.Prelude.{sum_by}
use Rattle.compile_defines.specs.Contents.{listed_in}
use Rattle.compile_defines.proofs.OffersHeld.{defines_here, element_listed}
use Rattle.compile_defines.proofs.PutDefines.{put_more, put_refused}
use Rattle.compile_defines.specs.Blocks.{element_defines}
use Rattle.compile_defines.specs.Compiled.{offers_in}
use Rattle.compile_defines.specs.Elements.{define_elements}
use Rattle.compile_defines.proofs.defines.add_elements.Goals as goal

pub unreachable-requires : goal.unreachable-requires
unreachable-requires c =
    element_listed c.args.library.now c.args.offers.now _ c.loop-key.key-index c.loop-key-item.result c.requires.offers c.entries-key-items.ensures.rising c.entries-key-items.ensures.all c.loop-key-test.true
    c.loop-key-item.is c.in-Element-Element.is-0 (sym c.of.ensures ∙ ap option_copied c.in_default-of.is)

pub returns-in_err-define-clause-taken : goal.returns-in_err-define-clause-taken
returns-in_err-define-clause-taken c =
    let library = c.args.library.now in
    let conditions = c.args.conditions.now in
    let members = listed_in c.args.members.now in
    let here = c.in-Element-Element in
    let is = defines_here library conditions members c.args.offers.now c.loop-key-item.result here.part c.in-Some.givens.now here.is-0 here.is-1 c.in-Some.ensures in
    put_refused (element_defines library conditions members (offers_in c.args.offers.now)) library.parts _ c.loop-key.key-index c.loop-key-item.result c.args.defines.now c.loop-key.defines c.entries-key-items.ensures.all
    c.loop-key-test.true c.loop-key-item.is c.loop-key.invariant.pushed _ is c.args.budget.now c.loop-key.budget _ c.loop-key.invariant.taken _ c.in_err-define.ensures c.from_residual.result c.from_residual.ensures.1

pub loop-key-preserved : goal.loop-key-preserved
loop-key-preserved c =
    let library = c.args.library.now in
    let conditions = c.args.conditions.now in
    let members = listed_in c.args.members.now in
    let here = c.in-Element-Element in
    let before = c.loop-key.defines in
    let made = c.in_ok-define.define in
    let is = defines_here library conditions members c.args.offers.now c.loop-key-item.result here.part c.in-Some.givens.now here.is-0 here.is-1 c.in-Some.ensures in
    let next = c.in_ok-push.ensures.ok ∙ (λ j. before ++ c.in_ok-define.ensures.0 j ∷ []) ∙ ap (λ ds. before ++ ds) (sym is) in
    let put = ap (sum_by define_elements) c.in_ok-push.ensures.ok ∙ sum_by-append define_elements before (made ∷ []) in
    let last = sum_by-cons define_elements made [] in
    let size = ap define_elements c.in_ok-define.ensures.0 in
    record {
      pushed = put_more (element_defines library conditions members (offers_in c.args.offers.now)) library.parts _ c.loop-key.key-index c.loop-key-item.result c.args.defines.now before _ c.entries-key-items.ensures.all
          c.loop-key-test.true c.loop-key-item.is c.loop-key.invariant.pushed next;
      taken = omega (arith, c.in_ok-define.ensures.1);
    }
