use Rattle.std.proofs.Common.{◌<◌, ◌+◌, ◌^◌, List, length, rules, arith, refl, sym, subst, ap, Err}
use Rattle.std.proofs.lemmas.Result.{err_from_is_err_and}
use Rattle.compile_defines.specs.Budget.{HasTaken, IsMadeWithin, pattern_elements}
use Rattle.compile_defines.specs.Contents.{listed_in, references_pattern}
use Rattle.compile_defines.proofs.NamedDefines.{defines_exist}
use Rattle.compile_defines.specs.Blocks.{IsConditionDefine, component_defines}
use Rattle.compile_defines.specs.Compiled.{IsGrammarOf, offers_in}
use Rattle.compile_defines.specs.Elements.{HasTakenSet, define_elements}
use Rattle.std.specs.Prelude.{sum_by}
use Rattle.rng_emit.specs.Nodes.{text_nodes}
use Rattle.rng_grammar.specs.declared.grammar.Define.{Define}
use Rattle.compile_core.proofs.AllOffers.{all_offers}
use Rattle.compile_core.proofs.Blocks.{made}
use Rattle.compile_core.proofs.MembersExist.{members_exist}
use Rattle.compile_core.proofs.TooLarge.{large_text, refused_for, text_parts, too_many}
use Rattle.compile_core.proofs.compiling.grammar_within.Goals as goal

pub returns-in_err-before-clause-too_large : goal.returns-in_err-before-clause-too_large
returns-in_err-before-clause-too_large c = λ e holds.
    let library = c.args.library.now in
    let conditions = c.in_ok-conditions.conditions in
    let set = rw c.library-held.ensures.same at c.in_ok-conditions.ensures.set in
    let small : length conditions + 1 < 2 ^ 64 = search rules in
    let exist = members_exist library c.library-held.ensures.unbroken in
    let defines = defines_exist conditions set.rising small in
    let too = refused_for _ c.in_err-before.field-0.0 c.from_residual-in_err-before.ensures.1 e in
    let over = subst (λ r. HasTakenSet (IsConditionDefine conditions) c.take.new.self c.condition_defines.new.budget (Err r)) too c.in_err-before.ensures.taken defines.0 defines.1 in
    large_text library c.args.start.now conditions (rw c.library-held.ensures.same at (c.in_ok-conditions.ensures.rising refl)) holds set exist.0 (offers_in c.offers-offers.result.now) defines.0 exist.1 (all_offers library c.offers-offers.result.now c.offers-offers.ensures) defines.1 (omega (arith, over, c.in_ok-take.ensures.taken))

pub returns-in_err-members-clause-too_large : goal.returns-in_err-members-clause-too_large
returns-in_err-members-clause-too_large c = λ e holds.
    let given = err_from_is_err_and c.from_residual-in_err-members.result c.from_residual-in_err-members.ensures.1 in
    too_many c.args.library.now c.args.start.now c.in_ok-conditions.conditions (offers_in c.offers-offers.result.now) c.in_ok-before.before (rw c.library-held.ensures.same at (c.in_ok-conditions.ensures.rising refl)) c.library-held.ensures.unbroken
    (rw c.library-held.ensures.same at c.in_ok-conditions.ensures.set) (all_offers c.args.library.now c.offers-offers.result.now c.offers-offers.ensures) c.in_ok-before.ensures.set holds (c.in_err-members.ensures.more (cc (given.1, given.2, e)))

pub returns-in_err-start-clause-too_large : goal.returns-in_err-start-clause-too_large
returns-in_err-start-clause-too_large c = λ e holds.
    let wanted = references_pattern c.args.start.now in
    let too = refused_for _ c.in_err-start.field-0.0 c.from_residual-in_err-start.ensures.1 e in
    let over = subst (λ r. IsMadeWithin pattern_elements wanted c.condition_defines.new.budget c.references_pattern.new.budget (Err r)) too c.in_err-start.ensures in
    large_text c.args.library.now c.args.start.now c.in_ok-conditions.conditions (rw c.library-held.ensures.same at (c.in_ok-conditions.ensures.rising refl)) holds (rw c.library-held.ensures.same at c.in_ok-conditions.ensures.set) (listed_in c.in_ok-members.members) (offers_in c.offers-offers.result.now)
    c.in_ok-before.before c.in_ok-members.ensures.members (all_offers c.args.library.now c.offers-offers.result.now c.offers-offers.ensures) c.in_ok-before.ensures.set (omega (arith, over, c.in_ok-take.ensures.taken, c.in_ok-before.ensures.taken))

pub returns-in_err-defines-clause-too_large : goal.returns-in_err-defines-clause-too_large
returns-in_err-defines-clause-too_large c = λ e holds.
    let library = c.args.library.now in
    let conditions = c.in_ok-conditions.conditions in
    let members = listed_in c.in_ok-members.members in
    let offers = offers_in c.offers-offers.result.now in
    let elements = sum_by define_elements (component_defines library conditions members offers) in
    let too = refused_for _ c.in_err-defines.field-0.0 c.from_residual-in_err-defines.ensures.1 e in
    let taken = subst (λ l. HasTaken {X = List Define} (sum_by define_elements (component_defines l conditions members offers)) c.references_pattern.new.budget c.library_defines.new.budget
    (Err c.in_err-defines.field-0.0)) c.library-held.ensures.same c.in_err-defines.ensures.taken in
    let over = subst (λ r. HasTaken {X = List Define} elements c.references_pattern.new.budget c.library_defines.new.budget (Err r)) too taken in
    large_text library c.args.start.now conditions (rw c.library-held.ensures.same at (c.in_ok-conditions.ensures.rising refl)) holds (rw c.library-held.ensures.same at c.in_ok-conditions.ensures.set) members offers c.in_ok-before.before c.in_ok-members.ensures.members
    (all_offers library c.offers-offers.result.now c.offers-offers.ensures) c.in_ok-before.ensures.set (omega (arith, over, c.in_ok-take.ensures.taken, c.in_ok-before.ensures.taken, c.in_ok-start.ensures.1))

pub returns-clause-grammar : goal.returns-clause-grammar
returns-clause-grammar c =
    let grammar = made c.args.library.now c.in_ok-conditions.conditions (listed_in c.in_ok-members.members) (offers_in c.offers-offers.result.now) c.in_ok-before.before
    (rw c.library-held.ensures.same at (c.in_ok-conditions.ensures.rising refl)) c.in_ok-before.ensures.set c.in_ok-members.ensures.members (all_offers c.args.library.now c.offers-offers.result.now c.offers-offers.ensures) c.args.start.now
    (rw c.library-held.ensures.same at c.in_ok-conditions.ensures.set) in
    subst (IsGrammarOf c.args.library.now c.args.start.now) (λ i. record { start = sym c.in_ok-start.ensures.0 i; defines = sym (rw c.library-held.ensures.same at c.in_ok-defines.ensures.defines) i }) grammar

pub returns-clause-within : goal.returns-clause-within
returns-clause-within c =
    let parts = component_defines c.args.library.now c.in_ok-conditions.conditions (listed_in c.in_ok-members.members) (offers_in c.offers-offers.result.now) in
    let whole = ap (λ ds. text_nodes (record { start = c.in_ok-start.start; defines = ds })) (rw c.library-held.ensures.same at c.in_ok-defines.ensures.defines) in
    let text = text_parts c.in_ok-start.start c.in_ok-before.before parts in
    let begins = ap pattern_elements c.in_ok-start.ensures.0 in
    omega (arith, whole, text, begins, c.in_ok-take.ensures.taken, c.in_ok-before.ensures.taken, c.in_ok-start.ensures.1, rw c.library-held.ensures.same at c.in_ok-defines.ensures.taken)
