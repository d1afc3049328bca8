use Rattle.std.proofs.Common.{map, rules, arith}
use Rattle.odd_meaning.specs.Naming.{element_name}
use Rattle.compile_defines.proofs.Taking.{making_refused}
use Rattle.compile_defines.specs.Budget.{pattern_elements}
use Rattle.compile_defines.specs.Contents.{content_pattern, define_name, listed_in}
use Rattle.compile_defines.proofs.RuleElements.{element_elements}
use Rattle.compile_defines.specs.Compiled.{element_define, offers_of, rule_of}
use Rattle.compile_defines.specs.Elements.{define_elements, rules_elements}
use Rattle.compile_defines.proofs.defines.element_define.Goals as goal

pub returns-in_err-rules : goal.returns-in_err-rules
returns-in_err-rules c =
    let library = c.args.library.now in
    let conditions = c.args.conditions.now in
    let members = listed_in c.args.members.now in
    let ident = c.args.ident.now in
    let part = c.args.part.now in
    let offers = offers_of c.args.givens.now in
    let size = element_elements (define_name ident) (element_name ident part) (map rule_of offers) (content_pattern library conditions members part.content) in
    making_refused define_elements (element_define library conditions members offers ident part) (rules_elements (map rule_of offers)) c.args.budget.now c.take.new.self _
    (λ less. omega (arith, c.in_ok-take.ensures.taken))
    _ c.in_err-rules.ensures c.from_residual-in_err-rules.result c.from_residual-in_err-rules.ensures.1

pub returns-in_err-content : goal.returns-in_err-content
returns-in_err-content c =
    let library = c.args.library.now in
    let conditions = c.args.conditions.now in
    let members = listed_in c.args.members.now in
    let ident = c.args.ident.now in
    let part = c.args.part.now in
    let offers = offers_of c.args.givens.now in
    let content = content_pattern library conditions members part.content in
    let size = element_elements (define_name ident) (element_name ident part) (map rule_of offers) content in
    making_refused define_elements (element_define library conditions members offers ident part) (pattern_elements content) c.args.budget.now c.rules_of.new.budget _
    (λ less. omega (arith, c.in_ok-take.ensures.taken, c.in_ok-rules.ensures.1))
    _ c.in_err-content.ensures c.from_residual-in_err-content.result c.from_residual-in_err-content.ensures.1

pub returns : goal.returns
returns c =
    let library = c.args.library.now in
    let part = c.args.part.now in
    let ident = c.args.ident.now in
    let content = content_pattern library c.args.conditions.now (listed_in c.args.members.now) part.content in
    let size = element_elements (define_name ident) (element_name ident part) (map rule_of (offers_of c.args.givens.now)) content in
    (search rules, omega (arith, c.in_ok-take.ensures.taken, c.in_ok-rules.ensures.1, c.in_ok-content.ensures.1))
