use Rattle.std.proofs.Common.{◌≡◌, ◌∙◌, [], ◌∷◌, ap, sym, rules}
use Rattle.odd_text.specs.declared.key.Kind.TheVariants as kind
use Rattle.compile_defines.specs.Contents.{listed_in}
use Rattle.compile_defines.proofs.PutDefines.{put_refused}
use Rattle.compile_defines.specs.Blocks.{class_defines, listed_defines}
use Rattle.compile_defines.specs.Compiled.{class_define}
use Rattle.compile_defines.proofs.defines.add_classes.Goals as goal

pub returns-in_err-class_define-clause-taken : goal.returns-in_err-class_define-clause-taken
returns-in_err-class_define-clause-taken c =
    let ident = c.loop-key-item.result.0.ident in
    let defines = class_defines (listed_in c.args.members.now) in
    let define = class_define ident c.in-Some.idents.now in
    let class : c.loop-key-item.result.0.kind ≡ kind.Class = search rules in
    let is : defines c.loop-key-item.result ≡ define ∷ [] = (λ i. defines (record { kind = class i; ident = ident }, c.loop-key-item.result.1)) ∙ ap (listed_defines ident) (sym c.in-Some.ensures) in
    put_refused defines c.args.library.now.parts _ c.loop-key.key-index c.loop-key-item.result c.args.defines.now c.loop-key.defines c.entries-key-items.ensures.all c.loop-key-test.true c.loop-key-item.is
    c.loop-key.invariant.pushed define is c.args.budget.now c.loop-key.budget _ c.loop-key.invariant.taken _ c.in_err-class_define.ensures c.from_residual.result c.from_residual.ensures.1
