use Rattle.std.proofs.Common.{◌≡◌, [], ◌∷◌}
use Rattle.compile_defines.specs.Contents.{listed_in}
use Rattle.compile_defines.proofs.PutDefines.{put_refused}
use Rattle.compile_defines.specs.Blocks.{macro_defines}
use Rattle.compile_defines.specs.Compiled.{macro_define}
use Rattle.compile_defines.proofs.defines.add_macros.Goals as goal

pub returns-in_err-define-clause-taken : goal.returns-in_err-define-clause-taken
returns-in_err-define-clause-taken c =
    let library = c.args.library.now in
    let members = listed_in c.args.members.now in
    let ident = c.loop-key-item.result.0.ident in
    let defines = macro_defines library c.args.conditions.now members in
    let define = macro_define library c.args.conditions.now members ident c.in-Macro-Macro.part in
    let is : defines c.loop-key-item.result ≡ define ∷ [] = λ i. defines (record { kind = c.in-Macro-Macro.is-0 i; ident = ident }, c.in-Macro-Macro.is-1 i) in
    put_refused defines library.parts _ c.loop-key.key-index c.loop-key-item.result c.args.defines.now c.loop-key.defines c.entries-key-items.ensures.all c.loop-key-test.true c.loop-key-item.is
    c.loop-key.invariant.pushed define is c.args.budget.now c.loop-key.budget _ c.loop-key.invariant.taken _ c.in_err-define.ensures c.from_residual.result c.from_residual.ensures.1
