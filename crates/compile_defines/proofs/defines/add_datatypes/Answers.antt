use Rattle.std.proofs.Common.{◌≡◌, [], ◌∷◌}
use Rattle.compile_defines.proofs.PutDefines.{put_refused}
use Rattle.compile_defines.specs.Blocks.{datatype_defines}
use Rattle.compile_defines.specs.Compiled.{datatype_define}
use Rattle.compile_defines.proofs.defines.add_datatypes.Goals as goal

pub returns-in_err-datatype_define-clause-taken : goal.returns-in_err-datatype_define-clause-taken
returns-in_err-datatype_define-clause-taken c =
    let library = c.args.library.now in
    let ident = c.loop-key-item.result.0.ident in
    let define = datatype_define ident c.in-Datatype-Datatype.part in
    let is : datatype_defines c.loop-key-item.result ≡ define ∷ [] = λ i. datatype_defines (record { kind = c.in-Datatype-Datatype.is-0 i; ident = ident }, c.in-Datatype-Datatype.is-1 i) in
    put_refused datatype_defines library.parts _ c.loop-key.key-index c.loop-key-item.result c.args.defines.now c.loop-key.defines c.entries-key-items.ensures.all c.loop-key-test.true c.loop-key-item.is
    c.loop-key.invariant.pushed define is c.args.budget.now c.loop-key.budget _ c.loop-key.invariant.taken _ c.in_err-datatype_define.ensures c.from_residual.result c.from_residual.ensures.1
