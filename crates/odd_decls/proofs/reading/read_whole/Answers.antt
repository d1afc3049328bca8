use Rattle.std.proofs.Common.{◌≡◌, sym, subst, ◌∙◌}
use Rattle.odd_decls.specs.Faults.{IsFirstIn}
use Rattle.odd_decls.specs.Offences.{Offends}
use Rattle.odd_decls.proofs.FormedDocs.{formed_doc}
use Rattle.odd_decls.proofs.WholeRead.{none_whole, refusal_whole}
use Rattle.odd_decls.proofs.reading.read_whole.Goals as goal

pub returns-in-Some-clause-offence : goal.returns-in-Some-clause-offence
returns-in-Some-clause-offence c offence first end formed e =
    let t = c.args.tree.now in
    let are = c.in_ok-of.ensures first end formed in
    let fault = c.in-Some.fault in
    let told : c.in_file.result ≡ offence = cc in
    refusal_whole t are.schemas c.args.file fault offence are.finds (subst (IsFirstIn (Offends t are.schemas)) c.in-Some.is (c.in_ok-fault.ensures t first end formed are)) (sym c.in_file.ensures ∙ told)

pub returns-clause-ok : goal.returns-clause-ok
returns-clause-ok c first end formed =
    let t = c.args.tree.now in
    let are = c.in_ok-of.ensures first end formed in
    c.in_ok-doc_of-in-None.ensures t first end formed are
    (none_whole t are.schemas are.finds (subst (IsFirstIn (Offends t are.schemas)) c.in-None.is (c.in_ok-fault.ensures t first end formed are)))

pub returns-clause-formed : goal.returns-clause-formed
returns-clause-formed c first end formed = formed_doc first end c.args.tree.now c.in_ok-doc_of-in-None.field-0 formed (returns-clause-ok c first end formed).0
