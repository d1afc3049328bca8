use Rattle.std.proofs.Common.{Err, refl, sym, ap}
use Rattle.odd_classes.proofs.OnCycles.{first_class, first_datatype, first_macro, none_breaks}
use Rattle.odd_classes.proofs.cycles.acyclic.Goals as goal

pub returns-in_err-classes-clause-first : goal.returns-in_err-classes-clause-first
returns-in_err-classes-clause-first c = λ key rule is.
    let came = ap Err (sym (rw is at c.from_residual.ensures.1)) in
    rw (c.in_err-classes.ensures.rule key rule came) (first_class c.args.library.now key (c.in_err-classes.ensures.first key rule came))

pub returns-in_err-macros-clause-first : goal.returns-in_err-macros-clause-first
returns-in_err-macros-clause-first c = λ key rule is.
    let came = ap Err (sym (rw is at c.from_residual-in_err-macros.ensures.1)) in
    rw (c.in_err-macros.ensures.rule key rule came)
    (first_macro c.args.library.now (c.in_ok-classes.ensures.none refl) key (c.in_err-macros.ensures.first key rule came))

pub returns-in_err-acyclic_by-clause-first : goal.returns-in_err-acyclic_by-clause-first
returns-in_err-acyclic_by-clause-first c = λ key rule is.
    let came = ap Err (sym (rw is at c.from_residual-in_err-acyclic_by.ensures.1)) in
    rw (c.in_err-acyclic_by.ensures.rule key rule came)
    (first_datatype _ (c.in_ok-classes.ensures.none refl) (c.in_ok-macros.ensures.none refl) key (c.in_err-acyclic_by.ensures.first key rule came))

pub returns-clause-none : goal.returns-clause-none
returns-clause-none c = λ ok. none_breaks _ (c.in_ok-classes.ensures.none refl) (c.in_ok-macros.ensures.none refl) (c.in_ok-acyclic_by.ensures.none refl)
