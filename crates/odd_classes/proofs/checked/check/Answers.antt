use Rattle.std.proofs.Common.{◌≡◌, ℕ, Err, refl, sym, ap}
use Rattle.odd_text.specs.declared.key.Key.{Key}
use Rattle.odd_classes.specs.Placing.{as_library}
use Rattle.odd_classes.specs.declared.cycles.CycleRefusal.{CycleRefusal}
use Rattle.odd_classes.specs.declared.cycles.CycleRefusal.TheVariants as cycle
use Rattle.odd_classes.specs.declared.rules.LibraryRefusal.TheVariants as refusal
use Rattle.odd_classes.proofs.FirstOfAll.{before_classes, before_cycles, before_data, before_datatypes, before_offers, first_of_all, none_at_all, none_at_first}
use Rattle.odd_classes.proofs.checked.check.Goals as goal

pub returns-in_err-check_names-clause-first : goal.returns-in_err-check_names-clause-first
returns-in_err-check_names-clause-first c = λ key rule is.
    let came = ap Err (sym (rw is at c.from_residual.ensures.1)) in
    first_of_all _ 11 11 (none_at_first _) key rule (c.in_err-check_names.ensures.first key rule came)

pub returns-in_err-check_names-2-clause-first : goal.returns-in_err-check_names-2-clause-first
returns-in_err-check_names-2-clause-first c = λ key rule is.
    let came = ap Err (sym (rw is at c.from_residual-in_err-check_names-2.ensures.1)) in
    first_of_all _ 12 12 (before_datatypes _ (c.in_ok-check_names.ensures.none refl)) key rule (c.in_err-check_names-2.ensures.first key rule came)

-- an offence that a cycle was is that cycle
was_loop : (from : CycleRefusal) (key : Key) (rule : ℕ) → refusal.Rule key rule ≡ as_library from → from ≡ cycle.Loop key rule
was_loop (cycle.Loop other others) key rule is = cc
was_loop cycle.NoMemory key rule is = cc

pub returns-in_err-graphs-clause-first : goal.returns-in_err-graphs-clause-first
returns-in_err-graphs-clause-first c = λ key rule is.
    let came = ap Err (was_loop _ key rule (rw is at c.from_residual-in_err-graphs.ensures.1)) in
    first_of_all _ 13 14 (before_cycles _ (c.in_ok-check_names.ensures.none refl) (c.in_ok-check_names-2.ensures.none refl)) key rule (c.in_err-graphs.ensures.first key rule came)

pub returns-in_err-offers-clause-first : goal.returns-in_err-offers-clause-first
returns-in_err-offers-clause-first c = λ key rule is.
    let came = ap Err (sym (rw is at c.from_residual-in_err-offers.ensures.1)) in
    first_of_all _ 15 16 (before_offers _ (c.in_ok-check_names.ensures.none refl) (c.in_ok-check_names-2.ensures.none refl) (c.in_ok-graphs.ensures.none refl)) key rule (c.in_err-offers.ensures.first key rule came)

pub returns-in_err-check_names-3-clause-first : goal.returns-in_err-check_names-3-clause-first
returns-in_err-check_names-3-clause-first c = λ key rule is.
    let came = ap Err (sym (rw is at c.from_residual-in_err-check_names-3.ensures.1)) in
    first_of_all _ 17 17
    (before_classes _ (c.in_ok-check_names.ensures.none refl) (c.in_ok-check_names-2.ensures.none refl) (c.in_ok-graphs.ensures.none refl) (c.in_ok-offers.ensures.none refl))
    key rule (c.in_err-check_names-3.ensures.first key rule came)

pub returns-in_err-check_data-clause-first : goal.returns-in_err-check_data-clause-first
returns-in_err-check_data-clause-first c = λ key rule is.
    let came = ap Err (sym (rw is at c.from_residual-in_err-check_data.ensures.1)) in
    first_of_all _ 18 18
    (before_data _ (c.in_ok-check_names.ensures.none refl) (c.in_ok-check_names-2.ensures.none refl) (c.in_ok-graphs.ensures.none refl) (c.in_ok-offers.ensures.none refl)
    (c.in_ok-check_names-3.ensures.none refl))
    key rule (c.in_err-check_data.ensures.first key rule came)

pub invariant_of-result : goal.invariant_of-result
invariant_of-result c = record {
  unbroken = none_at_all _ (c.in_ok-check_names.ensures.none refl) (c.in_ok-check_names-2.ensures.none refl) (c.in_ok-graphs.ensures.none refl) (c.in_ok-offers.ensures.none refl)
      (c.in_ok-check_names-3.ensures.none refl) (c.in_ok-check_data.ensures.none refl);
  graph = c.in_ok-graphs.ensures.classes;
  offered = c.in_ok-offers.ensures.offers;
  order = c.in_ok-macros.ensures;
}

pub returns-clause-none : goal.returns-clause-none
returns-clause-none c = λ ok. none_at_all _ (c.in_ok-check_names.ensures.none refl) (c.in_ok-check_names-2.ensures.none refl) (c.in_ok-graphs.ensures.none refl) (c.in_ok-offers.ensures.none refl)
    (c.in_ok-check_names-3.ensures.none refl) (c.in_ok-check_data.ensures.none refl)
