use Rattle.std.proofs.Common.{◌≡◌, ◌||◌, inl, inr, rules, sym, ◌∙◌, false}
use Rattle.odd_forms.specs.Names.{is_one_of, is_passed_over, is_tei}
use Rattle.odd_forms.specs.Seen as seen
use Rattle.odd_forms.proofs.Forms.{child_least, child_left_out}
use Rattle.odd_forms.proofs.faults.stray_fault.Goals as goal
use Rattle.odd_forms.proofs.faults.stray_fault.Goals.{then-is_relax_ng-via-then-is_relax_ng, then-is_relax_ng-via-else-is_relax_ng+then-is_one_of}

pub returns-then-is_relax_ng : goal.returns-then-is_relax_ng
returns-then-is_relax_ng c = λ none.
    child_left_out (seen.form c.args.form.now) c.args.child.now (elim c.then-is_relax_ng.branch [
      | then-is_relax_ng-via-then-is_relax_ng w ↦ inl (sym c.is_relax_ng.ensures ∙ w.if-is_relax_ng.true)
      | then-is_relax_ng-via-else-is_relax_ng+then-is_one_of w ↦ inr (sym w.is_one_of.ensures ∙ w.if-is_one_of.true)
    ])

pub returns : goal.returns
returns c = λ none.
    let form = seen.form c.args.form.now in
    let child = c.args.child.now in
    let told : (is_passed_over child || is_one_of form.passed_over child) ≡ false = search rules in
    let test : c.if-form.fault_where ≡ (form.closed || is_tei child) = search rules in
    rw (c.fault_where.ensures, test) (child_least form child (sym c.is_relax_ng.ensures ∙ c.if-is_relax_ng.false) (sym c.is_one_of.ensures ∙ c.if-is_one_of.false) none told)
