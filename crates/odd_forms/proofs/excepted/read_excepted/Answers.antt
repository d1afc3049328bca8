use Rattle.std.proofs.Common.{◌≡◌, Some, None, map, false, ◌&&◌, sym, ap, subst, ◌∙◌}
use Rattle.std.proofs.lemmas.Str.Pattern.{IsSplitOnceResult}
use Rattle.odd_tree.specs.Elements.{all_binds}
use Rattle.odd_forms.specs.Excepting.{is_name, named_in}
use Rattle.odd_forms.specs.declared.excepted.Excepted.TheVariants as excepted
use Rattle.odd_forms.proofs.Colon.{and_no, name_told, no_and, not_prefixed, prefixed, space_unsplit}
use Rattle.odd_forms.proofs.excepted.read_excepted.Goals as goal
use Rattle.odd_forms.proofs.excepted.read_excepted.Goals.{then-not-is_ncname-via-then-not-is_ncname, then-not-is_ncname-via-else-not-is_ncname+then-not-is_ncname-2}

pub returns-in_default : goal.returns-in_default
returns-in_default c =
    let binds = all_binds (map (λ b. b.now) c.args.inside.now) in
    let h = rw c.in_default.is at c.split_once.ensures.cases in
    ap excepted.Space c.in_ok-copy.ensures ∙ sym (space_unsplit binds c.args.word.now (subst (λ w. IsSplitOnceResult 58 w None) c.as_str.ensures h))

pub returns-then-not-is_ncname : goal.returns-then-not-is_ncname
returns-then-not-is_ncname c =
    let binds = all_binds (map (λ b. b.now) c.args.inside.now) in
    let h = subst (λ w. IsSplitOnceResult 58 w (Some (c.in-Some.prefix, c.in-Some.local))) c.as_str.ensures c.in-Some.ensures.cases in
    let prefix = c.in_ok-prefix.prefix in
    let local = c.in_ok-local.local in
    let fails : (is_name prefix && is_name local) ≡ false = elim c.then-not-is_ncname.branch [
      | then-not-is_ncname-via-then-not-is_ncname w ↦ no_and (is_name prefix) (is_name local) (sym (name_told prefix _ c.is_ncname.ensures) ∙ w.if-not-is_ncname.true)
      | then-not-is_ncname-via-else-not-is_ncname+then-not-is_ncname-2 w ↦ and_no (is_name prefix) (is_name local) (sym (name_told local _ w.is_ncname-else-not-is_ncname.ensures) ∙ w.if-not-is_ncname-2.true)
    ] in
    ap excepted.Space c.in_ok-copy-2.ensures ∙ sym (not_prefixed binds c.args.word.now prefix local c.in-Some.prefix c.in-Some.local h c.in_ok-prefix.ensures c.in_ok-local.ensures fails)

pub returns-in-Some-2 : goal.returns-in-Some-2
returns-in-Some-2 c =
    let binds = all_binds (map (λ b. b.now) c.args.inside.now) in
    let h = subst (λ w. IsSplitOnceResult 58 w (Some (c.in-Some.prefix, c.in-Some.local))) c.as_str.ensures c.in-Some.ensures.cases in
    ap (λ o. named_in o c.in_ok-local.local) (sym c.in-Some-2.is ∙ c.in_ok-ns.ensures)
    ∙ sym (prefixed binds c.args.word.now c.in_ok-prefix.prefix c.in_ok-local.local c.in-Some.prefix c.in-Some.local h c.in_ok-prefix.ensures c.in_ok-local.ensures
    (sym (name_told c.in_ok-prefix.prefix _ c.is_ncname.ensures) ∙ c.if-not-is_ncname.false) (sym (name_told c.in_ok-local.local _ c.is_ncname-else-not-is_ncname.ensures) ∙ c.if-not-is_ncname-2.false))

pub returns : goal.returns
returns c =
    let binds = all_binds (map (λ b. b.now) c.args.inside.now) in
    let h = subst (λ w. IsSplitOnceResult 58 w (Some (c.in-Some.prefix, c.in-Some.local))) c.as_str.ensures c.in-Some.ensures.cases in
    ap (λ o. named_in o c.in_ok-local.local) (sym c.in-None.is ∙ c.in_ok-ns.ensures)
    ∙ sym (prefixed binds c.args.word.now c.in_ok-prefix.prefix c.in_ok-local.local c.in-Some.prefix c.in-Some.local h c.in_ok-prefix.ensures c.in_ok-local.ensures
    (sym (name_told c.in_ok-prefix.prefix _ c.is_ncname.ensures) ∙ c.if-not-is_ncname.false) (sym (name_told c.in_ok-local.local _ c.is_ncname-else-not-is_ncname.ensures) ∙ c.if-not-is_ncname-2.false))
