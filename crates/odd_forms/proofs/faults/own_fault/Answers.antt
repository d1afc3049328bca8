use Rattle.std.proofs.Common.{◌≡◌, ◌∙◌, map}
use Rattle.std.specs.Prelude.{is_some}
use Rattle.std.specs.List.{list_any}
use Rattle.odd_tree.specs.Elements.{all_binds, given}
use Rattle.odd_forms.specs.Seen as seen
use Rattle.odd_forms.proofs.Forms.{own_least}
use Rattle.odd_text.proofs.Least.{any_map}
use Rattle.odd_forms.proofs.faults.own_fault.Goals as goal

pub returns : goal.returns
returns c =
    let form = seen.form c.args.form.now in
    let tree = c.args.tree.now in
    let left_out : c.has_left_out.result ≡ list_any (λ l. is_some (given tree l)) form.left_out = c.has_left_out.ensures ∙ any_map (λ l. is_some (given tree l)) (λ l. l.now) c.args.form.now.left_out.now in
    rw (c.lesser-2.ensures, c.lesser.ensures, c.fault_where-left_out.ensures, left_out)
    (own_least form (all_binds (map (λ b. b.now) c.args.inside.now)) tree c.in_ok-attributes.attributes c.in_ok-demands.demands c.in_ok-attributes.ensures c.in_ok-demands.ensures)
