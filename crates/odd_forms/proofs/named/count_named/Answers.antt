use Rattle.std.proofs.Common.{◌≡◌, rules, ◌∙◌}
use Rattle.std.specs.List.{list_any}
use Rattle.std.specs.Prelude.{count_by, is_some}
use Rattle.odd_tree.specs.Elements.{shown_elements}
use Rattle.odd_tree.specs.declared.tree.Node.{out-Node}
use Rattle.odd_tree.specs.declared.tree.Tree.{out-Tree}
use Rattle.odd_forms.specs.Faults.{element_among}
use Rattle.odd_forms.proofs.Children.{count_elements}
use Rattle.odd_forms.proofs.named.count_named.Goals as goal

pub returns : goal.returns
returns c =
    let kinds = c.args.kinds.now in
    let nodes = (out-Tree c.args.tree.now).children in
    let counted : c.count.result ≡ count_by (λ n. list_any (λ t. is_some (element_among kinds t)) (shown_elements (out-Node n))) nodes = search rules in
    counted ∙ count_elements (λ t. is_some (element_among kinds t)) nodes
