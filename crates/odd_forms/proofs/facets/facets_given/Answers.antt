use Rattle.std.proofs.Common.{◌≡◌, None, Some, ap, sym, refl, rules, ◌∙◌}
use Rattle.std.specs.Option.{option_copied}
use Rattle.std.specs.Prelude.{codes}
use Rattle.odd_tree.specs.Elements.{attribute_value, children_of}
use Rattle.odd_tree.specs.declared.tree.Tree.{out-Tree}
use Rattle.odd_forms.specs.Tags.{restriction_in}
use Rattle.odd_forms.proofs.facets.facets_given.Goals as goal
use Rattle.odd_forms.proofs.facets.facets_given.Goals.{in-Some+in_ok-from_str+in_ok-copy+in_ok-push, in_default}

pub loop-child-init : goal.loop-child-init
loop-child-init c =
    let tree = c.args.tree.now in
    let attrs = (out-Tree tree).attrs in
    let first : c.match-attribute.facets ≡ restriction_in attrs =
    elim c.match-attribute.branch [
      | in-Some+in_ok-from_str+in_ok-copy+in_ok-push w ↦
          let value : attribute_value attrs (codes "restriction") ≡ Some w.in-Some.pattern.now = sym c.attribute.ensures ∙ ap option_copied w.in-Some.is in
          rw (value, w.facets-is, w.in_ok-push.ensures.ok, c.new-facets.ensures, w.in_ok-from_str.ensures, w.in_ok-copy.ensures) refl
      | in_default w ↦
          let none : attribute_value attrs (codes "restriction") ≡ None = sym c.attribute.ensures ∙ ap option_copied w.in_default.is in
          rw (none, w.facets-is) c.new-facets.ensures
    ] in
    let children : c.into_iter-child-iterator.result ≡ children_of tree = search rules in
    rw (first, children) refl
