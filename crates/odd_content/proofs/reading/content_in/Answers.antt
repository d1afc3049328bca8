use Rattle.std.proofs.Common.{◌≡◌, ◌++◌, ap, ◌∙◌, map, rules}
use Rattle.odd_tree.specs.Elements.{all_binds}
use Rattle.odd_tree.specs.declared.tree.Tree.{out-Tree}
use Rattle.odd_content.specs.Giving.{joined_parts, parts_in}
use Rattle.odd_content.proofs.reading.content_in.Goals as goal

pub returns : goal.returns
returns c =
    let tree = c.args.tree.now in
    let inside : all_binds (map (λ b. b.now) c.as_slice.result.now) ≡ all_binds (map (λ b. b.now) c.args.around.now) ++ (out-Tree tree).binds = search rules in
    c.joined-2.ensures ∙ ap joined_parts (c.in_ok-parts_in_force-2.ensures ∙ ap (λ binds. parts_in binds (out-Tree tree).children) inside)
