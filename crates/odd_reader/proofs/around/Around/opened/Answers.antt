use Rattle.std.proofs.Common.{◌≡◌, ◌++◌, true, false, map, sym, ap, ◌∙◌}
use Rattle.std.specs.Prelude.{Some, reverse}
use Rattle.std.specs.List.{list_all}
use Rattle.odd_reader.specs.Resolving.{around, attributes_named, binds_made, element_named, is_same_name, may_bind, plain_made, some_twice}
use Rattle.odd_reader.proofs.Tags.{element_resolved}
use Rattle.odd_reader.proofs.around.Around.opened.Goals as goal

pub returns : goal.returns
returns c =
    let os = reverse c.args.self.now.open.now in
    let binds = c.in_ok-binds-2.binds in
    let plain = c.in_ok-binds.plain.items in
    let m : binds ≡ c.in_ok-binds.binds = c.in_ok-binds-2.ensures in
    let d : c.in_ok-binds.binds ≡ binds_made c.args.tag.attrs = c.in_ok-binds.ensures.0 in
    let p : plain ≡ plain_made c.args.tag.attrs = c.in_ok-binds.ensures.1 in
    let n : element_named (around os ++ binds) c.args.tag.name ≡ Some c.in_ok-name.name = c.in_ok-name.ensures in
    let a : attributes_named (around os ++ binds) plain ≡ Some c.in_ok-attrs.attrs = c.in_ok-attrs.ensures in
    let all : list_all may_bind c.in_ok-binds.binds ≡ true = sym c.if-not-may_all_bind.ensures in
    let once : some_twice is_same_name (map (λ a. a.name) c.in_ok-attrs.attrs) ≡ false = sym c.in_ok-is_named_twice.ensures ∙ c.if-branch.false in
    element_resolved os c.args.tag binds plain c.in_ok-name.name c.in_ok-attrs.attrs (m ∙ d) p (ap (list_all may_bind) m ∙ all) n a once
    ∙ ap (λ l. Some (record { written = c.args.tag.name; name = c.in_ok-name.name; attrs = c.in_ok-attrs.attrs; binds = binds; children = l; at = c.args.tag.at }))
    (sym c.new-2.ensures)
