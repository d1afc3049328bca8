use Rattle.std.proofs.Common.{◌≡◌, ℕ, ◌<◌, ◌≤◌, List, length, map, refl, sym, ap, ◌∙◌, arith}
use Rattle.std.proofs.lemmas.List.{take_all}
use Rattle.odd_reader.specs.Resolving.{is_same_name}
use Rattle.odd_tree.specs.declared.tree.Attr.{Attr}
use Rattle.odd_reader.proofs.TwoAlike.{alike_more, are_same, texts_of, some_twice_alike, some_twice-map}
use Rattle.odd_reader.proofs.twice.are_named_twice.Goals as goal

abbrev parts_of : Attr → List ℕ × List ℕ
parts_of a = (a.name.ns, a.name.local)

pub loop-attr-preserved : goal.loop-attr-preserved
loop-attr-preserved c =
    let attrs = c.as_slice-attr-items.result.now in
    let lt : c.loop-attr.attr-index < length attrs = omega arith in
    ap (map texts_of) c.in_ok-push.ensures.items
    ∙ alike_more texts_of parts_of c.loop-attr.names.items _ attrs c.loop-attr.attr-index c.attr-item.result lt c.attr-item.is c.loop-attr.invariant refl

pub returns : goal.returns
returns c =
    let attrs = c.as_slice-attr-items.result.now in
    let over : length attrs ≤ c.loop-attr.attr-index = omega arith in
    let all : map texts_of c.loop-attr.names.items ≡ map parts_of c.args.attrs.now =
    c.loop-attr.invariant ∙ ap (map parts_of) (take_all c.loop-attr.attr-index attrs over ∙ c.as_slice-attr-items.ensures) in
    c.has_twice.ensures ∙ some_twice_alike texts_of parts_of are_same c.loop-attr.names.items c.args.attrs.now all
    ∙ sym (some_twice-map (λ (a : Attr). a.name) is_same_name c.args.attrs.now)
