use Rattle.std.proofs.Common.{refl}
use Rattle.std.proofs.lemmas.Result.{IfOk-weaker}
use Rattle.odd_text.specs.Text.{text_cmp}
use Rattle.odd_classes.proofs.Linked.{no_set, set_same}
use Rattle.odd_classes.proofs.ClassesReached.{classes_reached, no_class}
use Rattle.odd_classes.proofs.class_members.memberships.Goals as goal

pub returns-in_default : goal.returns-in_default
returns-in_default c =
    let none = rw (c.entries-entries.ensures.all, c.in_ok-element_key.ensures) at c.in_default.ensures in
    no_set text_cmp _ _ c.new.ensures (no_class _ _ (λ place p. let no = (none place).1 p in cc))

pub returns : goal.returns
returns c =
    let entries = c.entries-entries.ensures in
    let place = rw (entries.all, c.in_ok-element_key.ensures) at c.in-Some.ensures in
    let here = (place c.in-Some.place).0 refl in
    let among = rw (entries.all, c.as_slice.ensures.value) at c.in_ok-idents.ensures in
    let reached = c.in_ok-nodes.ensures.nodes in
    let classes = classes_reached _ _ entries.rising _ _ c.requires here in
    IfOk-weaker _ _ _
    (λ words. set_same text_cmp _ _ words (λ ident.
    (λ s. let m = (among ident).0 s in (classes ident).0 (m.0, m.1, (reached m.0).0 m.2), λ e. let m = (classes ident).1 e in (among ident).1 (m.0, m.1, (reached m.0).1 m.2))))
    c.sorted.ensures
