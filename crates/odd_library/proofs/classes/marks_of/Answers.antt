use Rattle.std.proofs.Common.{◌≡◌, ap, sym, ◌∙◌, None}
use Rattle.std.proofs.lemmas.Cmp.{nat_list_cmp_total}
use Rattle.std.specs.BTreeMap.{insert_entry}
use Rattle.std.specs.FinMap.{is_sorted, put}
use Rattle.std.specs.Option.{option_copied}
use Rattle.odd_text.proofs.Entries.{put_rises}
use Rattle.odd_text.specs.Text.{text_cmp}
use Rattle.odd_library.specs.Members.{adds}
use Rattle.odd_overlay.proofs.Ordered.{inserted_put}
use Rattle.odd_library.proofs.Marks.{child_passed, member_marks, other_marks}
use Rattle.odd_library.proofs.classes.marks_of.Goals as goal

pub loop-child-init : goal.loop-child-init
loop-child-init c = (cc, ap (is_sorted text_cmp) c.new-named.ensures.empty)

pub loop-child-preserved-in_ok-insert : goal.loop-child-preserved-in_ok-insert
loop-child-preserved-in_ok-insert c =
    let child = c.in-Some.child.now in
    let old = c.loop-child.named.entries in
    let key = c.in-Some-attribute.key.now in
    let inserted : c.insert.new.self.entries ≡ put text_cmp key (adds child) old =
    c.in_ok-insert.ensures.entries ∙ ap (λ k. insert_entry text_cmp old k c.adds.result) c.in_ok-copy.ensures ∙ ap (insert_entry text_cmp old key) c.adds.ensures
    ∙ inserted_put text_cmp key (adds child) old in (
      child_passed old _ _ _ _ child c.loop-child.invariant.0 c.in-Some.ensures.steps
          (member_marks old child _ (sym c.is_one_of.ensures ∙ c.if-is_one_of.true) (sym c.attribute.ensures ∙ ap option_copied c.in-Some-attribute.is) ∙ sym inserted),
      put_rises text_cmp nat_list_cmp_total key (adds child) old c.insert.new.self.entries c.loop-child.invariant.1 inserted,
    )

pub loop-child-preserved-in_default : goal.loop-child-preserved-in_default
loop-child-preserved-in_default c =
    let child = c.in-Some.child.now in
    let old = c.loop-child.named.entries in (
      child_passed old _ _ _ _ child c.loop-child.invariant.0 c.in-Some.ensures.steps
          (member_marks old child None (sym c.is_one_of.ensures ∙ c.if-is_one_of.true) (sym c.attribute.ensures ∙ ap option_copied c.in_default.is)),
      c.loop-child.invariant.1,
    )

pub loop-child-preserved : goal.loop-child-preserved
loop-child-preserved c = (
  child_passed c.loop-child.named.entries _ _ _ _ c.in-Some.child.now c.loop-child.invariant.0 c.in-Some.ensures.steps
      (other_marks c.loop-child.named.entries c.in-Some.child.now (sym c.is_one_of.ensures ∙ c.if-is_one_of.false)),
  c.loop-child.invariant.1,
)

pub map_of-requires : goal.map_of-requires
map_of-requires c = c.loop-child.invariant.1
