use Rattle.std.proofs.Common.{◌≡◌, Some, ap, sym, ◌∙◌}
use Rattle.std.proofs.lemmas.Cmp.{nat_list_cmp_total}
use Rattle.std.specs.FinMap.{put}
use Rattle.odd_overlay.proofs.Ordered.{inserted_put}
use Rattle.odd_text.proofs.Entries.{put_rises}
use Rattle.odd_text.specs.Text.{text_cmp}
use Rattle.odd_content.proofs.Marks.{value_marks, value_passed}
use Rattle.odd_content.proofs.values.marks_of.Goals as goal

pub loop-child-preserved-in_ok-insert : goal.loop-child-preserved-in_ok-insert
loop-child-preserved-in_ok-insert c =
    let child = c.in-Some.child.now in
    let old = c.loop-child.named.entries in
    let value = c.in-Some-2.value in
    let is_put = c.puts.result in
    let inserted : c.insert.new.self.entries ≡ put text_cmp value is_put old = c.in_ok-insert.ensures.entries ∙ inserted_put text_cmp value is_put old in
    let idle = sym c.is_idle.ensures ∙ c.if-is_idle.false in
    let told = sym c.in_ok-value.ensures ∙ c.in-Some-2.is in (
      value_passed c.args.is_set old _ _ _ _ child c.loop-child.invariant.0 c.in-Some.ensures.steps
          (value_marks c.args.is_set old child (Some value) idle told ∙ ap (λ b. put text_cmp value b old) (sym c.puts.ensures) ∙ sym inserted),
      put_rises text_cmp nat_list_cmp_total value is_put old c.insert.new.self.entries c.loop-child.invariant.1 inserted,
    )
