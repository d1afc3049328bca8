use Rattle.std.proofs.Common.{◌≡◌, IsTrue, fold, map}
use Rattle.std.specs.FinMap.{is_sorted}
use Rattle.odd_text.specs.Text.{text_cmp}
use Rattle.odd_forms.specs.Tags.{tag_of, tags_in}
use Rattle.odd_content.specs.Values.{marks_in, with_value}
use Rattle.odd_content.proofs.values.marks_of.Given as goal

abbrev pub invariant-loop-child : goal.invariant-loop-child
invariant-loop-child l = (fold (with_value l.is_set) l.named.entries (map tag_of l.child-iterator) ≡ marks_in l.is_set (tags_in l.tree)) × IsTrue (is_sorted text_cmp l.named.entries)
