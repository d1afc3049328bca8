-- A sequence and an alternate, by the list of their parts.
use denote.Hole.Carrier.{out}
use Rattle.std.proofs.Common.{◌≡◌, refl, sym, ap, ◌∙◌}
use Rattle.rng_types.specs.declared.bounds.Bounds.{Bounds}
use Rattle.odd_content.specs.declared.content.Content.{Sequence', Alternate', Row_of-Content, items-the_row-Content, items_shown-the_row-Content-0, out-Content, roll-Content, roll-out-Content}
use Rattle.odd_content.specs.declared.content.Content.TheBlock.{shown-the_row-Content-0}
use Rattle.odd_content.specs.declared.content.Content.TheOpen as opened
use Rattle.odd_content.specs.declared.content.Content.TheVariants as content
use Rattle.odd_content.specs.declared.content.Content.TheVariants.{rolls-Sequence, rolls-Alternate}

sequence_opened : (shape : _) (row : Row_of-Content _) (b : Bounds) → out-Content (Sequence' shape row b) ≡ opened.Sequence (shown-the_row-Content-0 shape row) b
unfolding out-Content out
sequence_opened shape row b = refl

alternate_opened : (shape : _) (row : Row_of-Content _) (b : Bounds) → out-Content (Alternate' shape row b) ≡ opened.Alternate (shown-the_row-Content-0 shape row) b
unfolding out-Content out
alternate_opened shape row b = refl

pub sequence_is : (shape : _) (row : Row_of-Content _) (b : Bounds) → content.Sequence (items-the_row-Content _ row) b ≡ Sequence' shape row b
sequence_is shape row b =
    ap (λ ps. content.Sequence ps b) (sym (items_shown-the_row-Content-0 shape row)) ∙ sym (rolls-Sequence (shown-the_row-Content-0 shape row) b)
    ∙ ap roll-Content (sym (sequence_opened shape row b)) ∙ roll-out-Content (Sequence' shape row b)

pub alternate_is : (shape : _) (row : Row_of-Content _) (b : Bounds) → content.Alternate (items-the_row-Content _ row) b ≡ Alternate' shape row b
alternate_is shape row b =
    ap (λ ps. content.Alternate ps b) (sym (items_shown-the_row-Content-0 shape row)) ∙ sym (rolls-Alternate (shown-the_row-Content-0 shape row) b)
    ∙ ap roll-Content (sym (alternate_opened shape row b)) ∙ roll-out-Content (Alternate' shape row b)
