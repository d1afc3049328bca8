-- The elements of a sequence and of an alternate, by the lists of their parts.
use Rattle.std.proofs.Common.{◌≡◌, List, ◌∷◌, codes, map, refl, ap, ◌∙◌}
use Rattle.rng_types.specs.declared.bounds.Bounds.{Bounds}
use Rattle.odd_content.specs.declared.content.Content.{Content, Row_of-Content, end_of-Content, more_of-Content, items-the_row-Content, items_hidden-the_row-Content-0}
use Rattle.odd_content.specs.declared.content.Content.TheBlock.{hidden-the_row-Content-0}
use Rattle.odd_content.specs.declared.content.Content.TheVariants as content
use Rattle.odd_emit.specs.Contents.{bounds_said, part_markup, parts_markup}
use Rattle.odd_emit.specs.Saying.{spoken}

listed : {n : _} (row : Row_of-Content n) → parts_markup row ≡ map part_markup (items-the_row-Content n row)
listed end_of-Content = refl
listed (more_of-Content part row) = ap (λ ms. part_markup part ∷ ms) (listed row)

of_parts : (parts : List Content) → parts_markup (hidden-the_row-Content-0 parts) ≡ map part_markup parts
of_parts parts = listed (hidden-the_row-Content-0 parts) ∙ ap (map part_markup) (items_hidden-the_row-Content-0 parts)

pub sequence_is : (parts : List Content) (b : Bounds) → part_markup (content.Sequence parts b) ≡ spoken (codes "sequence") (bounds_said b) (map part_markup parts)
sequence_is parts b = ap (spoken (codes "sequence") (bounds_said b)) (of_parts parts)

pub alternate_is : (parts : List Content) (b : Bounds) → part_markup (content.Alternate parts b) ≡ spoken (codes "alternate") (bounds_said b) (map part_markup parts)
alternate_is parts b = ap (spoken (codes "alternate") (bounds_said b)) (of_parts parts)
