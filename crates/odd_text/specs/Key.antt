use Rattle.std.specs.Prelude.{ℕ}
use Rattle.std.specs.Ordering.{nat_cmp, ordering_then}
use Rattle.std.specs.declared.cmp.Ordering.{Ordering}
use Rattle.odd_text.specs.Text.{text_cmp}
use Rattle.odd_text.specs.declared.key.Kind.{Kind}
use Rattle.odd_text.specs.declared.key.Kind.TheVariants.{Element, Class, Macro, Datatype}
use Rattle.odd_text.specs.declared.key.Key.{Key}

abbrev pub kind_rank : Kind → ℕ
kind_rank Element = 0
kind_rank Class = 1
kind_rank Macro = 2
kind_rank Datatype = 3

-- by kind, and then by ident
abbrev pub key_cmp : Key → Key → Ordering
key_cmp a b = ordering_then (nat_cmp (kind_rank a.kind) (kind_rank b.kind)) (text_cmp a.ident b.ident)
