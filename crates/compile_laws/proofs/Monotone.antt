-- A content admits no less where the macros that it names admit no less.
use Rattle.std.proofs.Common.{ℕ, List, []}
use Rattle.odd_text.proofs.InList.{stands_first}
use Rattle.odd_text.specs.Standing.{StandsIn}
use Rattle.odd_text.specs.declared.key.Key.{Key}
use Rattle.odd_tree.specs.Significant.{Marking}
use Rattle.odd_tree.specs.declared.tree.Node.{Node}
use Rattle.odd_content.specs.declared.content.Content.{Content, Empty, Text, Value, Vals, Element, Class, Macro, Any, Sequence', Alternate', Row_of-Content, end_of-Content, more_of-Content}
use Rattle.odd_library.specs.declared.library.Library.{Library}
use Rattle.odd_meaning.specs.Contents.{AdmitsBy, ByOne, InOrder, Macros}
use Rattle.odd_meaning.specs.Labels.{Label}
use Rattle.odd_meaning.specs.Links.{macro_key, named_in, named_in_parts}
use Rattle.compile_defines.proofs.Standing.{each_stands, stands_left, stands_right}
use Rattle.compile_laws.proofs.Pieces.{Into, counted_into, or_into, then_into}

module _ (library : Library) (m : Marking Label) (some others : Macros) where
  -- of nodes nothing is asked
  abbrev IsNode : Node → Type 0
  IsNode n = Unit {0}

  -- what the macros of these keys admit by some, they admit by others
  abbrev AreCarried : List Key → Type 0
  AreCarried keys = (ident : List ℕ) → StandsIn keys (macro_key ident) → Into IsNode (some ident) (others ident)

  mutual
    content_into : (k : Content) → AreCarried (named_in k) → Into IsNode (AdmitsBy some library m k) (AdmitsBy others library m k)
    content_into Empty macros = λ w q h. h
    content_into Text macros = λ w q h. h
    content_into (Value item) macros = λ w q h. h
    content_into (Vals list) macros = λ w q h. h
    content_into (Element key bounds) macros = λ w q h. h
    content_into (Class key p bounds) macros = λ w q h. h
    content_into (Macro key bounds) macros = counted_into IsNode (macros key (stands_first (macro_key key) []))
    content_into (Any c bounds) macros = λ w q h. h
    content_into (Sequence' shape parts bounds) macros = counted_into IsNode (in_order_into parts macros)
    content_into (Alternate' shape parts bounds) macros = counted_into IsNode (by_one_into parts macros)

    -- the parts of a sequence
    in_order_into : {n : _} (parts : Row_of-Content n) → AreCarried (named_in_parts parts) → Into IsNode (InOrder some library m parts) (InOrder others library m parts)
    in_order_into end_of-Content macros = λ w q h. h
    in_order_into (more_of-Content part parts) macros =
        then_into IsNode (content_into part (λ ident s. macros ident (stands_left (named_in part) (named_in_parts parts) (macro_key ident) s)))
        (in_order_into parts (λ ident s. macros ident (stands_right (named_in part) (named_in_parts parts) (macro_key ident) s)))

    -- the parts of an alternate
    by_one_into : {n : _} (parts : Row_of-Content n) → AreCarried (named_in_parts parts) → Into IsNode (ByOne some library m parts) (ByOne others library m parts)
    by_one_into end_of-Content macros = λ w q h. h
    by_one_into (more_of-Content part parts) macros =
        or_into IsNode (content_into part (λ ident s. macros ident (stands_left (named_in part) (named_in_parts parts) (macro_key ident) s)))
        (by_one_into parts (λ ident s. macros ident (stands_right (named_in part) (named_in_parts parts) (macro_key ident) s)))

  pub monotone : (c : Content) → ((key : List ℕ) → StandsIn (named_in c) (macro_key key) → (w : List Node) → some key w → others key w)
      → (w : List Node) → AdmitsBy some library m c w → AdmitsBy others library m c w
  monotone c more w = content_into c (λ key s v q. more key s v) w (each_stands IsNode w (λ child s. tt))
