-- A content that admits a value reaches data.
use Rattle.std.proofs.Common.{ℕ, zero, suc, List, inl, inr, ⊎_elim}
use Rattle.odd_content.specs.declared.content.Content.{Content, Empty, Text, Value, Vals, Element, Class, Macro, Any, Sequence', Alternate', Row_of-Content, end_of-Content, more_of-Content}
use Rattle.odd_library.specs.declared.library.Library.{Library}
use Rattle.odd_meaning.specs.Data.{IsWithin, OfMacros, OneReachesBy, ReachesBy, ReachesData}
use Rattle.odd_meaning.specs.Values.{IsDataValue, IsOfDatatype, IsOneValueBy, IsValueBy, MacroHasValue, OfNames}

module _ (datatypes macros : OfNames) (reach : OfMacros) (of_macros : (key cs : List ℕ) → macros key cs → reach key) where
  mutual
    -- where each macro that has one reaches data
    reached : (c : Content) (cs : List ℕ) → IsValueBy datatypes macros c cs → ReachesBy reach c
    reached (Value i) cs v = tt
    reached (Vals list) cs v = tt
    reached (Macro key b) cs v = of_macros key cs v
    reached (Alternate' shape parts b) cs v = one_reached parts cs v
    reached Empty cs v = absurd v
    reached Text cs v = absurd v
    reached (Element key b) cs v = absurd v
    reached (Class key p b) cs v = absurd v
    reached (Any c b) cs v = absurd v
    reached (Sequence' shape parts b) cs v = absurd v

    one_reached : {n : _} (parts : Row_of-Content n) (cs : List ℕ) → IsOneValueBy datatypes macros parts cs → OneReachesBy reach parts
    one_reached end_of-Content cs v = absurd v
    one_reached (more_of-Content part parts) cs v = ⊎_elim (λ a. inl (reached part cs a)) (λ b. inr (one_reached parts cs b)) v

module _ (library : Library) where
  -- each macro does, within the levels within which it has a value
  macro_reached : (levels : ℕ) (key cs : List ℕ) → MacroHasValue levels library key cs → IsWithin ReachesBy levels library key
  macro_reached zero key cs v = absurd v
  macro_reached (suc levels) key cs (part, held, v) =
      (part, held, reached (IsOfDatatype library) (MacroHasValue levels library) (IsWithin ReachesBy levels library) (macro_reached levels) part.content cs v)

  pub value_reached : (c : Content) (cs : List ℕ) → IsDataValue library c cs → ReachesData library c
  value_reached = reached _ _ _ (λ key cs v. (v.0, macro_reached v.0 key cs v.1))
