-- What data content admits, where datatypes and macros admit more, and within a number of levels of these.
use Rattle.std.proofs.Common.{ℕ, List, inl, inr, ⊎_elim}
use Rattle.odd_content.specs.declared.content.Content.{Content, Empty, Text, Value, Vals, Element, Class, Macro, Any, Sequence', Alternate', Row_of-Content, end_of-Content, more_of-Content}
use Rattle.rng_types.specs.declared.item.Item.TheVariants as items
use Rattle.odd_meaning.specs.Values.{IsOneValueBy, IsValueBy, OfNames}

-- more datatypes and macros admit no less
module _ (datatypes others macros more : OfNames) (of_datatypes : (key cs : List ℕ) → datatypes key cs → others key cs) (of_macros : (key cs : List ℕ) → macros key cs → more key cs) where
  mutual
    pub value_into : (c : Content) (cs : List ℕ) → IsValueBy datatypes macros c cs → IsValueBy others more c cs
    value_into (Value (items.Typed k facets)) cs v = v
    value_into (Value (items.Key key)) cs v = of_datatypes key cs v
    value_into (Vals list) cs v = v
    value_into (Macro key b) cs v = of_macros key cs v
    value_into (Alternate' shape parts b) cs v = values_into parts cs v
    value_into Empty cs v = v
    value_into Text cs v = v
    value_into (Element key b) cs v = v
    value_into (Class key p b) cs v = v
    value_into (Any c b) cs v = v
    value_into (Sequence' shape parts b) cs v = v

    values_into : {n : _} (parts : Row_of-Content n) (cs : List ℕ) → IsOneValueBy datatypes macros parts cs → IsOneValueBy others more parts cs
    values_into end_of-Content cs v = v
    values_into (more_of-Content part parts) cs v = ⊎_elim (λ x. inl (value_into part cs x)) (λ y. inr (values_into parts cs y)) v

-- a value comes of one leaf, and so within a number of levels, where each value of a datatype and of a macro does
module _ (datatypes macros : OfNames) (within_datatypes within_macros : ℕ → OfNames) (of_datatypes : (key cs : List ℕ) → datatypes key cs → (levels : ℕ) × within_datatypes levels key cs)
    (of_macros : (key cs : List ℕ) → macros key cs → (levels : ℕ) × within_macros levels key cs) where
  mutual
    pub within : (c : Content) (cs : List ℕ) → IsValueBy datatypes macros c cs → (levels : ℕ) × IsValueBy (within_datatypes levels) (within_macros levels) c cs
    within (Value (items.Typed k facets)) cs v = (0, v)
    within (Value (items.Key key)) cs v = of_datatypes key cs v
    within (Vals list) cs v = (0, v)
    within (Macro key b) cs v = of_macros key cs v
    within (Alternate' shape parts b) cs v = within_parts parts cs v
    within Empty cs v = absurd v
    within Text cs v = absurd v
    within (Element key b) cs v = absurd v
    within (Class key p b) cs v = absurd v
    within (Any c b) cs v = absurd v
    within (Sequence' shape parts b) cs v = absurd v

    within_parts : {n : _} (parts : Row_of-Content n) (cs : List ℕ) → IsOneValueBy datatypes macros parts cs
        → (levels : ℕ) × IsOneValueBy (within_datatypes levels) (within_macros levels) parts cs
    within_parts end_of-Content cs v = absurd v
    within_parts (more_of-Content part parts) cs v =
        ⊎_elim (λ x. let h = within part cs x in (h.0, inl h.1)) (λ y. let h = within_parts parts cs y in (h.0, inr h.1)) v
