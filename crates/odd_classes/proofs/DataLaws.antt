-- Which contents reach data and which are data content, from what is told of macros.
use Rattle.std.proofs.Common.{◌≡◌, ◌↔◌, ◌≤◌, ◌+◌, inl, inr, ⊎_elim, ℕ, zero, suc, List, [], ◌∷◌, ◌++◌, Some, sym, ap, subst, ◌∙◌, append_assoc, arith}
use Rattle.std.specs.FinMap.{find}
use Rattle.odd_content.specs.Formed.{once}
use Rattle.odd_content.specs.declared.content.Content.{Content, Empty, Text, Value, Vals, Element, Class, Macro, Any, Sequence, Sequence', Alternate, Alternate', Row_of-Content, end_of-Content, more_of-Content, items-the_row-Content, items_hidden-the_row-Content-0}
use Rattle.odd_content.specs.declared.content.Content.TheBlock.{hidden-the_row-Content-0}
use Rattle.odd_library.specs.declared.library.Component.TheVariants as component
use Rattle.odd_library.specs.declared.library.Library.{Library}
use Rattle.odd_library.specs.declared.library.OtherPart.{OtherPart}
use Rattle.odd_meaning.specs.Data.{AreDataBy, HasPart, IsDataBy, IsLeast, IsWithin, OfMacros, OneReachesBy, ReachesBy}
use Rattle.odd_meaning.specs.Links.{macro_key, named_in, named_in_parts}
use Rattle.odd_text.specs.Key.{key_cmp}
use Rattle.odd_text.proofs.InList.{first_or_later, nothing_stands, stands_first, stands_later}
use Rattle.odd_text.specs.Standing.{StandsIn}
use Rattle.rng_types.specs.declared.bounds.Bounds.{Bounds}

-- what stands in a list stands in it and another
stands_left : {A : Type 0} (xs ys : List A) (x : A) → StandsIn xs x → StandsIn (xs ++ ys) x
stands_left xs ys x s = (s.0, s.1 ++ ys, ap (λ zs. zs ++ ys) s.2 ∙ append_assoc s.0 (x ∷ s.1) ys)

-- and so does what stands in the other
stands_right : {A : Type 0} (xs ys : List A) (x : A) → StandsIn ys x → StandsIn (xs ++ ys) x
stands_right [] ys x s = s
stands_right (z ∷ xs) ys x s = stands_later z x (xs ++ ys) (stands_right xs ys x s)

-- what is told of the macros that a content names is enough
abbrev pub IsByNamed : (OfMacros → Content → Type 0) → Type 1
IsByNamed By = (macros others : OfMacros) (c : Content) → ((key : List ℕ) → StandsIn (named_in c) (macro_key key) → macros key → others key) → By macros c → By others c

mutual
  -- it is for what a content reaches
  pub reaches_by : IsByNamed ReachesBy
  reaches_by macros others (Value item) to r = tt
  reaches_by macros others (Vals list) to r = tt
  reaches_by macros others (Macro key b) to r = to key (stands_first (macro_key key) []) r
  reaches_by macros others (Sequence' shape parts b) to r = one_reaches macros others parts to r
  reaches_by macros others (Alternate' shape parts b) to r = one_reaches macros others parts to r
  reaches_by macros others Empty to r = r
  reaches_by macros others Text to r = r
  reaches_by macros others (Element key b) to r = r
  reaches_by macros others (Class key p b) to r = r
  reaches_by macros others (Any c b) to r = r

  -- the same of one of several parts
  one_reaches : {n : _} (macros others : OfMacros) (parts : Row_of-Content n) → ((key : List ℕ) → StandsIn (named_in_parts parts) (macro_key key) → macros key → others key)
      → OneReachesBy macros parts → OneReachesBy others parts
  one_reaches macros others end_of-Content to r = r
  one_reaches macros others (more_of-Content part parts) to r =
      ⊎_elim (λ h. inl (reaches_by macros others part (λ key s. to key (stands_left (named_in part) (named_in_parts parts) (macro_key key) s)) h))
      (λ h. inr (one_reaches macros others parts (λ key s. to key (stands_right (named_in part) (named_in_parts parts) (macro_key key) s)) h)) r

mutual
  -- and for whether it is data content
  pub data_by : IsByNamed IsDataBy
  data_by macros others (Value item) to r = tt
  data_by macros others (Vals list) to r = tt
  data_by macros others (Macro key b) to r = (r.0, to key (stands_first (macro_key key) []) r.1)
  data_by macros others (Alternate' shape parts b) to r = (r.0, r.1, all_data macros others parts to r.2)
  data_by macros others (Sequence' shape parts b) to r = r
  data_by macros others Empty to r = r
  data_by macros others Text to r = r
  data_by macros others (Element key b) to r = r
  data_by macros others (Class key p b) to r = r
  data_by macros others (Any c b) to r = r

  -- the same of all of them
  all_data : {n : _} (macros others : OfMacros) (parts : Row_of-Content n) → ((key : List ℕ) → StandsIn (named_in_parts parts) (macro_key key) → macros key → others key)
      → AreDataBy macros parts → AreDataBy others parts
  all_data macros others end_of-Content to r = r
  all_data macros others (more_of-Content part parts) to r = (
    data_by macros others part (λ key s. to key (stands_left (named_in part) (named_in_parts parts) (macro_key key) s)) r.0,
    all_data macros others parts (λ key s. to key (stands_right (named_in part) (named_in_parts parts) (macro_key key) s)) r.1,
  )

-- one of the parts in a row is one of those in its list
one_listed : {n : _} (macros : OfMacros) (row : Row_of-Content n) → OneReachesBy macros row ↔ ((part : Content) × StandsIn (items-the_row-Content n row) part × ReachesBy macros part)
one_listed macros end_of-Content = (λ h. absurd h, λ h. absurd (nothing_stands h.0 h.1))
one_listed {n} macros (more_of-Content part row) =
    let rest = one_listed macros row in
    let items = items-the_row-Content _ row in (
      λ h. ⊎_elim (λ r. (part, stands_first part items, r)) (λ r. let o = rest.0 r in (o.0, stands_later part o.0 items o.1, o.2)) h,
      λ h. ⊎_elim (λ e. inl (subst (ReachesBy macros) e h.2)) (λ s. inr (rest.1 (h.0, s, h.2))) (first_or_later part h.0 items h.1),
    )

-- and each is each of those
all_listed : {n : _} (macros : OfMacros) (row : Row_of-Content n) → AreDataBy macros row ↔ ((part : Content) → StandsIn (items-the_row-Content n row) part → IsDataBy macros part)
all_listed macros end_of-Content = (λ h part s. absurd (nothing_stands part s), λ h. tt)
all_listed macros (more_of-Content part row) =
    let rest = all_listed macros row in
    let items = items-the_row-Content _ row in (
      λ h other s. ⊎_elim (λ e. subst (IsDataBy macros) (sym e) h.0) (λ later. rest.0 h.1 other later) (first_or_later part other items s),
      λ h. (h part (stands_first part items), rest.1 (λ other s. h other (stands_later part other items s))),
    )

-- of a list of parts
one_of_parts : (macros : OfMacros) (parts : List Content) → OneReachesBy macros (hidden-the_row-Content-0 parts) ↔ ((part : Content) × StandsIn parts part × ReachesBy macros part)
one_of_parts macros parts =
    let listed = one_listed macros (hidden-the_row-Content-0 parts) in
    subst (λ ps. OneReachesBy macros (hidden-the_row-Content-0 parts) ↔ ((part : Content) × StandsIn ps part × ReachesBy macros part)) (items_hidden-the_row-Content-0 parts) listed

-- and each of them
all_of_parts : (macros : OfMacros) (parts : List Content) → AreDataBy macros (hidden-the_row-Content-0 parts) ↔ ((part : Content) → StandsIn parts part → IsDataBy macros part)
all_of_parts macros parts =
    let listed = all_listed macros (hidden-the_row-Content-0 parts) in
    subst (λ ps. AreDataBy macros (hidden-the_row-Content-0 parts) ↔ ((part : Content) → StandsIn ps part → IsDataBy macros part)) (items_hidden-the_row-Content-0 parts) listed

-- a sequence reaches data where one of its parts does
pub sequence_reaches : (macros : OfMacros) (parts : List Content) (b : Bounds) → ReachesBy macros (Sequence parts b) ↔ ((part : Content) × StandsIn parts part × ReachesBy macros part)
sequence_reaches macros parts b = one_of_parts macros parts

-- and so does an alternate
pub alternate_reaches : (macros : OfMacros) (parts : List Content) (b : Bounds) → ReachesBy macros (Alternate parts b) ↔ ((part : Content) × StandsIn parts part × ReachesBy macros part)
alternate_reaches macros parts b = one_of_parts macros parts

-- a row has a part where its list has
has_listed : {n : _} (row : Row_of-Content n) → HasPart row ↔ ((part : Content) × StandsIn (items-the_row-Content n row) part)
has_listed end_of-Content = (λ h. absurd h, λ s. absurd (nothing_stands s.0 s.1))
has_listed (more_of-Content part row) = (λ h. (part, stands_first part (items-the_row-Content _ row)), λ s. tt)

-- and so has the row of a list
has_part : (parts : List Content) → HasPart (hidden-the_row-Content-0 parts) ↔ ((part : Content) × StandsIn parts part)
has_part parts =
    let listed = has_listed (hidden-the_row-Content-0 parts) in
    subst (λ ps. HasPart (hidden-the_row-Content-0 parts) ↔ ((part : Content) × StandsIn ps part)) (items_hidden-the_row-Content-0 parts) listed

-- an alternate is data content where it stands once, and has parts that all are
pub alternate_data : (macros : OfMacros) (parts : List Content) (b : Bounds)
    → IsDataBy macros (Alternate parts b) ↔ ((b ≡ once) × ((part : Content) × StandsIn parts part) × ((part : Content) → StandsIn parts part → IsDataBy macros part))
alternate_data macros parts b = (λ h. (h.0, (has_part parts).0 h.1, (all_of_parts macros parts).0 h.2), λ h. (h.0, (has_part parts).1 h.1, (all_of_parts macros parts).1 h.2))

-- what holds of a macro within so many levels holds within more
module _ (By : OfMacros → Content → Type 0) (to : IsByNamed By) (library : Library) where
  pub some_more : (less more : ℕ) → less ≤ more → (key : List ℕ) → IsWithin By less library key → IsWithin By more library key
  some_more zero more le key w = absurd w
  some_more (suc less) zero le key w = absurd (omega arith)
  some_more (suc less) (suc more) le key w = (w.0, w.1, to (IsWithin By less library) (IsWithin By more library) w.0.content (λ k s. some_more less more (omega arith) k) w.2)

  module _ (bounded : (c : Content) → By (IsLeast By library) c → (levels : ℕ) × By (IsWithin By levels library) c) where
    -- a macro is such exactly where its content is
    pub least_is : (key : List ℕ) → IsLeast By library key ↔ ((part : OtherPart) × (find key_cmp (macro_key key) library.parts ≡ Some (component.Macro part)) × By (IsLeast By library) part.content)
    least_is key = (
      λ l. unfolded l.0 l.1,
      λ h. let b = bounded h.0.content h.2 in (suc b.0, (h.0, h.1, b.1)),
    )
      where
        unfolded : (levels : ℕ) → IsWithin By levels library key → (part : OtherPart) × (find key_cmp (macro_key key) library.parts ≡ Some (component.Macro part)) × By (IsLeast By library) part.content
        unfolded zero w = absurd w
        unfolded (suc levels) w = (w.0, w.1, to (IsWithin By levels library) (IsLeast By library) w.0.content (λ k s v. (levels, v)) w.2)

module _ (library : Library) where
  mutual
    -- what is reached is reached within some levels
    reach_bounded : (c : Content) → ReachesBy (IsLeast ReachesBy library) c → (levels : ℕ) × ReachesBy (IsWithin ReachesBy levels library) c
    reach_bounded (Value item) r = (0, tt)
    reach_bounded (Vals list) r = (0, tt)
    reach_bounded (Macro key b) r = r
    reach_bounded (Sequence' shape parts b) r = one_bounded parts r
    reach_bounded (Alternate' shape parts b) r = one_bounded parts r
    reach_bounded Empty r = absurd r
    reach_bounded Text r = absurd r
    reach_bounded (Element key b) r = absurd r
    reach_bounded (Class key p b) r = absurd r
    reach_bounded (Any c b) r = absurd r

    -- the same of one of several parts
    one_bounded : {n : _} (parts : Row_of-Content n) → OneReachesBy (IsLeast ReachesBy library) parts → (levels : ℕ) × OneReachesBy (IsWithin ReachesBy levels library) parts
    one_bounded end_of-Content r = absurd r
    one_bounded (more_of-Content part parts) r =
        ⊎_elim (λ h. let b = reach_bounded part h in (b.0, inl b.1)) (λ h. let b = one_bounded parts h in (b.0, inr b.1)) r

  mutual
    -- and so is data content
    data_bounded : (c : Content) → IsDataBy (IsLeast IsDataBy library) c → (levels : ℕ) × IsDataBy (IsWithin IsDataBy levels library) c
    data_bounded (Value item) r = (0, tt)
    data_bounded (Vals list) r = (0, tt)
    data_bounded (Macro key b) r = (r.1.0, (r.0, r.1.1))
    data_bounded (Alternate' shape parts b) r = let a = all_bounded parts r.2 in (a.0, (r.0, r.1, a.1))
    data_bounded (Sequence' shape parts b) r = absurd r
    data_bounded Empty r = absurd r
    data_bounded Text r = absurd r
    data_bounded (Element key b) r = absurd r
    data_bounded (Class key p b) r = absurd r
    data_bounded (Any c b) r = absurd r

    -- the same of all of them
    all_bounded : {n : _} (parts : Row_of-Content n) → AreDataBy (IsLeast IsDataBy library) parts → (levels : ℕ) × AreDataBy (IsWithin IsDataBy levels library) parts
    all_bounded end_of-Content r = (0, tt)
    all_bounded (more_of-Content part parts) r =
        let one = data_bounded part r.0 in
        let more = all_bounded parts r.1 in
        let all = one.0 + more.0 in (
          all,
          (
            data_by (IsWithin IsDataBy one.0 library) (IsWithin IsDataBy all library) part (λ k s. some_more IsDataBy data_by library one.0 all (omega arith) k) one.1,
            all_data (IsWithin IsDataBy more.0 library) (IsWithin IsDataBy all library) parts (λ k s. some_more IsDataBy data_by library more.0 all (omega arith) k) more.1,
          ),
        )

  -- a macro reaches data exactly where its content does
  pub macro_reaches : (key : List ℕ) → IsLeast ReachesBy library key ↔ ((part : OtherPart) × (find key_cmp (macro_key key) library.parts ≡ Some (component.Macro part)) × ReachesBy (IsLeast ReachesBy library) part.content)
  macro_reaches = least_is ReachesBy reaches_by library reach_bounded

  -- and its content is data content exactly where it is
  pub macro_data : (key : List ℕ) → IsLeast IsDataBy library key ↔ ((part : OtherPart) × (find key_cmp (macro_key key) library.parts ≡ Some (component.Macro part)) × IsDataBy (IsLeast IsDataBy library) part.content)
  macro_data = least_is IsDataBy data_by library data_bounded
