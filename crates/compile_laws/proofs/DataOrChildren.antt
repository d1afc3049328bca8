-- Where a library breaks no rule, the content of each held component reaches no data or is data content.
use Rattle.std.proofs.Common.{◌≡◌, ◌↔◌, ◌⊎◌, ℕ, zero, suc, true, List, [], Option, Some, None, inl, inr, ⊎_elim, refl, sym, ap, subst, ◌∙◌}
use Rattle.std.proofs.lemmas.Bool.{false≢true}
use Rattle.std.specs.FinMap.{find}
use Rattle.std.specs.Prelude.{IsSome}
use Rattle.compile_defines.proofs.Standing.{IsMacroAt, stands_either, stands_filter, stands_left, stands_right}
use Rattle.odd_classes.proofs.DataLaws.{macro_data, macro_reaches}
use Rattle.odd_classes.proofs.Linked.{held}
use Rattle.odd_content.specs.Formed.{once}
use Rattle.odd_content.specs.declared.content.Content.{Content, Empty, Text, Value, Vals, Element, Class, Macro, Any, Sequence', Alternate', Row_of-Content, end_of-Content, more_of-Content}
use Rattle.odd_library.specs.Formed.{IsFormedLibrary}
use Rattle.odd_library.specs.declared.library.Component.{Component}
use Rattle.odd_library.specs.declared.library.Component.TheVariants as component
use Rattle.odd_library.specs.declared.library.Library.{Library}
use Rattle.odd_library.specs.declared.library.OtherPart.{OtherPart}
use Rattle.odd_meaning.specs.Data.{AreDataBy, HasPart, IsDataBy, IsDataContent, IsLeast, OfMacros, OneReachesBy, ReachesBy, ReachesData, own_content}
use Rattle.odd_meaning.specs.Links.{IsHeld, is_macro, macro_key, macros_of, named_by, named_by_edits, named_in, named_in_parts}
use Rattle.odd_meaning.specs.Rules.{Breaks, macro_not_held, mixes_data, reaches_itself}
use Rattle.odd_text.specs.Key.{key_cmp}
use Rattle.odd_text.specs.declared.key.Key.{Key}
use Rattle.odd_text.specs.declared.key.Kind.TheVariants as kind
use Rattle.odd_text.proofs.InList.{nothing_stands, only_item, stands_first}
use Rattle.odd_text.specs.Standing.{StandsIn}
use Rattle.rng_types.specs.declared.bounds.Bounds.{Bounds}
use Rattle.compile_laws.proofs.Ranked.{each_ranked, of_macros}

-- it holds, or it does not
abbrev IsDecided : Type 0 → Type 0
IsDecided A = A ⊎ (A → ⊥)

-- so it is for both of two, for one of them, and for what holds where another does
both_or : {A B : Type 0} → IsDecided A → IsDecided B → IsDecided (A × B)
both_or a b = ⊎_elim (λ x. ⊎_elim (λ y. inl (x, y)) (λ n. inr (λ h. n h.1)) b) (λ n. inr (λ h. n h.0)) a

same_or : {A B : Type 0} → (A → B) → (B → A) → IsDecided A → IsDecided B
same_or to back a = ⊎_elim (λ x. inl (to x)) (λ n. inr (λ h. n (back h))) a

one_or : {A B : Type 0} → IsDecided A → IsDecided B → IsDecided (A ⊎ B)
one_or a b = ⊎_elim (λ x. inl (inl x)) (λ n. ⊎_elim (λ y. inl (inr y)) (λ m. inr (λ h. ⊎_elim n m h)) b) a

-- bounds are those of what stands once, or are not
once_or : (b : Bounds) → IsDecided (b ≡ once)
once_or b = by b.min b.max
  where
    by : (min : ℕ) (max : Option ℕ) → IsDecided (record { min = min; max = max } ≡ once)
    by zero max = inr (λ e. let m : 0 ≡ 1 = ap (λ (x : Bounds). x.min) e in cc)
    by (suc (suc n)) max = inr (λ e. let m : suc (suc n) ≡ 1 = ap (λ (x : Bounds). x.min) e in cc)
    by (suc zero) None = inr (λ e. let m : None ≡ Some 1 = ap (λ (x : Bounds). x.max) e in cc)
    by (suc zero) (Some zero) = inr (λ e. let m : Some 0 ≡ Some 1 = ap (λ (x : Bounds). x.max) e in cc)
    by (suc zero) (Some (suc zero)) = inl refl
    by (suc zero) (Some (suc (suc n))) = inr (λ e. let m : Some (suc (suc n)) ≡ Some 1 = ap (λ (x : Bounds). x.max) e in cc)

-- there is a part, or none
part_or : {n : _} (parts : Row_of-Content n) → IsDecided (HasPart parts)
part_or end_of-Content = inr (λ h. h)
part_or (more_of-Content part parts) = inl tt

-- what is said of macros is decided of each that is named
abbrev AreDecided : OfMacros → List Key → Type 0
AreDecided macros named = (key : List ℕ) → StandsIn named (macro_key key) → IsDecided (macros key)

module _ (macros : OfMacros) where
  mutual
    -- so a content reaches data or does not
    reaches_or : (c : Content) → AreDecided macros (named_in c) → IsDecided (ReachesBy macros c)
    reaches_or (Value item) a = inl tt
    reaches_or (Vals list) a = inl tt
    reaches_or (Macro key b) a = a key (stands_first (macro_key key) [])
    reaches_or (Sequence' shape parts b) a = one_reaches_or parts a
    reaches_or (Alternate' shape parts b) a = one_reaches_or parts a
    reaches_or c a = inr (λ h. h)

    one_reaches_or : {n : _} (parts : Row_of-Content n) → AreDecided macros (named_in_parts parts) → IsDecided (OneReachesBy macros parts)
    one_reaches_or end_of-Content a = inr (λ h. h)
    one_reaches_or (more_of-Content part parts) a =
        one_or (reaches_or part (λ k s. a k (stands_left (named_in part) (named_in_parts parts) (macro_key k) s))) (one_reaches_or parts (λ k s. a k (stands_right (named_in part) (named_in_parts parts) (macro_key k) s)))

  mutual
    -- and is data content or not
    data_or : (c : Content) → AreDecided macros (named_in c) → IsDecided (IsDataBy macros c)
    data_or (Value item) a = inl tt
    data_or (Vals list) a = inl tt
    data_or (Macro key b) a = both_or (once_or b) (a key (stands_first (macro_key key) []))
    data_or (Alternate' shape parts b) a = same_or (λ h. (h.0, h.1.0, h.1.1)) (λ h. (h.0, (h.1, h.2))) (both_or (once_or b) (both_or (part_or parts) (all_data_or parts a)))
    data_or c a = inr (λ h. h)

    all_data_or : {n : _} (parts : Row_of-Content n) → AreDecided macros (named_in_parts parts) → IsDecided (AreDataBy macros parts)
    all_data_or end_of-Content a = inl tt
    all_data_or (more_of-Content part parts) a =
        both_or (data_or part (λ k s. a k (stands_left (named_in part) (named_in_parts parts) (macro_key k) s))) (all_data_or parts (λ k s. a k (stands_right (named_in part) (named_in_parts parts) (macro_key k) s)))

  mutual
    -- it reaches data where a macro that it names does
    named_reaches : (c : Content) (key : List ℕ) → StandsIn (named_in c) (macro_key key) → macros key → ReachesBy macros c
    named_reaches (Value item) key s h = tt
    named_reaches (Vals list) key s h = tt
    named_reaches (Macro other b) key s h = subst macros (ap (λ (x : Key). x.ident) (only_item _ _ s)) h
    named_reaches (Sequence' shape parts b) key s h = one_named_reaches parts key s h
    named_reaches (Alternate' shape parts b) key s h = one_named_reaches parts key s h
    named_reaches Empty key s h = absurd (nothing_stands _ s)
    named_reaches Text key s h = absurd (nothing_stands _ s)
    named_reaches (Element other b) key s h = let e = ap (λ (x : Key). x.kind) (only_item _ _ s) in let k : kind.Macro ≡ kind.Element = e in cc
    named_reaches (Class other p b) key s h = let e = ap (λ (x : Key). x.kind) (only_item _ _ s) in let k : kind.Macro ≡ kind.Class = e in cc
    named_reaches (Any c b) key s h = absurd (nothing_stands _ s)

    one_named_reaches : {n : _} (parts : Row_of-Content n) (key : List ℕ) → StandsIn (named_in_parts parts) (macro_key key) → macros key → OneReachesBy macros parts
    one_named_reaches end_of-Content key s h = absurd (nothing_stands _ s)
    one_named_reaches (more_of-Content part parts) key s h =
        ⊎_elim (λ a. inl (named_reaches part key a h)) (λ b. inr (one_named_reaches parts key b h)) (stands_either (named_in part) (named_in_parts parts) (macro_key key) s)

-- a component names what its own content does
own_named : (part : Component) (content : Content) → own_content part ≡ Some content → (key : Key) → StandsIn (named_in content) key → StandsIn (named_by part) key
own_named (component.Element part) content e key s =
    let same : content ≡ part.content = cc in
    stands_left (named_in part.content) (named_by_edits part.atts) key (subst (λ c. StandsIn (named_in c) key) same s)
own_named (component.Macro part) content e key s = let same : content ≡ part.content = cc in subst (λ c. StandsIn (named_in c) key) same s
own_named (component.Class part) content e key s = cc
own_named (component.Datatype part) content e key s = cc

module _ (library : Library) where
  -- no macro that a content names reaches data where the content does not
  pub no_data_of_macro : (content : Content) → (ReachesData library content → ⊥) → (ident : List ℕ) → StandsIn (named_in content) (macro_key ident) → (part : OtherPart) → IsMacroAt library ident part
      → ReachesData library part.content → ⊥
  no_data_of_macro content not ident s part held r = not (named_reaches (IsLeast ReachesBy library) content ident s ((macro_reaches library ident).1 (part, held, r)))

  -- what is decided of the content of a macro is decided of the macro
  macro_or : (By : OfMacros → Content → Type 0) (ident : List ℕ) → IsLeast By library ident ↔ ((part : OtherPart) × IsMacroAt library ident part × By (IsLeast By library) part.content)
      → (part : OtherPart) → IsMacroAt library ident part → IsDecided (By (IsLeast By library) part.content) → IsDecided (IsLeast By library ident)
  macro_or By ident least part held =
      ⊎_elim (λ h. inl (least.1 (part, held, h))) (λ not. inr (λ l. let is = least.0 l in not (subst (λ (p : OtherPart). By (IsLeast By library) p.content) (same_part is.0 is.1) is.2)))
    where
      same_part : (other : OtherPart) → IsMacroAt library ident other → other ≡ part
      same_part other also = let same : Some (component.Macro other) ≡ Some (component.Macro part) = sym also ∙ held in cc

  module _ (f : IsFormedLibrary library) (none : (key : Key) (rule : ℕ) → Breaks library key rule → ⊥) where
    -- a macro that a component names is held
    pub named_macro_held : (key : Key) (part : Component) → find key_cmp key library.parts ≡ Some part → (ident : List ℕ) → StandsIn (named_by part) (macro_key ident) → IsHeld library (macro_key ident)
    named_macro_held key part is_there ident s = by (find key_cmp (macro_key ident) library.parts) refl
      where
        by : (o : Option Component) → find key_cmp (macro_key ident) library.parts ≡ o → IsSome o
        by None e = absurd (none key 11 (macro_not_held ident (record { part = part; held = is_there; among = s }) (λ h. false≢true (subst IsSome e h))))
        by (Some there) e = refl

    -- it reaches data or does not, and is of data content or not
    record IsDecidedMacro (ident : List ℕ) : Type 0 where
      reaches : IsDecided (IsLeast ReachesBy library ident)
      is_data : IsDecided (IsLeast IsDataBy library ident)

    next_decided : (ident : List ℕ) (part : Component) → find key_cmp (macro_key ident) library.parts ≡ Some part
        → ((other : List ℕ) → StandsIn (macros_of part) (macro_key other) → IsHeld library (macro_key other) → IsDecidedMacro other) → IsDecidedMacro ident
    next_decided ident (component.Macro part) there others =
        let each : (key : List ℕ) → StandsIn (named_in part.content) (macro_key key) → IsDecidedMacro key =
        λ key s. others key (stands_filter (λ k. is_macro k.kind) (named_in part.content) (macro_key key) s refl) (named_macro_held (macro_key ident) (component.Macro part) there key s) in
        record {
          reaches = macro_or ReachesBy ident (macro_reaches library ident) part there (reaches_or (IsLeast ReachesBy library) part.content (λ key s. (each key s).reaches));
          is_data = macro_or IsDataBy ident (macro_data library ident) part there (data_or (IsLeast IsDataBy library) part.content (λ key s. (each key s).is_data));
        }
    next_decided ident part there others = absurd (f.formed (macro_key ident) part there).1

    -- so is each held macro
    macro_decided : (ident : List ℕ) → IsHeld library (macro_key ident) → IsDecidedMacro ident
    macro_decided ident h =
        let there = held (macro_key ident) library h in
        each_ranked library macros_of macro_key of_macros (λ other loop. none (macro_key other) 14 (reaches_itself other loop)) (λ levels. IsDecidedMacro) (λ levels. next_decided) ident there.0 there.1

    -- and what reaches data and is no data content would break a rule
    pub data_or_none : (key : Key) (part : Component) (content : Content) → find key_cmp key library.parts ≡ Some part → own_content part ≡ Some content
        → (ReachesData library content → ⊥) ⊎ IsDataContent library content
    data_or_none key part content there own =
        let each : (ident : List ℕ) → StandsIn (named_in content) (macro_key ident) → IsDecidedMacro ident =
        λ ident s. macro_decided ident (named_macro_held key part there ident (own_named part content own (macro_key ident) s)) in
        let reached : ReachesData library content → IsDataContent library content =
        λ r. ⊎_elim (λ d. d) (λ not. absurd (none key 18 (mixes_data (record { part = part; content = content; held = there; own = own; reaches = r; mixed = not }))))
        (data_or (IsLeast IsDataBy library) content (λ ident s. (each ident s).is_data)) in
        ⊎_elim (λ r. inr (reached r)) (λ not. inl not) (reaches_or (IsLeast ReachesBy library) content (λ ident s. (each ident s).reaches))
