-- The map of macros tells of each what holds of it, one macro after the other.
use Rattle.std.proofs.Common.{◌≡◌, ◌↔◌, ◌++◌, ◌∷◌, ◌<◌, ◌≤◌, ◌+◌, ℕ, Bool, List, [], Some, true, false, is_some, length, take, drop, get_or, inl, inr, ⊎_elim, refl, sym, ap, subst, ◌∙◌, if◌then◌else◌}
use Rattle.std.proofs.lemmas.Bool.{false≢true}
use Rattle.std.proofs.lemmas.Cmp.{nat_list_cmp_total}
use Rattle.std.proofs.lemmas.List.{take-append-drop, take_all}
use Rattle.std.proofs.lemmas.Map.Views.{tells_apart}
use Rattle.std.proofs.lemmas.Option.{same_Some}
use Rattle.std.specs.Cmp.{tied_itself}
use Rattle.std.specs.FinMap.{find, nat_cmp-IsAntisymmetric, slice_cmp-IsAntisymmetric}
use Rattle.std.specs.Ordering.{eq_by_cmp, is_eq}
use Rattle.std.specs.Prelude.{IsTrue}
use Rattle.odd_content.specs.declared.content.Content.{Content}
use Rattle.odd_library.specs.declared.library.Component.TheVariants as component
use Rattle.odd_library.specs.declared.library.Library.{Library}
use Rattle.odd_library.specs.declared.library.OtherPart.{OtherPart}
use Rattle.odd_meaning.specs.Data.{IsDataBy, IsLeast, OfMacros, ReachesBy}
use Rattle.odd_meaning.specs.Links.{IsLinked, is_macro, macro_key, macros_of, named_in}
use Rattle.odd_meaning.specs.Rules.{Breaks, reaches_itself}
use Rattle.odd_text.specs.Key.{key_cmp}
use Rattle.odd_text.specs.Map.{SetsOnly}
use Rattle.odd_text.specs.Text.{text_cmp}
use Rattle.odd_text.specs.declared.key.Key.{Key}
use Rattle.odd_text.proofs.InList.{begins, ends, nothing_stands, stands_push}
use Rattle.odd_text.specs.Standing.{StandsIn}
use Rattle.odd_classes.proofs.OfKind.{stands_among}
use Rattle.odd_classes.proofs.DataLaws.{IsByNamed, data_by, macro_data, macro_reaches, reaches_by}
use Rattle.odd_classes.specs.DataFacts.{AreFactsOf, Facts, HasFacts, TellsData, TellsReaches}
use Rattle.odd_classes.specs.Ranking.{IsMacroOrder}
use Rattle.odd_classes.specs.declared.data.DataFacts.{DataFacts}

-- idents that tie are one
one_ident : (a b : List ℕ) → eq_by_cmp text_cmp a b ≡ true → a ≡ b
one_ident = tells_apart (slice_cmp-IsAntisymmetric nat_cmp-IsAntisymmetric)

module _ (library : Library) where
  -- the macro is held with this content
  abbrev pub IsMacro : List ℕ → OtherPart → Type 0
  IsMacro ident part = find key_cmp (macro_key ident) library.parts ≡ Some (component.Macro part)

  -- of these macros it tells what is the least
  abbrev TellsOf : (OfMacros → Content → Type 0) → List (List ℕ) → OfMacros → Type 0
  TellsOf By idents tells = (ident : List ℕ) → tells ident ↔ (StandsIn idents ident × IsLeast By library ident)

  module _ (By : OfMacros → Content → Type 0) (to : IsByNamed By) (least : (ident : List ℕ) → IsLeast By library ident ↔ ((part : OtherPart) × IsMacro ident part × By (IsLeast By library) part.content)) where
    -- of none
    tells_none : (tells : OfMacros) → ((ident : List ℕ) → tells ident → ⊥) → TellsOf By [] tells
    tells_none tells none ident = (λ h. absurd (none ident h), λ s. absurd (nothing_stands ident s.0))

    module _ (before : List (List ℕ)) (ident : List ℕ) (tells : OfMacros) (so_far : TellsOf By before tells) where
      -- a content is such by what is told where it is
      content_told : (part : OtherPart) → IsMacro ident part → ((other : List ℕ) → IsLinked macros_of library (macro_key ident) (macro_key other) → StandsIn before other)
          → By tells part.content ↔ IsLeast By library ident
      content_told part held named = (
        λ h. (least ident).1 (part, held, to tells (IsLeast By library) part.content (λ key s t. ((so_far key).0 t).1) h),
        λ l.
            let is = (least ident).0 l in
            to (IsLeast By library) tells part.content (λ key s t. (so_far key).1 (among key s t, t)) (subst (λ (p : OtherPart). By (IsLeast By library) p.content) (same_part is.0 is.1) is.2),
      )
        where
          same_part : (other : OtherPart) → IsMacro ident other → other ≡ part
          same_part other also = let same = same_Some _ _ (sym also ∙ held) in cc

          among : (key : List ℕ) → StandsIn (named_in part.content) (macro_key key) → IsLeast By library key → StandsIn before key
          among key s t = named key (record { part = component.Macro part; held = held; among = stands_among (λ k. is_macro k.kind) (named_in part.content) (macro_key key) refl s; other_held = ap is_some ((least key).0 t).1 })

      -- with one macro more that is told of
      tells_more : (now : OfMacros) → now ident ↔ IsLeast By library ident → ((other : List ℕ) → (other ≡ ident → ⊥) → now other ↔ tells other) → TellsOf By (before ++ ident ∷ []) now
      tells_more now here others asked = by_key (eq_by_cmp text_cmp asked ident) refl
        where
          by_key : (b : Bool) → eq_by_cmp text_cmp asked ident ≡ b → now asked ↔ (StandsIn (before ++ ident ∷ []) asked × IsLeast By library asked)
          by_key true e =
              let same = one_ident asked ident e in
              subst (λ i. now i ↔ (StandsIn (before ++ ident ∷ []) i × IsLeast By library i)) (sym same) (λ h. ((stands_push before ident ident).1 (inr refl), here.0 h), λ s. here.1 s.1)
          by_key false e =
              let not : asked ≡ ident → ⊥ = λ same. false≢true (sym e ∙ ap is_eq (ap (text_cmp asked) (sym same) ∙ tied_itself nat_list_cmp_total asked)) in
              let other = others asked not in
              let push = stands_push before ident asked in (
                λ h. let s = (so_far asked).0 (other.0 h) in (push.1 (inl s.0), s.1),
                λ s. other.1 ((so_far asked).1 (⊎_elim (λ w. w) (λ same. absurd (not (sym same))) (push.0 s.0), s.1)),
              )

      -- and with what is no macro
      tells_same : ((part : OtherPart) → IsMacro ident part → ⊥) → TellsOf By (before ++ ident ∷ []) tells
      tells_same none asked = (
        λ h. let s = (so_far asked).0 h in ((stands_push before ident asked).1 (inl s.0), s.1),
        λ s. ⊎_elim
            (λ w. (so_far asked).1 (w, s.1))
            (λ same. let is = (least ident).0 (subst (IsLeast By library) (sym same) s.1) in absurd (none is.0 is.1))
            ((stands_push before ident asked).0 s.0),
      )

    -- at the end of all
    tells_all : ((key : Key) → Breaks library key 14 → ⊥) → (idents : List (List ℕ)) → IsMacroOrder library idents → (tells : OfMacros) → TellsOf By idents tells
        → (ident : List ℕ) → tells ident ↔ IsLeast By library ident
    tells_all no_loop idents order tells all ident = (
      λ h. ((all ident).0 h).1,
      λ l.
          let is = (least ident).0 l in
          (all ident).1 ((order.each ident).1 (ap is_some is.1, λ other or loops. no_loop (macro_key other) (reaches_itself other loops)), l),
    )

  -- the map tells what holds of these macros
  pub record FactsSoFar (idents : List (List ℕ)) (macros : Facts) : Type 0 where
    pub reaches : TellsOf ReachesBy idents (TellsReaches macros)
    pub is_data : TellsOf IsDataBy idents (TellsData macros)

  module _ (macros : Facts) (ident : List ℕ) (facts : DataFacts) (found : find text_cmp ident macros ≡ Some facts) where
    -- the macro reaches data by the map where the facts say so
    told_reaches : TellsReaches macros ident ↔ IsTrue facts.reaches
    told_reaches = (λ h. subst (λ (f : DataFacts). IsTrue f.reaches) (same_Some _ _ (sym h.1 ∙ found)) h.2, λ h. (facts, found, h))

    -- and its content is data content
    told_data : TellsData macros ident ↔ IsTrue facts.is_data
    told_data = (λ h. subst (λ (f : DataFacts). IsTrue f.is_data) (same_Some _ _ (sym h.1 ∙ found)) h.2, λ h. (facts, found, h))

  -- an empty map tells of none
  pub facts_none : FactsSoFar [] []
  facts_none = record {
    reaches = tells_none ReachesBy reaches_by (macro_reaches library) (TellsReaches []) (λ ident h. let none = h.1 in cc);
    is_data = tells_none IsDataBy data_by (macro_data library) (TellsData []) (λ ident h. let none = h.1 in cc);
  }

  module _ (idents : List (List ℕ)) (order : IsMacroOrder library idents) (i : ℕ) (ident : List ℕ) (macros : Facts) (so_far : FactsSoFar (take i idents) macros) (within : i < length idents) (at : ident ≡ get_or idents i ident) where
    -- the macros that its content names stand before it
    named : (other : List ℕ) → IsLinked macros_of library (macro_key ident) (macro_key other) → StandsIn (take i idents) other
    named other = order.after (take i idents) (drop (i + 1) idents) ident other (sym (take-append-drop i idents) ∙ ap (λ xs. take i idents ++ xs) (begins idents i ident within at))

    -- the facts of the next macro are put
    pub facts_more : (part : OtherPart) (facts : DataFacts) (now : Facts) → IsMacro ident part → HasFacts macros part.content facts → SetsOnly text_cmp macros now ident facts → FactsSoFar (take (i + 1) idents) now
    facts_more part facts now held has sets =
        let told = told_reaches now ident facts here in
        let told_too = told_data now ident facts here in
        let reach = content_told ReachesBy reaches_by (macro_reaches library) (take i idents) ident (TellsReaches macros) so_far.reaches part held named in
        let data_of = content_told IsDataBy data_by (macro_data library) (take i idents) ident (TellsData macros) so_far.is_data part held named in
        rw (ends idents i ident within at) (record {
          reaches = tells_more ReachesBy reaches_by (macro_reaches library) (take i idents) ident (TellsReaches macros) so_far.reaches (TellsReaches now)
              (λ h. reach.0 (has.reaches.0 (told.0 h)), λ l. told.1 (has.reaches.1 (reach.1 l)))
              (λ other not. (λ h. (h.0, sym (same other not) ∙ h.1, h.2), λ h. (h.0, same other not ∙ h.1, h.2)));
          is_data = tells_more IsDataBy data_by (macro_data library) (take i idents) ident (TellsData macros) so_far.is_data (TellsData now)
              (λ h. data_of.0 (has.is_data.0 (told_too.0 h)), λ l. told_too.1 (has.is_data.1 (data_of.1 l)))
              (λ other not. (λ h. (h.0, sym (same other not) ∙ h.1, h.2), λ h. (h.0, same other not ∙ h.1, h.2)));
        })
      where
        here : find text_cmp ident now ≡ Some facts
        here = sets ident ∙ ap (λ b. if b then Some facts else find text_cmp ident macros) (ap is_eq (tied_itself nat_list_cmp_total ident))

        same : (other : List ℕ) → (other ≡ ident → ⊥) → find text_cmp other now ≡ find text_cmp other macros
        same other not = sets other ∙ by (eq_by_cmp text_cmp other ident) refl
          where
            by : (b : Bool) → eq_by_cmp text_cmp other ident ≡ b → (if b then Some facts else find text_cmp other macros) ≡ find text_cmp other macros
            by true e = absurd (not (one_ident other ident e))
            by false e = refl

    -- what is held at the next ident is no macro
    pub facts_same : ((part : OtherPart) → IsMacro ident part → ⊥) → FactsSoFar (take (i + 1) idents) macros
    facts_same none = rw (ends idents i ident within at) (record {
      reaches = tells_same ReachesBy reaches_by (macro_reaches library) (take i idents) ident (TellsReaches macros) so_far.reaches none;
      is_data = tells_same IsDataBy data_by (macro_data library) (take i idents) ident (TellsData macros) so_far.is_data none;
    })

  -- at the end the map tells of all macros
  pub facts_all : ((key : Key) → Breaks library key 14 → ⊥) → (idents : List (List ℕ)) → IsMacroOrder library idents → (count : ℕ) (macros : Facts) → length idents ≤ count → FactsSoFar (take count idents) macros
      → AreFactsOf library macros
  facts_all no_loop idents order count macros end so_far =
      let made = subst (λ is. FactsSoFar is macros) (take_all count idents end) so_far in
      record {
        reaches = tells_all ReachesBy reaches_by (macro_reaches library) no_loop idents order (TellsReaches macros) made.reaches;
        is_data = tells_all IsDataBy data_by (macro_data library) no_loop idents order (TellsData macros) made.is_data;
      }
