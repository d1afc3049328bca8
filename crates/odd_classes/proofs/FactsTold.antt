-- What is kept of a content holds of it.
use Rattle.std.proofs.Common.{◌≡◌, ◌↔◌, ◌⊎◌, ◌++◌, ◌∷◌, Bool, List, [], false, true, not, refl, subst, inl, inr, ⊎_elim}
use Rattle.std.proofs.lemmas.Bool.{false≢true}
use Rattle.std.specs.Prelude.{IsTrue}
use Rattle.odd_content.specs.Formed.{once}
use Rattle.odd_content.specs.declared.content.Content.{Content, Sequence, Alternate}
use Rattle.odd_meaning.specs.Data.{IsDataBy, ReachesBy}
use Rattle.odd_text.proofs.InList.{nothing_stands, once_push, stands_first, stands_push}
use Rattle.odd_text.specs.Standing.{StandsIn}
use Rattle.rng_types.specs.declared.bounds.Bounds.{Bounds}
use Rattle.odd_classes.proofs.DataLaws.{alternate_data, alternate_reaches, sequence_reaches}
use Rattle.odd_classes.specs.DataFacts.{Facts, HasFacts, HasFactsOfParts, TellsData, TellsReaches}
use Rattle.odd_classes.specs.declared.data.DataFacts.{DataFacts}

-- a list is not empty where the test says so
pub told_filled : (empty : Bool) (parts : List Content) → IsTrue empty ↔ (parts ≡ []) → IsTrue (not empty) ↔ (parts ≡ [] → ⊥)
told_filled true parts is = (λ h. absurd (false≢true h), λ filled. absurd (filled (is.0 refl)))
told_filled false parts is = (λ h e. false≢true (is.1 e), λ filled. refl)

module _ (macros : Facts) where
  -- a sequence reaches what its parts do, and is no data content
  pub sequence_facts : (parts : List Content) (b : Bounds) (given : DataFacts) → HasFactsOfParts macros parts given → HasFacts macros (Sequence parts b) (record { reaches = given.reaches; is_data = false })
  sequence_facts parts b given has =
      let all = sequence_reaches (TellsReaches macros) parts b in
      record { reaches = (λ h. all.1 (has.reaches.0 h), λ r. has.reaches.1 (all.0 r)); is_data = (λ h. absurd (false≢true h), λ h. absurd h) }

  -- an alternate is data content where it stands once, and has parts that all are
  pub alternate_facts : (parts : List Content) (b : Bounds) (given : DataFacts) (all_are : Bool) → HasFactsOfParts macros parts given → IsTrue all_are ↔ ((IsTrue given.is_data × (b ≡ once)) × (parts ≡ [] → ⊥))
      → HasFacts macros (Alternate parts b) (record { reaches = given.reaches; is_data = all_are })
  alternate_facts parts b given all_are has is =
      let all = alternate_reaches (TellsReaches macros) parts b in
      let each = alternate_data (TellsData macros) parts b in
      record {
        reaches = (λ h. all.1 (has.reaches.0 h), λ r. has.reaches.1 (all.0 r));
        is_data = (
          λ h. let w = is.0 h in each.1 (w.0.1, some parts w.1, has.is_data.0 w.0.0),
          λ d. let w = each.0 d in is.1 ((has.is_data.1 w.2, w.0), λ empty. nothing_stands w.1.0 (subst (λ ps. StandsIn ps w.1.0) empty w.1.1)),
        );
      }
    where
      some : (ps : List Content) → (ps ≡ [] → ⊥) → (part : Content) × StandsIn ps part
      some [] not = absurd (not refl)
      some (p ∷ ps) not = (p, stands_first p ps)

  -- of no parts
  pub no_parts : HasFactsOfParts macros [] (record { reaches = false; is_data = true })
  no_parts = record { reaches = (λ h. absurd (false≢true h), λ s. absurd (nothing_stands s.0 s.1)); is_data = (λ h part s. absurd (nothing_stands part s), λ h. refl) }

  -- and of one part more
  pub parts_more : (parts : List Content) (part : Content) (given of_part facts : DataFacts) → HasFactsOfParts macros parts given → HasFacts macros part of_part
      → IsTrue facts.reaches ↔ (IsTrue given.reaches ⊎ IsTrue of_part.reaches) → IsTrue facts.is_data ↔ (IsTrue given.is_data × IsTrue of_part.is_data)
      → HasFactsOfParts macros (parts ++ part ∷ []) facts
  parts_more parts part given of_part facts has of_it one both =
      let more = once_push (ReachesBy (TellsReaches macros)) parts part in
      record {
        reaches = (
          λ h. more.1 (⊎_elim (λ g. inl (has.reaches.0 g)) (λ p. inr (of_it.reaches.0 p)) (one.0 h)),
          λ s. one.1 (⊎_elim (λ g. inl (has.reaches.1 g)) (λ p. inr (of_it.reaches.1 p)) (more.0 s)),
        );
        is_data = (
          λ h other s. ⊎_elim (λ g. has.is_data.0 (both.0 h).0 other g) (λ e. subst (IsDataBy (TellsData macros)) e (of_it.is_data.0 (both.0 h).1)) ((stands_push parts part other).0 s),
          λ all. both.1 (has.is_data.1 (λ other s. all other ((stands_push parts part other).1 (inl s))), of_it.is_data.1 (all part ((stands_push parts part part).1 (inr refl)))),
        );
      }
