use Rattle.std.proofs.Common.{◌≡◌, ℕ, None, Some, subst}
use Rattle.std.proofs.lemmas.Option.{slice_get_within}
use Rattle.odd_library.specs.Odd.{element_key}
use Rattle.odd_meaning.specs.Rules.{BreaksWithin, IsFirstBreak}
use Rattle.odd_text.specs.declared.key.Key.{Key}
use Rattle.odd_classes.proofs.Asking.{first_contradicting, first_sharing, none_contradicts, none_offends, none_shares}
use Rattle.odd_classes.proofs.OfferTables.{are_offers}
use Rattle.odd_classes.specs.Offered.{AreByIdent, IsFirstBreaking}
use Rattle.odd_classes.specs.declared.rules.LibraryRefusal.{LibraryRefusal}
use Rattle.odd_classes.specs.declared.rules.LibraryRefusal.TheVariants as refusal
use Rattle.odd_classes.proofs.offer_lists.check_offers.Goals as goal

-- what holds of the key and the rule that are refused holds of those that are told
told_as : (Is : Key → ℕ → Type 0) (from : LibraryRefusal) (one key : Key) (n rule : ℕ) → from ≡ refusal.Rule one n → from ≡ refusal.Rule key rule → Is one n → Is key rule
told_as Is from one key n rule a b is =
    let keys : one ≡ key = cc in
    let rules : n ≡ rule = cc in
    subst (λ k. Is k rule) keys (subst (Is one) rules is)

pub returns-in-Some-clause-first : goal.returns-in-Some-clause-first
returns-in-Some-clause-first c = λ key rule is.
    let library = c.args.library.now in
    let answers = c.in_ok-answers.answers.items in
    let are = c.in_ok-answers.ensures in
    let found = subst (λ a. IsFirstBreaking a 15 (Some c.in-Some.place)) c.as_slice.ensures.value c.in-Some.ensures in
    let right = are.right c.in-Some.place _ found.0 in
    let given : c.in_ok-refusal_at.field-0 ≡ refusal.Rule key rule = cc in
    told_as (IsFirstBreak (BreaksWithin 15 16 library)) c.in_ok-refusal_at.field-0 (element_key right.0) key 15 rule (c.in_ok-refusal_at.ensures (element_key right.0) right.1) given
    (first_contradicting library answers are c.requires.unlooped c.entries-entries.ensures.rising c.in-Some.place found (element_key right.0) right.1)

pub refusal_at-requires-in-Some-first_breaking : goal.refusal_at-requires-in-Some-first_breaking
refusal_at-requires-in-Some-first_breaking c =
    let are = c.in_ok-answers.ensures in
    let found = subst (λ a. IsFirstBreaking a 16 (Some c.in-Some-first_breaking.place)) c.as_slice-2.ensures.value c.in-Some-first_breaking.ensures in
    let right = are.right c.in-Some-first_breaking.place _ found.0 in
    slice_get_within c.args.library.now.parts c.in-Some-first_breaking.place (element_key right.0, right.1.0) right.1.1

pub returns-in-Some-first_breaking-clause-first : goal.returns-in-Some-first_breaking-clause-first
returns-in-Some-first_breaking-clause-first c = λ key rule is.
    let library = c.args.library.now in
    let answers = c.in_ok-answers.answers.items in
    let are = c.in_ok-answers.ensures in
    let agrees = none_contradicts library answers are c.requires.unlooped (subst (λ a. IsFirstBreaking a 15 None) c.as_slice.ensures.value c.in_default.ensures) in
    let found = subst (λ a. IsFirstBreaking a 16 (Some c.in-Some-first_breaking.place)) c.as_slice-2.ensures.value c.in-Some-first_breaking.ensures in
    let right = are.right c.in-Some-first_breaking.place _ found.0 in
    let given : c.in_ok-refusal_at-2.field-0 ≡ refusal.Rule key rule = cc in
    told_as (IsFirstBreak (BreaksWithin 15 16 library)) c.in_ok-refusal_at-2.field-0 (element_key right.0) key 16 rule (c.in_ok-refusal_at-2.ensures (element_key right.0) right.1) given
    (first_sharing library answers are c.requires.unlooped c.entries-entries.ensures.rising agrees c.in-Some-first_breaking.place found (element_key right.0) right.1)

pub returns-clause-offers : goal.returns-clause-offers
returns-clause-offers c =
    let library = c.args.library.now in
    let answers = c.in_ok-answers.answers.items in
    let are = c.in_ok-answers.ensures in
    let agrees = none_contradicts library answers are c.requires.unlooped (subst (λ a. IsFirstBreaking a 15 None) c.as_slice.ensures.value c.in_default.ensures) in
    let apart = none_shares library answers are c.requires.unlooped agrees (subst (λ a. IsFirstBreaking a 16 None) c.as_slice-2.ensures.value c.in_default-first_breaking.ensures) in
    are_offers library answers are c.requires.unlooped agrees apart c.in_ok-givens.givens (subst (λ es. AreByIdent es answers c.in_ok-givens.givens) c.entries-entries.ensures.all c.in_ok-givens.ensures)

pub returns-clause-none : goal.returns-clause-none
returns-clause-none c = λ ok.
    let library = c.args.library.now in
    let answers = c.in_ok-answers.answers.items in
    let are = c.in_ok-answers.ensures in
    let agrees = none_contradicts library answers are c.requires.unlooped (subst (λ a. IsFirstBreaking a 15 None) c.as_slice.ensures.value c.in_default.ensures) in
    none_offends library answers are c.requires.unlooped agrees (subst (λ a. IsFirstBreaking a 16 None) c.as_slice-2.ensures.value c.in_default-first_breaking.ensures)
