-- The entries of a library, asked one after the other.
use Rattle.std.proofs.Common.{◌≡◌, ◌≢◌, ◌≤◌, ◌<◌, ◌+◌, ◌⊎◌, ℕ, inl, inr, List, get_or, length, sym, ap, subst, arith, ◌∙◌}
use Rattle.std.proofs.lemmas.Bool.{cases_order}
use Rattle.std.proofs.lemmas.Option.{same_Some, slice_get-get_or, slice_get_within}
use Rattle.std.specs.Cmp.{tied_itself}
use Rattle.std.specs.FinMap.{find, is_sorted}
use Rattle.std.specs.Prelude.{IsTrue, Some}
use Rattle.std.specs.declared.cmp.Ordering.TheVariants.{Equal, Greater}
use Rattle.odd_library.specs.declared.library.Component.{Component}
use Rattle.odd_library.specs.declared.library.Library.{Library}
use Rattle.odd_text.specs.Key.{key_cmp}
use Rattle.odd_text.specs.KeyOrder.{key_total}
use Rattle.odd_text.specs.declared.key.Key.{Key}
use Rattle.odd_classes.proofs.Places.{held_at, places_rise}
use Rattle.odd_classes.specs.Placing.{IsEntryAt}

-- a place has one component
pub one_entry : (es : List (Key × Component)) (place : ℕ) (key other : Key) (part others : Component) → IsEntryAt es place key part → IsEntryAt es place other others → (key ≡ other) × (part ≡ others)
one_entry es place key other part others at also =
    let same : ◌≡◌ {A = Key × Component} (key, part) (other, others) = same_Some (key, part) (other, others) (sym at ∙ also) in
    (ap (λ (e : Key × Component). e.0) same, ap (λ (e : Key × Component). e.1) same)

module _ (library : Library) (Is : Component → Type 0) where
  -- no component before a place is such
  abbrev pub NoneUpTo : ℕ → Type 0
  NoneUpTo at = (place : ℕ) (key : Key) (part : Component) → place < at → IsEntryAt library.parts place key part → Is part → ⊥

  -- where the one at the next place is not either, none up to there is
  pub none_more : (at : ℕ) (key : Key) (part : Component) → NoneUpTo at → IsEntryAt library.parts at key part → (Is part → ⊥) → NoneUpTo (at + 1)
  none_more at key part before is not place other others less there such = by_order (cases_order place at)
    where
      by_order : (place ≡ at) ⊎ ((place < at) ⊎ (at < place)) → ⊥
      by_order (inl same) = not (subst Is (one_entry library.parts at other key others part (subst (λ p. IsEntryAt library.parts p other others) same there) is).1 such)
      by_order (inr (inl earlier)) = before place other others earlier there such
      by_order (inr (inr later)) = absurd (omega arith)

  -- where none up to the end is, none is held
  pub none_held : (at : ℕ) → length library.parts ≤ at → NoneUpTo at → (key : Key) (part : Component) → find key_cmp key library.parts ≡ Some part → Is part → ⊥
  none_held at end before key part held such =
      let there = held_at library.parts key part held in
      let within = slice_get_within library.parts there.0 (key, part) there.1 in
      before there.0 key part (omega arith) there.1 such

  -- where none before a place is, no key of one that is stands before that at the place
  pub none_earlier : IsTrue (is_sorted key_cmp library.parts) → (at : ℕ) (key : Key) (part : Component) → NoneUpTo at → IsEntryAt library.parts at key part
      → (other : Key) (others : Component) → find key_cmp other library.parts ≡ Some others → Is others → key_cmp key other ≢ Greater
  none_earlier up at key part before is other others held such greater =
      let there = held_at library.parts other others held in
      by_order there.0 there.1 (cases_order at there.0)
    where
      by_order : (place : ℕ) → IsEntryAt library.parts place other others → (at ≡ place) ⊎ ((at < place) ⊎ (place < at)) → ⊥
      by_order place there (inl same) =
          let one = (one_entry library.parts place key other part others (subst (λ p. IsEntryAt library.parts p key part) same is) there).0 in
          let tied : key_cmp key key ≡ Equal = tied_itself key_total key in
          let far : key_cmp key key ≡ Greater = subst (λ k. key_cmp key k ≡ Greater) (sym one) greater in
          cc
      by_order place there (inr (inl earlier)) = let less = places_rise library.parts up at place key other part others earlier is there in cc
      by_order place there (inr (inr later)) = before place other others later there such

-- an entry is what is read at its place
pub entry_got : (es : List (Key × Component)) (place : ℕ) (key : Key) (part : Component) (d : Key × Component) → IsEntryAt es place key part → get_or es place d ≡ (key, part)
entry_got es place key part d at = same_Some _ _ (sym (slice_get-get_or es place d (slice_get_within es place (key, part) at)) ∙ at)
