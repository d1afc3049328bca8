-- What was gone through stays so.
use Rattle.std.proofs.Common.{◌≡◌, ℕ, ◌<◌, Bool, List, [], length, sym, subst, inl, inr}
use Rattle.std.specs.List.{Contains}
use Rattle.std.proofs.lemmas.List.Elements.{All-nil, All-weaker}
use Rattle.odd_pool.specs.Pattern.{Pattern}
use Rattle.odd_pool.specs.Pool.{Grows}
use Rattle.odd_pool.specs.declared.walk.Way.{Way}
use Rattle.odd_pool.specs.Left.{AllBelow, Begun, HasOneMore, IsLeftOf, IsWalk}
use Rattle.odd_pool.proofs.Kept.{grows_length, grows_twice}
use Rattle.odd_pool.proofs.Members.{all_more, none_there}

module _ {L S : Type 0} (takes : L → S → Bool) (s : S) where
  pub walk_none : (now : List (Pattern L)) (members : List ℕ) (ways : List Way) → members ≡ [] → ways ≡ [] → IsWalk takes s now members ways
  walk_none now members ways e f = (
    subst (λ is. AllBelow is (length now)) (sym e) (All-nil (λ i. i < length now)),
    λ way c. absurd (none_there way (subst (λ ws. Contains ws way) f c)),
  )

  -- as the pool grows
  pub walk_grown : (old now : List (Pattern L)) (members : List ℕ) (ways : List Way) → Grows old now → IsWalk takes s old members ways → IsWalk takes s now members ways
  walk_grown old now members ways g h = (
    All-weaker (λ i. i < length old) (λ i. i < length now) (λ i b. grows_length old now i g b) members h.0,
    λ way c ps k. h.1 way c ps (grows_twice old now ps g k),
  )

  -- with one more position
  pub walk_added : (now : List (Pattern L)) (old new : List ℕ) (ways : List Way) (i : ℕ) → i < length now → HasOneMore old new i → IsWalk takes s now old ways → IsWalk takes s now new ways
  walk_added now old new ways i b more h = (
    all_more (λ j. j < length now) old new i more h.0 b,
    λ way c ps g v left. let m = h.1 way c ps g v left in (m.0, (more m.0).1 (inl m.1), m.2),
  )

  -- with one more way, which was gone through
  pub walk_marked : (now : List (Pattern L)) (before members : List ℕ) (old new : List Way) (way : Way) → Begun takes s now way.at way.rest before members → HasOneMore old new way → IsWalk takes s now members old
      → IsWalk takes s now members new
  walk_marked now before members old new way begun more h = (
    h.0,
    λ other c ps g v left. elim ((more other).0 c) [
      | inl a ↦ h.1 other a ps g v left
      | inr b ↦ (begun ps g v).1 (inr (subst (λ z. IsLeftOf takes s ps z.at z.rest v) b left))
    ],
  )

  -- a way that was gone through gains nothing
  pub begun_seen : (now : List (Pattern L)) (members : List ℕ) (ways : List Way) (way : Way) → IsWalk takes s now members ways → Contains ways way → Begun takes s now way.at way.rest members members
  begun_seen now members ways way h c ps g v = (λ m. inl m, λ m. elim m [ inl x ↦ x | inr left ↦ h.1 way c ps g v left ])
