-- What a `valList` marks is what the last `valItem` of each value says.
use Rattle.std.proofs.Common.{◌≡◌, ℕ, ◌&&◌, not, Bool, true, false, if◌then◌else◌, List, Some, None, refl, ap, codes}
use Rattle.std.proofs.lemmas.Option.{none-some}
use Rattle.std.specs.FinMap.{put}
use Rattle.odd_text.specs.Text.{text_cmp}
use Rattle.odd_forms.specs.Tags.{Tag}
use Rattle.odd_content.proofs.SaidEach.{says_each}
use Rattle.odd_content.specs.Said.{SaysEach}
use Rattle.odd_content.specs.Values.{has_mode, marks_in, puts, value_marked, value_tagged, with_mark, with_value}

pub marks_said : (is_set : Bool) (children : List Tag) → SaysEach (value_marked is_set) puts children (marks_in is_set children)
marks_said is_set children = says_each (value_marked is_set) puts (with_value is_set) passes marks children
  where
    passes : (m : List (List ℕ × Bool)) (tag : Tag) → value_marked is_set tag ≡ None → with_value is_set m tag ≡ m
    passes m tag = elim (not is_set && has_mode (codes "change") tag.attrs) as
        (λ b. (if b then None else value_tagged tag) ≡ None → (if b then m else with_mark (value_tagged tag) (puts tag) m) ≡ m) [
          | true ↦ λ e. refl
          | false ↦ λ e. ap (λ o. with_mark o (puts tag) m) e
        ]

    marks : (m : List (List ℕ × Bool)) (tag : Tag) (value : List ℕ) → value_marked is_set tag ≡ Some value → with_value is_set m tag ≡ put text_cmp value (puts tag) m
    marks m tag value = elim (not is_set && has_mode (codes "change") tag.attrs) as
        (λ b. (if b then None else value_tagged tag) ≡ Some value → (if b then m else with_mark (value_tagged tag) (puts tag) m) ≡ put text_cmp value (puts tag) m) [
          | true ↦ λ e. absurd (none-some value e)
          | false ↦ λ e. ap (λ o. with_mark o (puts tag) m) e
        ]
