-- A `content` that is printed of the content of a datatype breaks nothing, as the one of a `dataSpec`.
use Rattle.std.proofs.Common.{◌≡◌, ◌<◌, ◌-◌, ◌+◌, ◌^◌, ℕ, Bool, true, false, cond, List, [], ◌∷◌, map, refl, sym, ap, ap₂, subst, ◌∙◌, arith}
use Rattle.std.specs.Prelude.{codes, is_some}
use Rattle.std.proofs.lemmas.Bool.{both_ways}
use Rattle.std.proofs.lemmas.List.Sums.{sum_by-cons}
use Rattle.odd_tree.specs.Markup.{Markup}
use Rattle.odd_forms.specs.Deep.{left_inside}
use Rattle.odd_forms.specs.Names.{tei}
use Rattle.odd_forms.specs.Table.{data_parts, other_parts}
use Rattle.odd_forms.specs.Tags.{Tag}
use Rattle.odd_forms.specs.declared.element.Element.TheVariants as kind
use Rattle.odd_content.specs.Formed.{AreFormedWithin, AreOfData, IsFormedContent, IsFormedWithin, IsOfData, once}
use Rattle.odd_content.specs.declared.content.Content.{Content, Empty, Text, Value, Vals, Element, Class, Macro, Any, Sequence', Alternate', Row_of-Content, end_of-Content, more_of-Content}
use Rattle.odd_emit.specs.Contents.{bounds_said, content_markup, part_markup, parts_markup}
use Rattle.odd_emit.specs.Saying.{spoken}
use Rattle.merged_laws.proofs.ContentRead.{one_no_level}
use Rattle.merged_laws.proofs.Fits.{child_called, count_tagged, name_among}
use Rattle.merged_laws.proofs.Items.{item_named, item_sound}
use Rattle.merged_laws.proofs.Says.{IsPlaced, IsSound, Says, is_level_said, sound}
use Rattle.merged_laws.proofs.Told.{AllOf, name_of, tag_said}
use Rattle.merged_laws.proofs.ValueLists.{list_sound}
use Rattle.merged_laws.proofs.Values.{number_back}

-- what is shown of the element of a part, where so many levels may still open
record IsDataRead (left : ℕ) (m : Markup) : Type 0 where
  pub placed : IsPlaced kind.DataContent left m
  pub apart : is_some (name_among other_parts (tei (name_of m))) ≡ false

record AreDataRead (left : ℕ) (ms : List Markup) : Type 0 where
  pub placed : AllOf (IsPlaced kind.DataContent left) ms
  pub apart : count_tagged other_parts (map tag_said ms) ≡ 0

-- how many of some kinds one more makes
one_more : (kinds : _) (m : Markup) (ms : List Markup) (b : Bool) (n : ℕ) → is_some (name_among kinds (tei (name_of m))) ≡ b → count_tagged kinds (map tag_said ms) ≡ n
    → count_tagged kinds (map tag_said (m ∷ ms)) ≡ cond b 1 0 + n
one_more kinds m ms b n e f =
    sum_by-cons (λ (tag : Tag). cond (is_some (name_among kinds tag.name)) 1 0) (tag_said m) (map tag_said ms) ∙ ap₂ (λ (i j : ℕ). i + j) (ap (λ (x : Bool). cond {A = ℕ} x 1 0) e) f

-- an alternate tells that it stands once
alternate_says : (ms : List Markup) → count_tagged other_parts (map tag_said ms) ≡ 0 → Says kind.DataAlternate (bounds_said once) ms
alternate_says ms none =
    let small : 1 < 10 ^ 9 = omega arith in
    record { sayable = refl; right = refl; formed = (small, (small, tt)); met = λ binds. (number_back 1 small, (number_back 1 small, (none, tt))); few = tt }

alternate_read : (left : ℕ) (ms : List Markup) → 0 < left → AreDataRead (left - 1) ms → IsDataRead left (spoken (codes "alternate") (bounds_said once) ms)
alternate_read left ms some inner = record {
  placed = (kind.DataAlternate, refl, sound kind.DataAlternate left (bounds_said once) ms (alternate_says ms inner.apart) (λ l none. omega (arith, some, none)) inner.placed);
  apart = refl;
}

mutual
  data_part : (left : ℕ) (c : Content) → IsFormedWithin left c → IsOfData c → IsDataRead left (part_markup c)
  data_part left Empty f d = absurd d
  data_part left Text f d = absurd d
  data_part left (Value item) f d =
      record { placed = (kind.DataRef, ap (λ n. child_called kind.DataContent (tei n)) (item_named item), item_sound left item f); apart = ap (λ n. is_some (name_among other_parts (tei n))) (item_named item) }
  data_part left (Vals values) f d = record { placed = (kind.ValList, refl, list_sound values f left); apart = refl }
  data_part left (Element key b) f d = absurd d
  data_part left (Class key p b) f d = absurd d
  data_part left (Macro key b) f d = absurd d
  data_part left (Any c b) f d = absurd d
  data_part left (Sequence' shape parts b) f d = absurd d
  data_part left (Alternate' shape parts b) f d =
      subst (λ x. IsDataRead left (spoken (codes "alternate") (bounds_said x) (parts_markup parts))) (sym d.0) (alternate_read left (parts_markup parts) f.0 (all_data (left - 1) parts f.1 d.1))

  all_data : {n : _} (left : ℕ) (parts : Row_of-Content n) → AreFormedWithin left parts → AreOfData parts → AreDataRead left (parts_markup parts)
  all_data left end_of-Content f d = record { placed = tt; apart = refl }
  all_data left (more_of-Content part parts) f d =
      let first = data_part left part f.0 d.0 in
      let rest = all_data left parts f.1 d.1 in
      record { placed = (first.placed, rest.placed); apart = one_more other_parts (part_markup part) (parts_markup parts) false 0 first.apart rest.apart }

-- the content of a datatype breaks nothing, under any declarations around it
pub data_content_sound : (c : Content) → IsFormedContent c → IsOfData c → IsSound kind.DataContent 60 (content_markup c)
data_content_sound c f d =
    let m = part_markup c in
    let part = data_part 60 c f d in
    let says : Says kind.DataContent [] (m ∷ []) = record {
      sayable = refl;
      right = refl;
      formed = tt;
      met = λ binds. (one_more data_parts m [] true 0 (ap is_some part.placed.1) refl, (one_more other_parts m [] false 0 part.apart refl, tt));
      few = tt;
    } in
    let flat : is_level_said kind.DataContent (m ∷ []) ≡ false = one_no_level kind.DataContent m in
    sound kind.DataContent 60 [] (m ∷ []) says (λ l none. both_ways _ flat l) (subst (λ b. AllOf (IsPlaced kind.DataContent (left_inside b 60)) (m ∷ [])) (sym flat) (part.placed, tt))
