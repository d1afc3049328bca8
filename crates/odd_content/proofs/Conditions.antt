-- The words of `except`, parted into namespaces and names, and the sets of them.
use Rattle.std.proofs.Common.{◌≡◌, ℕ, ◌+◌, ◌<◌, ◌≤◌, List, [], ◌∷◌, ◌++◌, Option, Some, None, length, drop, get_or, refl, sym, ap, subst, ◌∙◌, append_assoc, ⊎_elim}
use Rattle.std.proofs.lemmas.List.{append-nil, drop_all}
use Rattle.std.proofs.lemmas.Option.{same_Some}
use Rattle.std.proofs.lemmas.Cmp.{nat_list_cmp_total}
use Rattle.std.specs.FinMap.{nat_cmp-IsAntisymmetric, slice_cmp-IsAntisymmetric}
use Rattle.std.specs.List.{cons_option, filter_map}
use Rattle.odd_text.specs.NameOrder.{name_cmp, name_exact}
use Rattle.odd_text.specs.Text.{text_cmp}
use Rattle.odd_text.specs.declared.name.Bind.{Bind}
use Rattle.odd_text.specs.declared.name.Name.{Name}
use Rattle.odd_text.specs.Standing.{StandsIn}
use Rattle.odd_text.proofs.InList.{StandsOnce, begins, first_or_later, nothing_stands, stands_first, stands_later}
use Rattle.odd_forms.specs.Excepting.{excepted_of}
use Rattle.odd_text.specs.Sorted.{IsSet, set_of}
use Rattle.odd_forms.specs.declared.excepted.Excepted.{Excepted}
use Rattle.odd_forms.specs.declared.excepted.Excepted.TheVariants as excepted
use Rattle.odd_text.proofs.SetOf.{one_set, set_of_is, set_same}
use Rattle.odd_content.specs.Condition.{IsConditionOf, condition_of, name_of, names_among, space_of, spaces_among}
use Rattle.odd_content.specs.ConditionOrder.{name_total}

-- sorted texts and sorted names are the sets of them
pub texts_sorted : (items sorted : List (List ℕ)) → IsSet text_cmp (StandsIn items) sorted → sorted ≡ set_of text_cmp items
texts_sorted items sorted h =
    one_set text_cmp nat_list_cmp_total (StandsIn items) sorted (set_of text_cmp items) h (set_of_is text_cmp nat_list_cmp_total (slice_cmp-IsAntisymmetric nat_cmp-IsAntisymmetric) items)

pub names_sorted : (items sorted : List Name) → IsSet name_cmp (StandsIn items) sorted → sorted ≡ set_of name_cmp items
names_sorted items sorted h = one_set name_cmp name_total (StandsIn items) sorted (set_of name_cmp items) h (set_of_is name_cmp name_total name_exact items)

module _ {X : Type 0} (gives : List ℕ → Option X) (words : List (List ℕ)) (i : ℕ) (word : List ℕ) (found all : List X) (h : i < length words) (at : word ≡ get_or words i word)
    (before : found ++ filter_map gives (drop i words) ≡ all) where
  with_word : found ++ filter_map gives (word ∷ drop (i + 1) words) ≡ all
  with_word = ap (λ ws. found ++ filter_map gives ws) (sym (begins words i word h at)) ∙ before

  -- a word is passed that gives something
  pub given_passed : (x : X) (more : List X) → gives word ≡ Some x → more ≡ found ++ x ∷ [] → more ++ filter_map gives (drop (i + 1) words) ≡ all
  given_passed x more is e =
      ap (λ xs. xs ++ filter_map gives (drop (i + 1) words)) e ∙ append_assoc found (x ∷ []) (filter_map gives (drop (i + 1) words))
      ∙ ap (λ o. found ++ cons_option o (filter_map gives (drop (i + 1) words))) (sym is) ∙ with_word

  -- and one that gives nothing
  pub none_passed : gives word ≡ None → found ++ filter_map gives (drop (i + 1) words) ≡ all
  none_passed is = ap (λ o. found ++ cons_option o (filter_map gives (drop (i + 1) words))) (sym is) ∙ with_word

-- at the end all were passed
pub all_passed : {X : Type 0} (gives : List ℕ → Option X) (items words : List (List ℕ)) (i : ℕ) (found : List X) → found ++ filter_map gives (drop i items) ≡ filter_map gives items → length items ≤ i
    → items ≡ words → found ≡ filter_map gives words
all_passed gives items words i found before end is =
    sym (append-nil found) ∙ ap (λ ws. found ++ filter_map gives ws) (sym (drop_all i items end)) ∙ before ∙ ap (filter_map gives) is

-- what stands among what words give is given by one of them
words_give : {X : Type 0} (gives : List ℕ → Option X) (x : X) (ws : List (List ℕ)) → StandsIn (filter_map gives ws) x → StandsOnce (λ w. gives w ≡ Some x) ws
words_give gives x [] s = absurd (nothing_stands x s)
words_give gives x (w ∷ ws) s =
    let later : StandsIn (filter_map gives ws) x → StandsOnce (λ v. gives v ≡ Some x) (w ∷ ws) = λ t. let h = words_give gives x ws t in (h.0, stands_later w h.0 ws h.1, h.2) in
    elim (gives w) as (λ o. gives w ≡ o → StandsIn (cons_option o (filter_map gives ws)) x → StandsOnce (λ v. gives v ≡ Some x) (w ∷ ws)) [
      | None ↦ λ e t. later t
      | Some y ↦ λ e t. ⊎_elim (λ is. (w, stands_first w ws, e ∙ ap Some (sym is))) later (first_or_later y x (filter_map gives ws) t)
    ] refl s

-- and what one of them gives stands there
given_stands : {X : Type 0} (gives : List ℕ → Option X) (x : X) (ws : List (List ℕ)) (w : List ℕ) → StandsIn ws w → gives w ≡ Some x → StandsIn (filter_map gives ws) x
given_stands {X} gives x [] w s e = absurd (nothing_stands w s)
given_stands {X} gives x (v ∷ ws) w s e =
    ⊎_elim (λ is. subst (λ o. StandsIn (cons_option o (filter_map gives ws)) x) (sym e ∙ ap gives is) (stands_first x (filter_map gives ws)))
    (λ t. after (gives v) (filter_map gives ws) (given_stands gives x ws w t e)) (first_or_later v w ws s)
  where
    after : (o : Option X) (xs : List X) → StandsIn xs x → StandsIn (cons_option o xs) x
    after None xs t = t
    after (Some y) xs t = stands_later y x xs t

-- a word gives a namespace where it is read as one, and a name where it is read as one
space_told : (read : Excepted) (space : List ℕ) → space_of read ≡ Some space → read ≡ excepted.Space space
space_told (excepted.Space other) space e = ap excepted.Space (same_Some _ _ e)
space_told (excepted.Name other) space e = cc
space_told excepted.Unbound space e = cc

name_told : (read : Excepted) (name : Name) → name_of read ≡ Some name → read ≡ excepted.Name name
name_told (excepted.Space other) name e = cc
name_told (excepted.Name other) name e = ap excepted.Name (same_Some _ _ e)
name_told excepted.Unbound name e = cc

-- each list of a condition is the set of what the words give
pub condition_sets : (binds : List Bind) (require except : List (List ℕ)) → IsConditionOf binds require except (condition_of binds require except)
condition_sets binds require except = record {
  require = set_of_is text_cmp nat_list_cmp_total (slice_cmp-IsAntisymmetric nat_cmp-IsAntisymmetric) require;
  spaces = set_same text_cmp _ _ _ (λ space. (
    λ s. let h = words_give (λ word. space_of (excepted_of binds word)) space except s in (h.0, h.1, space_told _ space h.2),
    λ h. given_stands (λ word. space_of (excepted_of binds word)) space except h.0 h.1 (ap space_of h.2),
  )) (set_of_is text_cmp nat_list_cmp_total (slice_cmp-IsAntisymmetric nat_cmp-IsAntisymmetric) (spaces_among binds except));
  names = set_same name_cmp _ _ _ (λ name. (
    λ s. let h = words_give (λ word. name_of (excepted_of binds word)) name except s in (h.0, h.1, name_told _ name h.2),
    λ h. given_stands (λ word. name_of (excepted_of binds word)) name except h.0 h.1 (ap name_of h.2),
  )) (set_of_is name_cmp name_total name_exact (names_among binds except));
}
