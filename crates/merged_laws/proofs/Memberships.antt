-- A `classes` that is printed of classes is read as memberships that replace all others, and breaks nothing.
use Rattle.std.proofs.Common.{◌≡◌, ℕ, Bool, true, false, not, ◌&&◌, if◌then◌else◌, List, [], ◌∷◌, map, refl, sym, ap, ap₂, subst, ◌∙◌}
use Rattle.std.specs.Prelude.{All, codes, unwrap_or}
use Rattle.std.proofs.lemmas.Cmp.{nat_list_cmp_total}
use Rattle.std.proofs.lemmas.List.Elements.{All-contains, All-head, All-tail}
use Rattle.std.specs.FinMap.{put}
use Rattle.odd_text.specs.Text.{text_cmp}
use Rattle.odd_tokens.specs.Characters.{IsNCName}
use Rattle.odd_text.specs.Same.{is_same}
use Rattle.odd_text.specs.Standing.{StandsIn}
use Rattle.odd_tree.specs.Elements.{children_of, given}
use Rattle.odd_tree.specs.declared.tree.Tree.{Tree}
use Rattle.odd_text.proofs.InList.{contained}
use Rattle.odd_tree.proofs.PrintedTrees.{IsPlain, Shows}
use Rattle.odd_forms.specs.Names.{is_one_of, tei_namespace}
use Rattle.odd_text.specs.Sorted.{IsSet}
use Rattle.odd_text.specs.Same.{is_among}
use Rattle.odd_forms.specs.declared.element.Element.TheVariants as kind
use Rattle.odd_overlay.proofs.Laid.{laid_set}
use Rattle.odd_overlay.specs.Marks.{IsWordAfter, words_laid}
use Rattle.odd_library.specs.FormedMembers.{AreClasses}
use Rattle.odd_library.specs.Members.{IsMembershipOf, adds, is_change, marks_of, membership_of, with_child, with_mark}
use Rattle.odd_library.specs.declared.membership.Membership.TheVariants as membership
use Rattle.odd_emit.specs.Components.{member_markup}
use Rattle.odd_emit.specs.Contents.{key_said, mode_said}
use Rattle.odd_emit.specs.Saying.{Said, spoken}
use Rattle.merged_laws.proofs.Fits.{NoneAlike, values_tagged}
use Rattle.merged_laws.proofs.Kids.{none_twice, tags_give}
use Rattle.merged_laws.proofs.Puts.{AllPut, all_with, puts_all, with_sorted, words_made}
use Rattle.merged_laws.proofs.Says.{IsPlaced, IsSound, Says, says_plain, says_told, sound}
use Rattle.merged_laws.proofs.Told.{AreShown, IsTold, all_made_of, tag_said}

abbrev pub classes_said : List Said
classes_said = mode_said (codes "replace") ∷ []

map_same : {A : Type 0} (xs : List A) → map (λ x. x) xs ≡ xs
map_same [] = refl
map_same (x ∷ xs) = ap (λ ys. x ∷ ys) (map_same xs)

pub member_says : (key : List ℕ) → IsNCName key → Says kind.MemberOf (key_said key ∷ []) []
member_says key n = record { sayable = refl; right = refl; formed = (n, tt); met = λ binds. tt; few = tt }

-- a child gives the mark of its class
member_put : (key : List ℕ) (t : Tree) (marks : List (List ℕ × Bool)) → IsNCName key → Shows tei_namespace [] (member_markup key) t → with_child marks t ≡ put text_cmp key true marks
member_put key t marks n s =
    let told = says_told kind.MemberOf (key_said key ∷ []) [] t (member_says key n) s in
    let is : is_one_of (codes "memberOf" ∷ []) t ≡ true = ap (λ n. is_same n.ns tei_namespace && is_among (codes "memberOf" ∷ []) n.local) told.named in
    let is_added : adds t ≡ true = ap (λ o. not (is_same (unwrap_or o (codes "add")) (codes "delete"))) (told.given (codes "mode")) in
    ap (λ b. if b then with_mark (given t (codes "key")) (adds t) marks else marks) is ∙ ap₂ (λ o b. with_mark o b marks) (told.given (codes "key")) is_added

members_put : (words : List (List ℕ)) (ts : List Tree) → All IsNCName words → AreShown (map member_markup words) ts → AllPut with_child ts (all_with true words)
members_put [] [] n s = tt
members_put [] (t ∷ ts) n s = absurd s
members_put (w ∷ ws) [] n s = absurd s
members_put (w ∷ ws) (t ∷ ts) n s = ((λ marks. member_put w t marks (All-head IsNCName w ws n) s.0), members_put ws ts (All-tail IsNCName w ws n) s.1)

module _ (words : List (List ℕ)) (k : AreClasses words) where
  each_named : (word : List ℕ) → StandsIn words word → IsNCName word
  each_named word s = All-contains IsNCName words word k.1 (contained words word s)

  -- no class stands twice
  keys_apart : NoneAlike (values_tagged kind.MemberOf (codes "key") (map tag_said (map member_markup words)))
  keys_apart = subst NoneAlike (sym (tags_give member_markup _ (λ w. w) (λ w. refl) words ∙ map_same words)) (none_twice text_cmp nat_list_cmp_total words k.0)

  pub classes_says : Says kind.Classes classes_said (map member_markup words)
  classes_says = record { sayable = refl; right = refl; formed = ((refl, refl), tt); met = λ binds. (keys_apart, tt); few = tt }

  -- its markup is plain
  pub classes_plain : IsPlain (spoken (codes "classes") classes_said (map member_markup words))
  classes_plain =
      says_plain kind.Classes classes_said (map member_markup words) classes_says
      (all_made_of member_markup IsPlain words (λ w s. says_plain kind.MemberOf (key_said w ∷ []) [] (member_says w (each_named w s)) tt))

  -- it breaks nothing
  pub classes_sound : (left : ℕ) → IsSound kind.Classes left (spoken (codes "classes") classes_said (map member_markup words))
  classes_sound left =
      sound kind.Classes left classes_said (map member_markup words) classes_says (λ e none. cc)
      (all_made_of member_markup (IsPlaced kind.Classes left) words
      (λ w s. (kind.MemberOf, refl, sound kind.MemberOf left (key_said w ∷ []) [] (member_says w (each_named w s)) (λ e none. cc) tt)))

  -- a tree that shows it gives the classes
  pub classes_back : (t : Tree) → Shows tei_namespace [] (spoken (codes "classes") classes_said (map member_markup words)) t → IsMembershipOf t (membership.Replace words)
  classes_back t s = record { value = sym whole_is; set = subst (IsSet text_cmp (IsWordAfter (marks_of t) [])) words_are (laid_set (marks_of t) []) }
    where
      told : IsTold (codes "classes") classes_said (map member_markup words) t
      told = says_told kind.Classes classes_said (map member_markup words) t classes_says s

      marks_are : marks_of t ≡ all_with true words
      marks_are = puts_all with_child (children_of t) (all_with true words) [] (members_put words (children_of t) k.1 told.children) (with_sorted true words k.0)

      words_are : words_laid (marks_of t) [] ≡ words
      words_are = ap (λ marks. words_laid marks []) marks_are ∙ words_made words k.0

      replaces : is_change t ≡ false
      replaces = ap (λ o. is_same (unwrap_or o (codes "replace")) (codes "change")) (told.given (codes "mode"))

      whole_is : membership_of t ≡ membership.Replace words
      whole_is = ap (λ b. if b then membership.Change (marks_of t) else membership.Replace (words_laid (marks_of t) [])) replaces ∙ ap membership.Replace words_are
