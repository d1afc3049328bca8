-- What a `classes` gives that breaks no rule is formed, and so are the classes of a component with what is formed laid over them.
use Rattle.std.proofs.Common.{◌≡◌, ℕ, Bool, true, false, if◌then◌else◌, fold, List, [], ◌∷◌, Option, Some, None, ⊎_elim, refl, sym, ap, subst}
use Rattle.std.proofs.lemmas.Bool.{both_ways, cases_Bool, cond_both}
use Rattle.std.proofs.lemmas.Cmp.{nat_list_cmp_total}
use Rattle.std.proofs.lemmas.List.Elements.{All-contains, All-contains_itself, All-nil, All-weaker}
use Rattle.std.specs.FinMap.{nat_cmp-IsAntisymmetric, put, slice_cmp-IsAntisymmetric}
use Rattle.std.specs.List.{Contains}
use Rattle.std.specs.Option.{IfSome}
use Rattle.std.specs.Prelude.{codes}
use Rattle.odd_text.proofs.Entries.{found_contained, put_rises}
use Rattle.odd_text.specs.Text.{text_cmp}
use Rattle.odd_tokens.specs.Characters.{IsNCName}
use Rattle.odd_text.proofs.InList.{nothing_stands, standing, stands_first, stands_later}
use Rattle.odd_text.specs.Standing.{StandsIn}
use Rattle.odd_tree.specs.Elements.{children_of, given}
use Rattle.odd_tree.specs.declared.tree.Tree.{Tree}
use Rattle.odd_forms.proofs.Colon.{name_decides}
use Rattle.odd_forms.specs.Deep.{DeepFault}
use Rattle.odd_forms.specs.Excepting.{is_name}
use Rattle.odd_forms.specs.Faults.{AttributeFault, FormFault, OwnFault, ValueFault}
use Rattle.odd_forms.specs.Names.{is_one_of}
use Rattle.odd_text.specs.Sorted.{IsSet}
use Rattle.odd_forms.specs.Table.{key}
use Rattle.odd_forms.specs.declared.element.Element.TheVariants as element
use Rattle.odd_overlay.proofs.Laid.{laid_keyed, laid_set, put_keyed}
use Rattle.odd_overlay.specs.Marks.{IsWordAfter, words_laid}
use Rattle.odd_library.specs.FormedMembers.{AreClasses, AreClassMarks, IsFormedMembership}
use Rattle.odd_library.specs.Members.{ClassesFault, IsMembershipOf, IsSetOf, adds, is_change, marks_of, membership_of, with_child, with_mark}
use Rattle.odd_library.specs.Membership.{changed, classes_over}
use Rattle.odd_library.specs.declared.membership.Membership.{Membership}
use Rattle.odd_library.specs.declared.membership.Membership.TheVariants as membership

-- the mark is of an NCName
abbrev IsOfName : List ℕ × Bool → Type 0
IsOfName mark = IsNCName mark.0

-- a set of what are NCNames is one of classes
set_named : (Is : List ℕ → Type 0) (words : List (List ℕ)) → IsSet text_cmp Is words → ((word : List ℕ) → Is word → IsNCName word) → AreClasses words
set_named Is words set named = (set.rising, All-weaker (Contains words) IsNCName (λ word h. named word (set.none_else word (standing words word h))) words (All-contains_itself words))

-- with formed marks laid over them classes stay formed
changed_formed : (marks : List (List ℕ × Bool)) (before : List (List ℕ)) → AreClassMarks marks → AreClasses before → AreClasses (changed marks before)
changed_formed marks before formed are = ((laid_set marks before).rising, laid_keyed IsNCName marks before formed.1 are.1)

-- and with formed memberships
pub classes_formed : (o : Option Membership) (before : List (List ℕ)) → IfSome o IsFormedMembership → AreClasses before → AreClasses (classes_over o before)
classes_formed None before formed are = are
classes_formed (Some (membership.Replace words)) before formed are = formed
classes_formed (Some (membership.Change marks)) before formed are = changed_formed marks before formed are

-- the key of a child is an NCName where it is a `memberOf`
abbrev IsKeyed : Tree → Type 0
IsKeyed child = is_one_of (codes "memberOf" ∷ []) child ≡ true → (word : List ℕ) → given child (codes "key") ≡ Some word → IsNCName word

-- then the marks with that of the child are formed
child_formed : (marks : List (List ℕ × Bool)) (child : Tree) → IsKeyed child → AreClassMarks marks → AreClassMarks (with_child marks child)
child_formed marks child keyed formed =
    cond_both (is_one_of (codes "memberOf" ∷ []) child) (with_mark (given child (codes "key")) (adds child) marks) marks AreClassMarks (λ is. by (given child (codes "key")) (keyed is)) (λ other. formed)
  where
    by : (o : Option (List ℕ)) → ((word : List ℕ) → o ≡ Some word → IsNCName word) → AreClassMarks (with_mark o (adds child) marks)
    by None named = formed
    by (Some word) named =
        (put_rises text_cmp nat_list_cmp_total word (adds child) marks (put text_cmp word (adds child) marks) formed.0 refl, put_keyed text_cmp IsNCName word (adds child) marks (named word refl) formed.1)

-- and so are those with the marks of all children
marks_formed : (marks : List (List ℕ × Bool)) (children : List Tree) → ((child : Tree) → StandsIn children child → IsKeyed child) → AreClassMarks marks → AreClassMarks (fold with_child marks children)
marks_formed marks [] keyed formed = formed
marks_formed marks (child ∷ children) keyed formed =
    marks_formed (with_child marks child) children (λ later s. keyed later (stands_later child later children s)) (child_formed marks child (keyed child (stands_first child children)) formed)

module _ (classes : Tree) (sound : (rule : ℕ) → ClassesFault classes rule → ⊥) where
  -- each child of a `classes` that breaks nothing is so
  all_keyed : (child : Tree) → StandsIn (children_of classes) child → IsKeyed child
  all_keyed child s is word e =
      let unnamed : (IsNCName word → ⊥) → ⊥ = λ no.
      sound 1 (DeepFault.inside element.MemberOf child s (ap (λ b. if b then Some element.MemberOf else None) is)
      (DeepFault.itself (FormFault.own (OwnFault.attribute key (stands_first key _) (AttributeFault.value word e (ValueFault.malformed refl no)))))) in
      ⊎_elim (name_decides word).0 (λ fails. absurd (unnamed (λ named. both_ways (is_name word) fails ((name_decides word).1 named)))) (cases_Bool (is_name word))

  -- so that its marks are formed
  own_marks : AreClassMarks (marks_of classes)
  own_marks = marks_formed [] (children_of classes) all_keyed (refl, All-nil IsOfName)

  -- and what it gives
  by_kind : (made : Membership) → made ≡ membership_of classes → IsSetOf (marks_of classes) made → IsFormedMembership made
  by_kind (membership.Replace words) e set = set_named (IsWordAfter (marks_of classes) []) words set (λ word.
      ⊎_elim (λ was. absurd (nothing_stands word was.0)) (λ h.
      All-contains IsOfName (marks_of classes) (word, true) own_marks.1 (found_contained text_cmp nat_list_cmp_total (slice_cmp-IsAntisymmetric nat_cmp-IsAntisymmetric) word true (marks_of classes) h)))
  by_kind (membership.Change marks) e set = subst AreClassMarks (sym (same (is_change classes) e)) own_marks
    where
      same : (b : Bool) → membership.Change marks ≡ (if b then membership.Change (marks_of classes) else membership.Replace (words_laid (marks_of classes) [])) → marks ≡ marks_of classes
      same true h = cc
      same false h = cc

pub membership_formed : (classes : Tree) (made : Membership) → ((rule : ℕ) → ClassesFault classes rule → ⊥) → IsMembershipOf classes made → IsFormedMembership made
membership_formed classes made sound is = by_kind classes sound made is.value is.set
