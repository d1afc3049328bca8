-- What the children of a printed declaration give: a name in documents, memberships, a content and edits of attributes.
use Rattle.std.proofs.Common.{◌≡◌, ℕ, Bool, true, false, List, [], ◌∷◌, ◌++◌, Option, Some, None, refl, sym, ap, subst, ◌∙◌}
use Rattle.std.specs.Prelude.{codes}
use Rattle.std.specs.List.{list_any}
use Rattle.std.specs.Option.{IfSome}
use Rattle.std.proofs.lemmas.Bool.{both_ways}
use Rattle.odd_text.specs.declared.name.Bind.{Bind}
use Rattle.odd_tokens.specs.Characters.{IsNCName}
use Rattle.odd_tree.specs.Elements.{children_of}
use Rattle.odd_tree.specs.Markup.{Markup}
use Rattle.odd_tree.specs.declared.tree.Tree.{Tree}
use Rattle.odd_attributes.specs.Giving.{alt_given}
use Rattle.odd_content.specs.Formed.{IsFormedContent}
use Rattle.odd_content.specs.Giving.{IsContentOf}
use Rattle.odd_content.specs.declared.content.Content.{Content}
use Rattle.odd_forms.proofs.Children.{found_among}
use Rattle.odd_text.proofs.Least.{any_stands}
use Rattle.odd_forms.specs.Children.{GivesOne, IsChild}
use Rattle.odd_forms.specs.Names.{tei}
use Rattle.odd_forms.specs.Table.{form_at}
use Rattle.odd_forms.specs.Texts.{collapsed_in}
use Rattle.odd_forms.specs.declared.element.Element.{Element}
use Rattle.odd_forms.specs.declared.element.Element.TheVariants as kind
use Rattle.odd_library.specs.FormedMembers.{AreClasses}
use Rattle.odd_library.specs.Members.{IsMembershipOf}
use Rattle.odd_library.specs.Membership.{classes_over}
use Rattle.odd_library.specs.declared.membership.Membership.{Membership}
use Rattle.odd_library.specs.declared.membership.Membership.TheVariants as membership
use Rattle.rng_values.specs.Treated.{collapsed_text}
use Rattle.odd_emit.specs.Attributes.{alt_markup}
use Rattle.odd_emit.specs.Components.{classes_markup}
use Rattle.odd_emit.specs.Contents.{content_markup}
use Rattle.odd_emit.specs.Saying.{present}
use Rattle.merged_laws.proofs.ContentRead.{content_back}
use Rattle.merged_laws.proofs.Fits.{child_called}
use Rattle.merged_laws.proofs.Lines.{line_told, word_collapsed}
use Rattle.merged_laws.proofs.Memberships.{classes_back}
use Rattle.merged_laws.proofs.Present.{AreNamed, IsOfGiven, IsReadBy, child_of, first_gives, gives_present}
use Rattle.merged_laws.proofs.Said.{are_apart}
use Rattle.merged_laws.proofs.Told.{AreShown}
use Rattle.merged_laws.proofs.Values.{name_word}

-- a child is of no kind that may not stand there
pub no_child : (parent e : Element) (test : Element → Bool) → test e ≡ true → list_any test ((form_at parent).many ++ (form_at parent).once) ≡ false → (child : Tree) → IsChild parent e child → ⊥
no_child parent e test is none child called =
    let all = (form_at parent).many ++ (form_at parent).once in
    both_ways (list_any test all) none ((any_stands test all).1 (e, (found_among all child e called).0, is))

abbrev is_content : Element → Bool
is_content kind.Content = true
is_content e = false

abbrev is_classes : Element → Bool
is_classes kind.Classes = true
is_classes e = false

-- a class has no content, and a macro and a datatype are members of no class
pub class_no_content : (around : List Bind) (ts : List Tree) → GivesOne kind.ClassSpec kind.Content (IsContentOf around) ts None
class_no_content around ts = GivesOne.none (λ child stands called. no_child kind.ClassSpec kind.Content is_content refl refl child called)

pub macro_no_classes : (ts : List Tree) → GivesOne kind.MacroSpec kind.Classes IsMembershipOf ts None
macro_no_classes ts = GivesOne.none (λ child stands called. no_child kind.MacroSpec kind.Classes is_classes refl refl child called)

pub data_no_classes : (ts : List Tree) → GivesOne kind.DataSpec kind.Classes IsMembershipOf ts None
data_no_classes ts = GivesOne.none (λ child stands called. no_child kind.DataSpec kind.Classes is_classes refl refl child called)

-- the memberships that are printed of classes, and the classes again
abbrev pub membership_if : List (List ℕ) → Option Membership
membership_if [] = None
membership_if (w ∷ ws) = Some (membership.Replace (w ∷ ws))

pub classes_again : (words : List (List ℕ)) → classes_over (membership_if words) [] ≡ words
classes_again [] = refl
classes_again (w ∷ ws) = refl

-- what each of the children gives

alt_read : (o : Option (List ℕ)) → IfSome o IsNCName → IsReadBy collapsed_in (alt_markup o) o
alt_read None n = refl
alt_read (Some x) n = (x, refl, λ u s. ap collapsed_text (line_told (codes "altIdent") x u s).content_is ∙ word_collapsed x (name_word x n))

memberships_read : (words : List (List ℕ)) → AreClasses words → IsOfGiven IsMembershipOf (classes_markup words) (membership_if words)
memberships_read [] k = refl
memberships_read (w ∷ ws) k = (membership.Replace (w ∷ ws), refl, λ u s. classes_back (w ∷ ws) k u s)

-- among children that each have the name of their place
module _ (names : List (List ℕ)) (ms : List (Option Markup)) (t : Tree) (named : AreNamed names ms) (apart : are_apart names ≡ true) (shown : AreShown (present ms) (children_of t)) where
  pub alt_there : (o : Option (List ℕ)) → child_of names ms (codes "altIdent") ≡ alt_markup o → IfSome o IsNCName → alt_given t ≡ o
  alt_there o is n = first_gives collapsed_in (codes "altIdent") names ms t o named apart shown (subst (λ m. IsReadBy collapsed_in m o) (sym is) (alt_read o n))

  pub classes_there : (e : Element) (words : List (List ℕ)) → child_of names ms (codes "classes") ≡ classes_markup words → child_called e (tei (codes "classes")) ≡ Some kind.Classes → AreClasses words
      → GivesOne e kind.Classes IsMembershipOf (children_of t) (membership_if words)
  classes_there e words is called k =
      gives_present e kind.Classes IsMembershipOf names ms (children_of t) (membership_if words) named apart called shown
      (subst (λ m. IsOfGiven IsMembershipOf m (membership_if words)) (sym is) (memberships_read words k))

  pub content_there : (e k : Element) (around : List Bind) (c : Content) → child_of names ms (form_at k).name ≡ Some (content_markup c)
      → child_called e (tei (form_at k).name) ≡ Some k → IsFormedContent c → GivesOne e k (IsContentOf around) (children_of t) (Some c)
  content_there e k around c is called f =
      gives_present e k (IsContentOf around) names ms (children_of t) (Some c) named apart called shown
      (subst (λ m. IsOfGiven (IsContentOf around) m (Some c)) (sym is) (c, refl, λ u s. sym (content_back c f around u s)))
