-- The content that a declaration gives, by whether one stands in it and whether it declares namespaces.
use Rattle.std.proofs.Common.{◌≡◌, ◌++◌, map, ap, sym, subst, ◌∙◌, List, Option}
use Rattle.std.proofs.lemmas.List.{append-nil}
use Rattle.std.specs.Option.{option_copied}
use Rattle.odd_tree.specs.Elements.{all_binds, children_of, within}
use Rattle.odd_tree.specs.declared.tree.Tree.{Tree}
use Rattle.odd_content.specs.Giving.{IsContentOf}
use Rattle.odd_forms.specs.Children.{GivesOne}
use Rattle.odd_forms.specs.declared.element.Element.{Element}
use Rattle.odd_forms.proofs.Children.{gives_made, gives_none}
use Rattle.odd_decls.specs.Declares.{content_of}
use Rattle.odd_decls.proofs.declarations.content_given.Goals as goal

-- the child that was looked for
child_told : (e kind asked : Element) (children : List Tree) (o found : Option Tree) → asked ≡ kind → o ≡ found → GivesOne e asked (λ child given. given ≡ child) children o
    → GivesOne e kind (λ child given. given ≡ child) children found
child_told e kind asked children o found same is gives = subst (λ k. GivesOne e k (λ child given. given ≡ child) children found) same (subst (GivesOne e asked (λ child given. given ≡ child) children) is gives)

pub returns-in_default : goal.returns-in_default
returns-in_default c =
    let e = c.args.element in
    let children = children_of c.args.spec.now in
    gives_none e (content_of e) _ children (child_told e (content_of e) _ children _ _ c.content_of.ensures (ap option_copied c.in_default.is) c.child_of_kind.ensures)

pub returns-then-is_empty : goal.returns-then-is_empty
returns-then-is_empty c =
    let e = c.args.element in
    let spec = c.args.spec.now in
    let around = all_binds (map (λ b. b.now) c.args.around.now) in
    let content = c.in-Some.content.now in
    let one = child_told e (content_of e) _ (children_of spec) _ _ c.content_of.ensures (ap option_copied c.in-Some.is) c.child_of_kind.ensures in
    let none = ap (λ binds. around ++ binds) (c.is_empty.ensures.0 c.if-is_empty.true) ∙ append-nil around in
    gives_made e (content_of e) (IsContentOf (within around spec)) (children_of spec) content _ one
    (subst (λ bs. IsContentOf bs content c.in_ok-content_in.field-0) (sym none) c.in_ok-content_in.ensures)

pub returns : goal.returns
returns c =
    let e = c.args.element in
    let spec = c.args.spec.now in
    let around = all_binds (map (λ b. b.now) c.args.around.now) in
    let content = c.in-Some.content.now in
    let one = child_told e (content_of e) _ (children_of spec) _ _ c.content_of.ensures (ap option_copied c.in-Some.is) c.child_of_kind.ensures in
    let inside = ap (λ levels. all_binds (map (λ b. b.now) levels)) c.as_slice.ensures.value ∙ c.in_ok-inside.ensures ∙ ap (λ own. around ++ own) (c.in_ok-own.ensures ∙ c.in_ok-copy.ensures) in
    gives_made e (content_of e) (IsContentOf (within around spec)) (children_of spec) content _ one
    (subst (λ bs. IsContentOf bs content c.in_ok-content_in-2.field-0) inside c.in_ok-content_in-2.ensures)
