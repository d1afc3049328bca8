use Rattle.std.proofs.Common.{◌≡◌, Bor, List, ◌∷◌, Some, ℕ, fold, map, ap, sym, subst, ◌∙◌}
use Rattle.std.proofs.lemmas.Cmp.{nat_list_cmp_total}
use Rattle.std.specs.FinMap.{put}
use Rattle.std.specs.Option.{option_copied}
use Rattle.std.specs.Prelude.{codes}
use Rattle.odd_text.proofs.Entries.{put_rises}
use Rattle.odd_text.specs.Text.{text_cmp}
use Rattle.odd_tree.specs.Elements.{given}
use Rattle.odd_tree.specs.declared.tree.Tree.{Tree}
use Rattle.odd_attributes.specs.Giving.{AreEditsOf, edit_of, with_definition, with_ident}
use Rattle.odd_attributes.specs.declared.att_edit.AttEdit.{AttEdit}
use Rattle.odd_attributes.proofs.reading.edits_in.Goals as goal

-- a definition is passed that gives these edits
definition_passed : (list : Tree) (edits new : List (List ℕ × AttEdit)) (rest later : List (Bor Tree)) (def : Bor Tree) → AreEditsOf list (fold with_definition edits (map (λ t. t.now) rest))
    → rest ≡ def ∷ later → with_definition edits def.now ≡ new → AreEditsOf list (fold with_definition new (map (λ t. t.now) later))
definition_passed list edits new rest later def before is e =
    subst (λ es. AreEditsOf list (fold with_definition es (map (λ t. t.now) later))) e (subst (λ ts. AreEditsOf list (fold with_definition edits (map (λ t. t.now) ts))) is before)

pub loop-def-preserved-in_ok-put_edit : goal.loop-def-preserved-in_ok-put_edit
loop-def-preserved-in_ok-put_edit c =
    let def = c.in-Some.def in
    let old = c.loop-def.edits.entries in
    let ident = c.in-Some-attribute.ident.now in
    let new = c.put_edit-in-Some-attribute.new.edits.entries in
    let told : given def.now (codes "ident") ≡ Some ident = sym c.attribute.ensures ∙ ap option_copied c.in-Some-attribute.is in
    let is : new ≡ put text_cmp ident (edit_of def.now) old =
    c.in_ok-put_edit.ensures ∙ ap (λ i. put text_cmp i c.in_ok-read_edit.field-0 old) c.in_ok-copy.ensures ∙ ap (λ made. put text_cmp ident made old) c.in_ok-read_edit.ensures in (
      definition_passed c.args.list.now old new c.loop-def.def-iterator.rest.items c.next.new.self.rest.items def c.loop-def.invariant.0 c.in-Some.ensures.steps.0
          (ap (λ o. with_ident o (edit_of def.now) old) told ∙ sym is),
      put_rises text_cmp nat_list_cmp_total ident (edit_of def.now) old new c.loop-def.invariant.1 is,
    )
