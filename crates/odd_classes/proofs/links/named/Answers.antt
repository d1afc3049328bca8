use Rattle.std.proofs.Common.{◌++◌, ◌∙◌, ⊎_elim, ap, flat_map, sym}
use Rattle.odd_meaning.specs.Links.{named_by, named_by_edit, named_in}
use Rattle.odd_classes.proofs.NamedKeys.{both_named, edits_named}
use Rattle.odd_classes.proofs.links.named.Goals.{in-Element+in_ok-push_named-in-Element+in_ok-push_datatypes-in-Element, in-Class+in_ok-push_datatypes-in-Class, in-Macro+in_ok-push_named-in-Macro}
use Rattle.odd_classes.specs.Placing.{those_of}
use Rattle.odd_classes.proofs.links.named.Goals as goal

pub returns : goal.returns
returns c =
    let wanted = c.args.wanted in
    elim c.match-part.branch [
      | in-Element+in_ok-push_named-in-Element+in_ok-push_datatypes-in-Element w ↦
          let part = w.in-Element.part in
          let content = w.in_ok-push_named-in-Element.ensures ∙ ap (λ keys. keys ++ those_of wanted (named_in part.content)) c.new-keys.ensures in
          w.keys-is ∙ w.in_ok-push_datatypes-in-Element.ensures ∙ ap (λ keys. keys ++ flat_map (λ e. those_of wanted (named_by_edit e.1)) part.atts) content
          ∙ both_named wanted part.content part.atts ∙ ap (λ p. those_of wanted (named_by p)) (sym w.in-Element.is)
      | in-Class+in_ok-push_datatypes-in-Class w ↦
          let part = w.in-Class.part in
          w.keys-is ∙ w.in_ok-push_datatypes-in-Class.ensures ∙ ap (λ keys. keys ++ flat_map (λ e. those_of wanted (named_by_edit e.1)) part.atts) c.new-keys.ensures
          ∙ edits_named wanted part.atts ∙ ap (λ p. those_of wanted (named_by p)) (sym w.in-Class.is)
      | in-Macro+in_ok-push_named-in-Macro w ↦
          let given = w.keys-is ∙ w.in_ok-push_named-in-Macro.ensures ∙ ap (λ keys. keys ++ those_of wanted (named_in w.in-Macro.part.content)) c.new-keys.ensures in
          ⊎_elim (λ e. given ∙ ap (λ p. those_of wanted (named_by p)) (sym e)) (λ e. given ∙ ap (λ p. those_of wanted (named_by p)) (sym e)) w.in-Macro.is
    ]
