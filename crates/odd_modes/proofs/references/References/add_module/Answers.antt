use Rattle.std.proofs.Common.{Some, unwrap_or, cond, refl, ap, ◌∙◌}
use Rattle.std.specs.BTreeMap.{is_at}
use Rattle.odd_text.specs.Text.{text_cmp}
use Rattle.odd_modes.specs.Index.{names}
use Rattle.odd_modes.specs.declared.named.Named.TheVariants as named
use Rattle.odd_modes.specs.declared.references.References.{References}
use Rattle.odd_modes.proofs.TextSets.{listed_more, named_before, named_of, put_again}
use Rattle.odd_modes.proofs.references.References.add_module.Goals as goal

pub returns : goal.returns
returns c =
    let name = c.args.module.now in
    let more = c.in_ok-and.field-0 in
    let new : References = record { keys = c.args.self.now.keys; modules = c.insert.new.self } in
    let old = named_of c.args.self.now in
    listed_more c.args.self.now new name c.unwrap_or-named.result more c.args.pick.now refl
    (λ other.
    c.in_ok-insert.ensures.updates.0 (record { ref_ptr = c.args.module.ref_ptr; now = other })
    ∙ ap (cond (is_at (text_cmp name) other) (Some more)) (c.remove.ensures.updates.0 (record { ref_ptr = c.args.module.ref_ptr; now = other }))
    ∙ put_again (is_at (text_cmp name) other) more (old other))
    (λ ident. ap (λ n. names n ident) (c.unwrap_or-named.ensures ∙ ap (λ o. unwrap_or o (named.Only c.new.result)) c.remove.ensures.value) ∙ named_before (old name) c.new.result c.new.ensures.empty ident)
    c.in_ok-and.ensures
