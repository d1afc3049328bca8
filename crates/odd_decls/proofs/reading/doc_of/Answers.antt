use Rattle.std.proofs.Common.{Some, slice_get, ap, sym, subst, refl, ◌∙◌}
use Rattle.odd_text.specs.Sorted.{IsSet}
use Rattle.odd_text.specs.Text.{text_cmp}
use Rattle.odd_text.specs.Standing.{StandsIn}
use Rattle.odd_decls.proofs.WholeRead.{first_kept, ident_given}
use Rattle.odd_decls.proofs.reading.doc_of.Goals as goal

pub returns : goal.returns
returns c t first end formed are unoffended =
    let schemas = are.schemas in
    let of = c.args.of.now in
    let is = first_kept of.levels.items c.first-schema.result of.schemas.items schemas (c.first-schema.ensures.value ∙ ap (λ ks. slice_get ks 0) c.as_slice.ensures.value) are.kept in
    let read = c.in_ok-entries_of.ensures t first end formed are unoffended (c.in_ok-ns.ensures schemas is) in (
      record {
        unoffended = unoffended;
        schemas = schemas;
        found = are.finds;
        ident = ident_given t schemas unoffended are.finds ∙ ap Some (sym (c.in_ok-ident_of.ensures schemas is));
        start = subst (λ words. IsSet text_cmp (StandsIn words) c.in_ok-sorted.field-0) (c.in_ok-start_words.ensures schemas is) c.in_ok-sorted.ensures;
        entries = read.0;
        rising = read.1;
      },
      refl,
    )
