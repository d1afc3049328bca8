use Rattle.std.proofs.Common.{◌≡◌, [], ◌++◌, ◌∷◌, Some, sym, ap, ◌∙◌}
use Rattle.std.specs.Prelude.{Err, reverse}
use Rattle.std.proofs.lemmas.List.{append_assoc}
use Rattle.std.proofs.lemmas.Result.{err_from_is_err_and}
use Rattle.odd_reader.specs.Resolving.{around, attribute_named, attributes_named}
use Rattle.odd_reader.proofs.Tags.{attributes_more, attributes_stop, gives_none}
use Rattle.odd_reader.proofs.around.Around.attributes.Goals as goal

pub loop-attr-preserved : goal.loop-attr-preserved
loop-attr-preserved c =
    let binds = around (reverse c.args.self.now.open.now) ++ c.args.own.now in
    let done = c.loop-attr.yielded in
    let attr = c.in-Some.attr in
    let left = c.next.new.self.rest.items in
    record {
      so_far = attributes_more binds done attr c.loop-attr.attrs.items c.in_ok-name.name c.loop-attr.invariant.so_far c.in_ok-name.ensures
          ∙ ap (λ l. Some l) (sym c.in_ok-push.ensures.items);
      parted = c.loop-attr.invariant.parted ∙ ap (λ l. done ++ l) c.in-Some.ensures.steps.0 ∙ sym (append_assoc done (attr ∷ []) left);
    }

pub returns-in_err-name : goal.returns-in_err-name
returns-in_err-name c =
    let binds = around (reverse c.args.self.now.open.now) ++ c.args.own.now in
    let attr = c.in-Some.attr in
    let left = c.next.new.self.rest.items in
    let parts : c.args.plain.items ≡ c.loop-attr.yielded ++ attr ∷ left =
    c.loop-attr.invariant.parted ∙ ap (λ l. c.loop-attr.yielded ++ l) c.in-Some.ensures.steps.0 in
    let given = err_from_is_err_and c.from_residual-in_err-name.result c.from_residual-in_err-name.ensures.1 in
    gives_none (attribute_named binds attr.name) (attributes_named binds c.args.plain.items) c.from_residual-in_err-name.result c.in_err-name.field-0.0
    (given.1 ∙ ap (λ e. Err e) given.2) c.in_err-name.ensures (λ e. ap (attributes_named binds) parts ∙ attributes_stop binds c.loop-attr.yielded attr left e)
