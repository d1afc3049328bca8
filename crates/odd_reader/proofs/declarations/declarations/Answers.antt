use Rattle.std.proofs.Common.{◌≡◌, false, List, [], ◌∷◌, ◌++◌, codes, refl, sym, ap, ◌∙◌}
use Rattle.std.proofs.lemmas.Bool.{or_parts}
use Rattle.std.specs.List.{list_any}
use Rattle.odd_text.specs.Same.{is_same}
use Rattle.odd_tokens.specs.declared.token.WrittenAttr.{WrittenAttr}
use Rattle.odd_reader.specs.Resolving.{binds_made, is_declared, plain_made}
use Rattle.odd_reader.proofs.Tags.{declared_more, plain_more}
use Rattle.odd_reader.proofs.declarations.declarations.Goals as goal

pub loop-attr-preserved-in-Continue-1 : goal.loop-attr-preserved-in-Continue-1
loop-attr-preserved-in-Continue-1 c =
    let m = declared_more c.loop-attr.yielded c.in-Some.attr c.in-Ok.bind c.in-Ok.ensures.0 c.in-Ok.ensures.1 in
    (c.in_ok-push-in-Ok.ensures.ok ∙ ap (λ l. l ++ c.in-Ok.bind ∷ []) c.loop-attr.invariant.0 ∙ m.0, c.loop-attr.invariant.1 ∙ m.1)

pub loop-attr-preserved : goal.loop-attr-preserved
loop-attr-preserved c =
    let m = plain_more c.loop-attr.yielded c.in-Some.attr c.in-Err.ensures.0 in
    let same : c.in-Err.attr ≡ c.in-Some.attr = c.in-Err.ensures.1 in
    let pushed : c.push-in-Err.new.self.items ≡ c.loop-attr.plain.items ++ c.in-Err.attr ∷ [] = c.in_ok-push-in-Err.ensures.items in
    let so : c.push-in-Err.new.self.items ≡ plain_made c.loop-attr.yielded ++ c.in-Some.attr ∷ [] =
    pushed ∙ ap (λ l. l ++ c.in-Err.attr ∷ []) c.loop-attr.invariant.1 ∙ ap (λ a. plain_made c.loop-attr.yielded ++ a ∷ []) same in
    (c.loop-attr.invariant.0 ∙ m.0, so ∙ m.1)

-- where none declares
none_declared : (attrs : List WrittenAttr) → list_any is_declared attrs ≡ false → ([] ≡ binds_made attrs) × (attrs ≡ plain_made attrs)
none_declared [] h = (refl, refl)
none_declared (a ∷ rest) h =
    let p = or_parts (is_declared a) (list_any is_declared rest) h in
    let q = or_parts (is_same a.name.prefix (codes "xmlns")) _ p.0 in
    let r = none_declared rest p.1 in
    rw (q.0, q.1) (r.0, ap (λ l. a ∷ l) r.1)

pub returns-then-not-some_declare : goal.returns-then-not-some_declare
returns-then-not-some_declare c =
    let n = none_declared c.args.attrs (sym c.some_declare.ensures ∙ c.if-not-some_declare.true) in
    (c.new-binds.ensures ∙ n.0, c.into_items.ensures ∙ n.1)
