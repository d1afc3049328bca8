use Rattle.std.proofs.Common.{◌≡◌, ℕ, List, Option, Some, None, refl, sym, ap, ◌∙◌, subst}
use Rattle.std.proofs.lemmas.Bool.{both_ways}
use Rattle.std.specs.Option.{ok_or}
use Rattle.std.specs.Prelude.{IfOk, IfErr}
use Rattle.std.specs.Str.{encode_utf8_all}
use Rattle.odd_tokens.specs.Tokens.{size_of}
use Rattle.odd_reader.specs.Reading.{HasRead}
use Rattle.odd_tree.specs.Spelled.{GivesTree, IsNotXml}
use Rattle.odd_reader.specs.declared.reader.ReadRefusal.{ReadRefusal}
use Rattle.odd_reader.specs.declared.reader.ReadRefusal.TheVariants as refusal
use Rattle.odd_tree.specs.declared.tree.Tree.{Tree}
use Rattle.odd_reader.proofs.Taken.{end_place, gives_tree}
use Rattle.odd_reader.proofs.reader.Reader.finish.Goals as goal

pub returns-then-not-is_between-clause-err : goal.returns-then-not-is_between-clause-err
returns-then-not-is_between-clause-err c = λ cs e h. (
  c.place-place.result,
  refl,
  subst (IsNotXml _) (sym (c.place-place.ensures cs e h))
      (end_place h (λ n. absurd (both_ways c.is_between.result c.if-not-is_between.true ((c.is_between.ensures _ _ _ h.read).1 n)))),
)

ok_so : (P : Tree → Type 0) (root : Option Tree) (e : ReadRefusal) → ((t : Tree) → root ≡ Some t → P t) → IfOk (ok_or root e) P
ok_so P None e f = tt
ok_so P (Some t) e f = f t refl

err_so : (P : ReadRefusal → Type 0) (root : Option Tree) (e : ReadRefusal) → (root ≡ None → P e) → IfErr (ok_or root e) P
err_so P None e f = f refl
err_so P (Some t) e f = tt

none_rooted : (root : Option Tree) (t : Tree) → root ≡ None → root ≡ Some t → ⊥
none_rooted root t e f = cc

pub returns-clause-ok : goal.returns-clause-ok
returns-clause-ok c =
    let P : Tree → Type 0 = λ tree. (cs : List ℕ) → HasRead c.args.self cs → GivesTree (encode_utf8_all cs) tree in
    subst (λ r. IfOk r P) (sym (c.ok_or.ensures.value ∙ ap (λ x. ok_or x (refusal.NotXml c.place-place.result)) c.finish.ensures))
    (ok_so P c.args.self.builder.root (refusal.NotXml c.place-place.result)
    (λ t r cs h. gives_tree h t ((c.is_between.ensures _ _ _ h.read).0 c.if-not-is_between.false) r))

pub returns-clause-err : goal.returns-clause-err
returns-clause-err c =
    let P : ReadRefusal → Type 0 = λ e. (cs : List ℕ) → c.args.end ≡ size_of cs → HasRead c.args.self cs → (place : ℕ) × (e ≡ refusal.NotXml place) × IsNotXml (encode_utf8_all cs) place in
    subst (λ r. IfErr r P) (sym (c.ok_or.ensures.value ∙ ap (λ x. ok_or x (refusal.NotXml c.place-place.result)) c.finish.ensures))
    (err_so P c.args.self.builder.root (refusal.NotXml c.place-place.result)
    (λ r cs e h. (c.place-place.result, refl, subst (IsNotXml _) (sym (c.place-place.ensures cs e h)) (end_place h (λ n t s. none_rooted c.args.self.builder.root t r s)))))
