use Rattle.std.proofs.Common.{rules, ◌≡◌, ℕ, List, length, refl, sym, ◌∙◌, subst, arith}
use Rattle.std.proofs.lemmas.Result.{IfOk-weaker, IfErr-weaker}
use Rattle.std.specs.Str.{encode_utf8_all}
use Rattle.odd_tokens.specs.Tokens.{size_of}
use Rattle.odd_tree.specs.Formed.{IsFormed}
use Rattle.odd_reader.specs.Reading.{HasRead}
use Rattle.odd_tree.specs.Spelled.{DepthPlace, GivesTree, IsNotXml}
use Rattle.odd_reader.specs.declared.reader.ReadRefusal.{ReadRefusal}
use Rattle.odd_reader.specs.declared.reader.ReadRefusal.TheVariants as refusal
use Rattle.odd_reader.specs.declared.reader.Reader.{Reader}
use Rattle.odd_reader.proofs.Formed.{spelled_formed}
use Rattle.odd_reader.proofs.LongestFront.{front_begun, front_next, front_refused, front_cut, front_ends, front_within}
use Rattle.odd_reader.proofs.reader.read_tree.Goals as goal

pub reading-init : goal.reading-init
reading-init c = (
  search rules,
  front_begun c.args.bytes.now c.longest_front-front.result.now c.longest_front-front.result.now _ c.in-Ok.reader c.longest_front-front.ensures refl (omega arith) c.in-Ok.ensures,
)

pub overflow_sub-at : goal.overflow_sub-at
overflow_sub-at c = front_within c.args.bytes.now c.longest_front-front.result.now c.reading.rest.now _ c.reading.reader c.reading.invariant.1

pub reading-preserved : goal.reading-preserved
reading-preserved c = (
  search rules,
  front_next c.args.bytes.now c.longest_front-front.result.now c.reading.rest.now c.in-Ok-step.left.now c.reading.reader c.reading.invariant.1 c.step.new.self c.in-Ok-step.ensures.ok,
)

pub reading-smaller : goal.reading-smaller
reading-smaller c = omega (arith, c.in-Ok-step.ensures.ok.shorter)

pub returns-in-Err-step-clause-not_xml : goal.returns-in-Err-step-clause-not_xml
returns-in-Err-step-clause-not_xml c = λ place n.
    front_refused c.args.bytes.now c.longest_front-front.result.now c.reading.rest.now c.reading.rest.now c.reading.reader c.reading.invariant.1 IsNotXml place (c.in-Err-step.ensures.not_xml place n)

pub returns-in-Err-step-clause-too_deep : goal.returns-in-Err-step-clause-too_deep
returns-in-Err-step-clause-too_deep c = λ place n.
    front_refused c.args.bytes.now c.longest_front-front.result.now c.reading.rest.now c.reading.rest.now c.reading.reader c.reading.invariant.1 DepthPlace place (c.in-Err-step.ensures.too_deep place n)

pub returns-then-front-bytes-clause-not_xml : goal.returns-then-front-bytes-clause-not_xml
returns-then-front-bytes-clause-not_xml c = λ at n.
    front_cut c.args.bytes.now c.longest_front-front.result.now c.reading.rest.now _ c.reading.reader c.reading.invariant.1 (omega arith) at (omega arith) (λ cs e k. cc (n, c.place.ensures cs e k))

pub returns-clause-ok : goal.returns-clause-ok
returns-clause-ok c =
    IfOk-weaker c.finish.result (λ t. (cs : List ℕ) → HasRead c.reading.reader cs → GivesTree (encode_utf8_all cs) t) (GivesTree c.args.bytes.now)
    (λ t f. front_ends c.args.bytes.now c.longest_front-front.result.now c.reading.rest.now _ c.reading.reader c.reading.invariant.1 (omega arith)
    (λ bytes. GivesTree bytes t) (omega arith) (λ cs e k. f cs k)) c.finish.ensures.ok

pub returns-clause-formed : goal.returns-clause-formed
returns-clause-formed c =
    let bytes = c.args.bytes.now in
    IfOk-weaker c.finish.result (GivesTree bytes) (IsFormed 0 (length bytes)) (λ t g. spelled_formed bytes t g.spelled) (returns-clause-ok c)

-- what `finish` refuses
abbrev Ended : ℕ → Reader → ReadRefusal → Type 0
Ended end r e = (cs : List ℕ) → end ≡ size_of cs → HasRead r cs → (place : ℕ) × (e ≡ refusal.NotXml place) × IsNotXml (encode_utf8_all cs) place

one_place : (e : ReadRefusal) (p q : ℕ) → e ≡ refusal.NotXml p → e ≡ refusal.NotXml q → p ≡ q
one_place e p q f g = let h : refusal.NotXml p ≡ refusal.NotXml q = sym f ∙ g in cc

not_deep : (e : ReadRefusal) (p q : ℕ) → e ≡ refusal.NotXml p → e ≡ refusal.TooDeep q → ⊥
not_deep e p q f g = cc

pub returns-clause-not_xml : goal.returns-clause-not_xml
returns-clause-not_xml c =
    let front = c.longest_front-front.result.now in
    IfErr-weaker c.finish.result (Ended (length front) c.reading.reader) (λ x. (at : ℕ) → x ≡ refusal.NotXml at → IsNotXml c.args.bytes.now at)
    (λ x f at n. front_ends c.args.bytes.now front c.reading.rest.now _ c.reading.reader c.reading.invariant.1 (omega arith)
    (λ bytes. IsNotXml bytes at) (omega arith) (λ cs e k. let g = f cs e k in subst (IsNotXml (encode_utf8_all cs)) (one_place x g.0 at g.1 n) g.2)) c.finish.ensures.err

pub returns-clause-too_deep : goal.returns-clause-too_deep
returns-clause-too_deep c =
    let front = c.longest_front-front.result.now in
    IfErr-weaker c.finish.result (Ended (length front) c.reading.reader) (λ x. (at : ℕ) → x ≡ refusal.TooDeep at → DepthPlace c.args.bytes.now at)
    (λ x f at n. front_ends c.args.bytes.now front c.reading.rest.now _ c.reading.reader c.reading.invariant.1 (omega arith)
    (λ bytes. DepthPlace bytes at) (omega arith) (λ cs e k. let g = f cs e k in absurd (not_deep x g.0 at g.1 n))) c.finish.ensures.err
