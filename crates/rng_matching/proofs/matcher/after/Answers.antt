use Rattle.std.proofs.Common.{◌≡◌, ◌<◌, ◌↔◌, [], ◌++◌, ◌∷◌, ◌∙◌, IsUtf8, length, ap, sym, subst}
use Rattle.std.proofs.lemmas.List.{nil_from_length}
use Rattle.std.proofs.lemmas.Str.{IsUtf8-past_char, chars-nil, chars_past_char}
use Rattle.std.specs.Str.{chars}
use Rattle.odd_pool.proofs.Kept.{at_grown, grows_twice}
use Rattle.odd_pool.specs.Pattern.{Fits, Leaves}
use Rattle.odd_pool.specs.Pool.{pattern_at}
use Rattle.rng_matching.specs.Searched.{admits}
use Rattle.rng_matching.specs.Staying.{Stay}
use Rattle.rng_matching.proofs.Stays.{passed, stay_grown, stay_more}
use Rattle.rng_matching.proofs.matcher.after.Goals as goal

pub text-preserved-then-to-at : goal.text-preserved-then-to-at
text-preserved-then-to-at c =
    let takes = admits c.args.chars.now.sets in
    let begun = c.text.pool in
    let grown = c.derive_by.new.pool in
    let at = c.text.at in
    let rest = c.text.rest.rest.now in
    let later = c.next.new.self.rest.now in
    let after = c.chars-rest-then-to-at.result.rest.now in
    let known = c.note.new.self.known.items in
    let is : chars rest ≡ c.in-Some.c ∷ chars later = chars_past_char rest later c.in-Some.c c.text.invariant.legal c.in-Some.ensures.steps.0 in
    let stays : Leaves takes (pattern_at grown at) c.in-Some.c (pattern_at grown at) =
    subst (λ p. Leaves takes p c.in-Some.c (pattern_at grown at)) (sym (at_grown begun grown c.derive_by.ensures.kept at c.text.invariant.within))
    (subst (λ n. Leaves takes (pattern_at begun at) c.in-Some.c (pattern_at grown n)) c.if-to-at.true c.in_ok-to.ensures.left) in
    let within : at < length grown = subst (λ n. n < length grown) c.if-to-at.true c.in_ok-to.ensures.within in
    let before = stay_grown takes begun grown c.text.staying.known.items c.derive_by.ensures.kept c.text.invariant.stay in
    let stay : Stay takes grown known = stay_more takes grown c.text.staying.known.items known at c.in-Some.c within stays c.note.ensures before in
    let cut : later ≡ c.past.ensures.0 ++ after = sym c.as_str.ensures ∙ c.past.ensures.1 ∙ ap (λ t. c.past.ensures.0 ++ t) (sym c.chars-rest-then-to-at.ensures.rest) in
    record {
      within = c.in_ok-to.ensures.within;
      kept = grows_twice c.args.pool.now begun grown c.text.invariant.kept c.derive_by.ensures.kept;
      right = c.derive_by.ensures.right;
      stay = stay;
      legal = subst IsUtf8 (sym c.chars-rest-then-to-at.ensures.rest) c.past.utf8;
      left = λ v.
          let gone = subst (λ n. Fits takes (pattern_at grown n) (chars after ++ v) ↔ Fits takes (pattern_at grown n) (chars later ++ v)) (sym c.if-to-at.true)
          (passed takes grown known at stay later c.past.ensures.0 after cut c.past.ensures.2 v) in
          let one = c.in_ok-to.ensures.left (chars later ++ v) in
          let all = subst (λ cs. Fits takes (pattern_at begun at) (cs ++ v) ↔ Fits takes (pattern_at c.args.pool.now c.args.start) (chars c.args.text.now ++ v)) is (c.text.invariant.left v) in
          (λ m. all.0 (one.0 (gone.0 m)), λ m. gone.1 (one.1 (all.1 m)));
    }

pub text-preserved : goal.text-preserved
text-preserved c =
    let takes = admits c.args.chars.now.sets in
    let begun = c.text.pool in
    let rest = c.text.rest.rest.now in
    let later = c.next.new.self.rest.now in
    let is : chars rest ≡ c.in-Some.c ∷ chars later = chars_past_char rest later c.in-Some.c c.text.invariant.legal c.in-Some.ensures.steps.0 in
    record {
      within = c.in_ok-to.ensures.within;
      kept = grows_twice c.args.pool.now begun c.derive_by.new.pool c.text.invariant.kept c.derive_by.ensures.kept;
      right = c.derive_by.ensures.right;
      stay = stay_grown takes begun c.derive_by.new.pool c.text.staying.known.items c.derive_by.ensures.kept c.text.invariant.stay;
      legal = IsUtf8-past_char rest later c.in-Some.c c.text.invariant.legal c.in-Some.ensures.steps.0;
      left = λ v.
          let one = c.in_ok-to.ensures.left (chars later ++ v) in
          let all = subst (λ cs. Fits takes (pattern_at begun c.text.at) (cs ++ v) ↔ Fits takes (pattern_at c.args.pool.now c.args.start) (chars c.args.text.now ++ v)) is (c.text.invariant.left v) in
          (λ m. all.0 (one.0 m), λ m. one.1 (all.1 m));
    }

pub returns-clause-left : goal.returns-clause-left
returns-clause-left c = λ v.
    let takes = admits c.args.chars.now.sets in
    let done : chars c.text.rest.rest.now ≡ [] = ap chars (nil_from_length _ c.in_default.ensures.steps.0.0) ∙ chars-nil in
    subst (λ cs. Fits takes (pattern_at c.text.pool c.text.at) (cs ++ v) ↔ Fits takes (pattern_at c.args.pool.now c.args.start) (chars c.args.text.now ++ v)) done (c.text.invariant.left v)
