use Rattle.std.proofs.Common.{◌≡◌, ◌↔◌, ◌∙◌, [], ◌∷◌, ◌++◌, IfOk, IsTrue, ap, map, sym, subst, rules}
use Rattle.std.proofs.lemmas.Result.{IfOk-weaker}
use Rattle.std.specs.Str.{chars}
use Rattle.odd_pool.specs.Pool.{pattern_at}
use Rattle.rng_types.specs.Words.{words_of}
use Rattle.rng_allows.proofs.Marks.{all_words, last_left, next_left, next_mark, next_word, takes}
use Rattle.rng_allows.proofs.Rows.{choice_else, choice_then, leaves_formed, left_formed, list_allows, right_formed, Tells}
use Rattle.rng_allows.proofs.WordTexts.{words_chars}
use Rattle.rng_allows.specs.declared.value_pattern.ValuePattern as V
use Rattle.rng_allows.proofs.allowing.+allows.Goals as goal

pub allows-allows-requires : goal.allows-allows-requires
allows-allows-requires t c =
    (search (rules, V.the_lemmas), left_formed c.args.value.now c.in-Choice.left c.in-Choice.right c.get.result.now c.in-Choice.is c.get.ensures c.requires)

pub allows-returns-then-branch : goal.allows-returns-then-branch
allows-returns-then-branch t c =
    choice_then (chars c.args.text.now) c.args.value.now c.in-Choice.left c.in-Choice.right c.get.result.now c.in_ok-allows-in-Choice.field-0
    c.in-Choice.is c.get.ensures c.if-branch.true c.in_ok-allows-in-Choice.ensures

pub allows-allows-requires-in-Choice : goal.allows-allows-requires-in-Choice
allows-allows-requires-in-Choice t c =
    (search (rules, V.the_lemmas), right_formed c.args.value.now c.in-Choice.left c.in-Choice.right c.get-in-Choice.result.now c.in-Choice.is c.get-in-Choice.ensures c.requires)

pub allows-returns-else-branch : goal.allows-returns-else-branch
allows-returns-else-branch t c =
    let cs = chars c.args.text.now in
    IfOk-weaker c.allows-in-Choice.result (λ yes. Tells cs yes c.get-in-Choice.result.now) (λ yes. Tells cs yes c.args.value.now)
    (λ yes h. choice_else cs c.args.value.now c.in-Choice.left c.in-Choice.right c.get.result.now c.get-in-Choice.result.now c.in_ok-allows-in-Choice.field-0 yes
    c.in-Choice.is c.get.ensures c.get-in-Choice.ensures c.if-branch.false c.in_ok-allows-in-Choice.ensures h)
    c.allows-in-Choice.ensures

pub allows-returns-in-Typed : goal.allows-returns-in-Typed
allows-returns-in-Typed t c = subst (λ v. IfOk c.is_typed.result (λ yes. Tells (chars c.args.text.now) yes v)) (sym c.in-Typed.is) c.is_typed.ensures

pub allows-allows_words-requires : goal.allows-allows_words-requires
allows-allows_words-requires t c = (search (rules, V.the_lemmas), leaves_formed c.args.value.now c.in-List.leaves c.in-List.pat c.in-List.is c.requires)

pub allows-returns-in-List : goal.allows-returns-in-List
allows-returns-in-List t c =
    let cs = chars c.args.text.now in
    let listed = subst (λ T. IfOk c.allows_words.result (λ yes. IsTrue yes ↔ T)) (sym (list_allows c.in-List.leaves c.in-List.pat cs)) c.allows_words.ensures in
    subst (λ v. IfOk c.allows_words.result (λ yes. Tells cs yes v)) (sym c.in-List.is) listed

pub allows_words-loop-word-init : goal.allows_words-loop-word-init
allows_words-loop-word-init t c = record {
  within = c.in_ok-left.ensures.within;
  seen = [];
  marked = tt;
  left = c.in_ok-left.ensures.fits takes;
}

pub allows_words-loop-word-preserved : goal.allows_words-loop-word-preserved
allows_words-loop-word-preserved t c =
    let before = c.loop-word.invariant in
    let marks = c.in_ok-marks.marks in
    record {
      within = c.in_ok-left-2.ensures.within;
      seen = before.seen ++ marks ∷ [];
      marked = next_word c.args.leaves.now c.as_slice-word-items.result.now c.loop-word.word-index c.word-item.result before.seen marks c.loop-word-test.true c.word-item.is
          before.marked c.in_ok-marks.ensures;
      left = next_left c.args.pat.now (pattern_at c.loop-word.pool c.loop-word.left) (pattern_at c.derive.new.self c.in_ok-left-2.left) before.seen marks before.left
          c.in_ok-left-2.ensures.left;
    }

pub allows_words-returns : goal.allows_words-returns
allows_words-returns t c =
    let items = c.as_slice-word-items.result.now in
    let all = c.loop-word.invariant in
    let same : map chars items ≡ words_of (chars c.args.text.now) =
    ap (map chars) (c.as_slice-word-items.ensures ∙ c.in_ok-words.ensures) ∙ words_chars c.as_str.result.now c.as_str.utf8 ∙ ap (λ text. words_of (chars text)) c.as_str.ensures in
    last_left c.args.leaves.now c.args.pat.now (words_of (chars c.args.text.now)) all.seen (pattern_at c.loop-word.pool c.loop-word.left) c.nullable.result
    (all_words c.args.leaves.now items (words_of (chars c.args.text.now)) c.loop-word.word-index all.seen c.loop-word-test.false same all.marked) all.left (c.nullable.ensures takes)

pub marks_of-loop-leaf-preserved : goal.marks_of-loop-leaf-preserved
marks_of-loop-leaf-preserved t c =
    next_mark c.as_slice-leaf-items.result.now c.loop-leaf.leaf-index c.leaf-item.result (chars c.args.word.now) c.loop-leaf.marks c.push.new.self c.in_ok-allows.field-0
    c.loop-leaf-test.true c.leaf-item.is c.in_ok-push.ensures.ok c.loop-leaf.invariant c.in_ok-allows.ensures
