use Rattle.std.proofs.Common.{◌++◌, map, sym, ap, ◌∙◌}
use Rattle.odd_tree.specs.Elements.{all_binds}
use Rattle.odd_forms.specs.Excepting.{excepted_of}
use Rattle.odd_text.specs.Sorted.{set_of}
use Rattle.odd_text.specs.NameOrder.{name_cmp}
use Rattle.odd_text.specs.Text.{text_cmp}
use Rattle.odd_content.specs.Condition.{name_of, names_among, space_of, spaces_among}
use Rattle.odd_content.proofs.Conditions.{all_passed, given_passed, names_sorted, none_passed, texts_sorted}
use Rattle.odd_content.proofs.condition.read_condition.Goals as goal
use Rattle.odd_content.proofs.condition.read_condition.Goals.{in-Space+in_ok-push-in-Space, in-Name+in_ok-push-in-Name, in-Unbound}

pub loop-word-init : goal.loop-word-init
loop-word-init c =
    let binds = all_binds (map (λ b. b.now) c.args.inside.now) in
    let words = c.as_slice-word-items.result.now in
    (ap (λ ss. ss ++ spaces_among binds words) c.new-spaces.ensures, ap (λ ns. ns ++ names_among binds words) c.new-names.ensures)

pub loop-word-preserved : goal.loop-word-preserved
loop-word-preserved c =
    let binds = all_binds (map (λ b. b.now) c.args.inside.now) in
    let before = c.loop-word.invariant in
    let words = c.as_slice-word-items.result.now in
    let word = c.word-item.result in
    let i = c.loop-word.word-index in
    let gives_space = given_passed (λ w. space_of (excepted_of binds w)) words i word c.loop-word.spaces _ c.loop-word-test.true c.word-item.is before.0 in
    let no_space = none_passed (λ w. space_of (excepted_of binds w)) words i word c.loop-word.spaces _ c.loop-word-test.true c.word-item.is before.0 in
    let gives_name = given_passed (λ w. name_of (excepted_of binds w)) words i word c.loop-word.names _ c.loop-word-test.true c.word-item.is before.1 in
    let no_name = none_passed (λ w. name_of (excepted_of binds w)) words i word c.loop-word.names _ c.loop-word-test.true c.word-item.is before.1 in
    elim c.match-branch-5.branch [
      | in-Space+in_ok-push-in-Space w ↦
          let is = sym c.in_ok-space.ensures ∙ w.in-Space.is in
          rw w.names-is (gives_space _ _ (ap space_of is) (w.spaces-is ∙ w.in_ok-push-in-Space.ensures.ok), no_name (ap name_of is))
      | in-Name+in_ok-push-in-Name w ↦
          let is = sym c.in_ok-space.ensures ∙ w.in-Name.is in
          rw w.spaces-is (no_space (ap space_of is), gives_name _ _ (ap name_of is) (w.names-is ∙ w.in_ok-push-in-Name.ensures.ok))
      | in-Unbound w ↦
          let is = sym c.in_ok-space.ensures ∙ w.in-Unbound.is in
          rw (w.spaces-is, w.names-is) (no_space (ap space_of is), no_name (ap name_of is))
    ]

pub returns : goal.returns
returns c =
    let binds = all_binds (map (λ b. b.now) c.args.inside.now) in
    let items = c.as_slice-word-items.result.now in
    let before = c.loop-word.invariant in
    let words = c.as_slice-word-items.ensures ∙ c.in_ok-except.ensures in
    let spaces = all_passed (λ w. space_of (excepted_of binds w)) items _ c.loop-word.word-index c.loop-word.spaces before.0 c.loop-word-test.false words in
    let names = all_passed (λ w. name_of (excepted_of binds w)) items _ c.loop-word.word-index c.loop-word.names before.1 c.loop-word-test.false words in
    let require_is = texts_sorted _ _ c.in_ok-require.ensures ∙ ap (set_of text_cmp) c.in_ok-words_given.ensures in
    let spaces_is = texts_sorted _ _ c.in_ok-spaces.ensures ∙ ap (set_of text_cmp) spaces in
    let names_is = names_sorted _ _ c.in_ok-names.ensures ∙ ap (set_of name_cmp) names in
    λ n. record { require = require_is n; spaces = spaces_is n; names = names_is n }
