use Rattle.std.proofs.Common.{◌≡◌, ◌+◌, ◌<◌, false, true, [], ◌∷◌, ◌++◌, length, get_or, take, ap, sym, subst, ◌∙◌}
use Rattle.std.proofs.lemmas.Bool.{false≢true}
use Rattle.std.proofs.lemmas.List.{take_more}
use Rattle.std.specs.Option.{option_copied}
use Rattle.odd_text.proofs.InList.{nothing_stands}
use Rattle.compile_defines.specs.Contents.{holds_element}
use Rattle.compile_core.specs.Schema.{IsLeast}
use Rattle.compile_core.proofs.OneGrammarOf.{held_more, lesser_copied, missing_more}
use Rattle.compile_core.proofs.compiling.least_missing.Goals as goal
use Rattle.compile_core.proofs.compiling.least_missing.Goals.{then-not-holds_element, else-not-holds_element}

pub loop-word-init : goal.loop-word-init
loop-word-init c = λ w a missing. nothing_stands w a

pub loop-word-preserved : goal.loop-word-preserved
loop-word-preserved c =
    let i = c.loop-word.word-index in
    let words = c.args.start.now in
    let library = c.args.library.now in
    let word = c.word-item.result in
    let within : i < length words = subst (λ xs. i < length xs) c.as_slice-word-items.ensures c.loop-word-test.true in
    let this : word ≡ get_or words i word = c.word-item.is ∙ ap (λ xs. get_or xs i word) c.as_slice-word-items.ensures in
    let more : take (i + 1) words ≡ take i words ++ word ∷ [] = take_more words i word within ∙ ap (λ x. take i words ++ x ∷ []) (sym this) in
    let asked : c.holds_element.result ≡ holds_element library word = c.holds_element.ensures in
    let step : IsLeast library (take i words ++ word ∷ []) (option_copied c.if-not-holds_element.least) =
    elim c.if-not-holds_element.branch [
      | then-not-holds_element w ↦
          let missing : holds_element library word ≡ false = sym asked ∙ w.if-not-holds_element.true in
          subst (IsLeast library (take i words ++ word ∷ [])) (sym (ap option_copied (w.least-is ∙ w.lesser-least.ensures) ∙ lesser_copied c.loop-word.least _))
          (missing_more library (take i words) word _ c.loop-word.invariant missing)
      | else-not-holds_element w ↦
          let held : holds_element library word ≡ true = sym asked ∙ w.if-not-holds_element.false in
          subst (IsLeast library (take i words ++ word ∷ [])) (ap option_copied (sym w.least-is))
          (held_more library (take i words) word _ c.loop-word.invariant (λ missing. false≢true (sym missing ∙ held)))
    ] in
    subst (λ ws. IsLeast library ws (option_copied c.if-not-holds_element.least)) (sym more) step
