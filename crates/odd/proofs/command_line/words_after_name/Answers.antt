use Rattle.std.proofs.Common.{sym, ap, ◌∙◌, map, string_bytes}
use Rattle.std.proofs.lemmas.Iterator.Consumers.{YieldsList-end}
use Rattle.std.proofs.lemmas.List.{map-id}
use Rattle.std.specs.Vec.Iter.{into_iter_items}
use Rattle.odd.proofs.Arguments.{all_but_first, yields_items}
use Rattle.odd.proofs.command_line.words_after_name.Goals as goal

pub returns : goal.returns
returns c =
    let seen =
    YieldsList-end (yields_items c.into_iter-word-iterator.result) c.loop-word.yielded c.loop-word.word-iterator c.loop-word.yielded_by c.next.result c.next.new.self c.in-None.is
    c.next.ensures.steps in
    c.loop-word.invariant ∙ ap (map string_bytes) (sym (map-id c.loop-word.yielded) ∙ seen.0)
    ∙ ap (λ s. map string_bytes (into_iter_items s)) c.into_iter-word-iterator.ensures.into_iter_gives
    ∙ sym (all_but_first string_bytes c.args.args c.next-name.new.self c.next-name.result c.next-name.ensures.cases)
