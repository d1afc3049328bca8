use Rattle.std.proofs.Common.{◌≡◌, map, take}
use Rattle.odd_meaning.specs.Links.{class_key}
use Rattle.odd_classes.proofs.links.class_keys.Given as goal

abbrev pub invariant-loop-word : goal.invariant-loop-word
invariant-loop-word l = l.keys ≡ map class_key (take l.word-index l.words)
