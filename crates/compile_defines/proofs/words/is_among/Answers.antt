use Rattle.std.proofs.Common.{◌∙◌}
use Rattle.compile_defines.proofs.Collected.{search_told}
use Rattle.compile_defines.proofs.words.is_among.Goals as goal

pub returns : goal.returns
returns c = c.is_ok.ensures.value ∙ search_told c.args.sorted.now c.args.word.now c.requires c.binary_search.result c.binary_search.ensures.bound c.binary_search.ensures.position
