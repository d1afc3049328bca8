use Rattle.std.proofs.Common.{length}
use Rattle.odd_offers.proofs.making.+united_all.Given as goal

-- proposed from what the function passes where it calls itself
abbrev pub decreases-united_all : goal.decreases-united_all
decreases-united_all l = length l.tables.now
