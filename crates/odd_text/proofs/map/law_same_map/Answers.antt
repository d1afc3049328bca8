use Rattle.odd_text.proofs.Entries.{same_map}
use Rattle.odd_text.proofs.map.law_same_map.Goals as goal

pub returns : goal.returns
returns g c = same_map g.K.Ord.cmp g.met.K.Ord.total g.met.K.ExactOrd.exact c.args.one.now c.args.other.now c.entries.ensures.rising c.entries-2.ensures.rising
