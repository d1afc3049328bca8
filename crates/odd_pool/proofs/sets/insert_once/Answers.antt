use Rattle.odd_pool.proofs.Unique.{put_result}
use Rattle.odd_pool.proofs.sets.insert_once.Goals as goal

pub returns-in-Ok-clause-put : goal.returns-in-Ok-clause-put
returns-in-Ok-clause-put g c =
    put_result g.T.PartialEq.eq g.met.T.Eq.laws c.insert_full.result c.args.set.now.keys c.insert_full.new.self.keys c.args.value c.insert_full.ensures.keys c.insert_full.ensures.err
