use Rattle.rng_matching.proofs.Alike.{over_choice, over_group, over_more}
use Rattle.rng_matching.proofs.searched.+over_searched.Goals as goal

pub over_searched-returns-in_ok-right-in-Choice : goal.over_searched-returns-in_ok-right-in-Choice
over_searched-returns-in_ok-right-in-Choice t c =
    over_choice c.args.pat.now c.in-Choice.left c.in-Choice.right c.in_ok-left-in-Choice.left c.in_ok-right-in-Choice.right c.in-Choice.is c.in_ok-left-in-Choice.ensures c.in_ok-right-in-Choice.ensures

pub over_searched-returns-in_ok-right-in-Group : goal.over_searched-returns-in_ok-right-in-Group
over_searched-returns-in_ok-right-in-Group t c =
    over_group c.args.pat.now c.in-Group.left c.in-Group.right c.in_ok-left-in-Group.left c.in_ok-right-in-Group.right c.in-Group.is c.in_ok-left-in-Group.ensures c.in_ok-right-in-Group.ensures

pub over_searched-returns-in_ok-part-in-More : goal.over_searched-returns-in_ok-part-in-More
over_searched-returns-in_ok-part-in-More t c = over_more c.args.pat.now c.in-More.part c.in_ok-part-in-More.part c.in-More.is c.in_ok-part-in-More.ensures
