use Rattle.odd_items.proofs.Added.{adds_only, texts}
use Rattle.odd_items.proofs.searching.find_elements.Goals as goal

pub returns : goal.returns
returns c = adds_only (texts c.args.names.now) c.args.outermost c.args.tree.now _ _ _ _ c.new-2.ensures.items c.in_ok-add.ensures
