use Rattle.std.proofs.Common.{◌≡◌, ◌++◌, map}
use Rattle.std.specs.List.{filter_map}
use Rattle.odd_forms.specs.Tags.{facet_tagged, facets_given, tag_of}
use Rattle.odd_forms.proofs.facets.facets_given.Given as goal

abbrev pub invariant-loop-child : goal.invariant-loop-child
invariant-loop-child l = facets_given l.tree ≡ l.facets ++ filter_map facet_tagged (map tag_of l.child-iterator)
