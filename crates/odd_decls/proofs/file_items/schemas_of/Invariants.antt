use Rattle.std.proofs.Common.{◌≡◌, filter, take}
use Rattle.odd_forms.specs.Names.{is_one_of}
use Rattle.odd_items.specs.Groups.{schema_names}
use Rattle.odd_decls.proofs.file_items.schemas_of.Given as goal

abbrev pub invariant-loop-kept : goal.invariant-loop-kept
invariant-loop-kept l = l.schemas.items ≡ filter (λ k. is_one_of schema_names k.tree.now) (take l.kept-index l.found)
