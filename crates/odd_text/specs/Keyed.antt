-- The order of values by their keys.
use Rattle.std.proofs.lemmas.Cmp.{on_total}
use Rattle.std.specs.Cmp.{IsTotalOrder}
use Rattle.std.specs.declared.cmp.Ordering.{Ordering}
use Rattle.odd_text.specs.Key.{key_cmp}
use Rattle.odd_text.specs.KeyOrder.{key_total}
use Rattle.odd_text.specs.declared.key.Key.{Key}
use Rattle.odd_text.specs.declared.keyed.Keyed.{Keyed}

-- the key of a value
abbrev pub key_of : {V : Type 0} → Keyed V → Key
key_of k = record { kind = k.kind; ident = k.ident.now }

-- values are compared by their keys alone
abbrev pub keyed_cmp : {V : Type 0} → Keyed V → Keyed V → Ordering
keyed_cmp a b = key_cmp (key_of a) (key_of b)

pub keyed_total : {V : Type 0} → IsTotalOrder (keyed_cmp {V = V})
keyed_total = on_total key_of key_total
