-- What passes a test, or what does not.
use Rattle.std.specs.Prelude.{Bool, true, false, not}

abbrev pub is_wanted : Bool → Bool → Bool
is_wanted true passes = passes
is_wanted false passes = not passes
