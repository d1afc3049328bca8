-- What a slice from a place on has.
use Rattle.std.proofs.Common.{◌≡◌, ◌-◌, ℕ, List, length, take, drop, arith}
use Rattle.std.proofs.lemmas.List.{take_all, length-drop}

pub take-drop-all : (bytes : List ℕ) (at : ℕ) → take (length bytes - at) (drop at bytes) ≡ drop at bytes
take-drop-all bytes at =
    take_all (length bytes - at) (drop at bytes) (omega (arith, length-drop at bytes))
