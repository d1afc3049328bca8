use Rattle.std.proofs.Common.{◌≡◌, ◌≤◌, ◌+◌, ◌-◌, ◌++◌, List, ℕ, Some, take, length}
use Rattle.std.specs.Prelude.{IsTrue}
use Rattle.odd_base.proofs.writing.write_whole.Given as goal

abbrev pub invariant-writing : goal.invariant-writing
invariant-writing g l =
    let W = g.W.Sink in
    record {
      within : l.done ≤ length l.bytes;
      never_falls : W.faults l.fn.out ≤ W.faults l.out;
      same_steady : W.steady l.out ≡ W.steady l.fn.out;
      sofar : (before : List ℕ) → W.written l.fn.out ≡ Some before → W.written l.out ≡ Some (before ++ take l.done l.bytes);
      room_taken : IsTrue (W.steady l.fn.out) → W.room l.out + l.done ≡ W.room l.fn.out;
      room : IsTrue (W.steady l.fn.out) → length l.bytes ≤ W.room l.fn.out → length l.bytes ≤ W.room l.out + l.done;
    }

abbrev pub decreases-writing : goal.decreases-writing
decreases-writing g l = length l.bytes - l.done
