use Rattle.std.proofs.Common.{◌≡◌, ◌≤◌, ◌+◌, ◌-◌, Some, vec_len}
use Rattle.odd_text.specs.Count.{next_count}
use Rattle.odd_base.specs.Shelf.{FileMap}
use Rattle.odd_base.proofs.FilesRead.{ReadSoFar}
use Rattle.odd_base.proofs.reading.slurp.Given as goal

abbrev pub invariant-reading : goal.invariant-reading
invariant-reading g l =
    let F = g.F.Shelf in
    record {
      same_files : F.holds l.shelf ≡ F.holds l.fn.shelf;
      same_steady : F.steady l.shelf ≡ F.steady l.fn.shelf;
      begins : F.begins l.shelf ≡ next_count (F.begins l.fn.shelf);
      reads_never_fall : F.reads l.fn.shelf ≤ F.reads l.shelf;
      begins_never_fall : F.begins l.fn.shelf ≤ F.begins l.shelf;
      never_falls : F.faults l.fn.shelf ≤ F.faults l.shelf;
      few_reads : F.reads l.shelf ≤ F.reads l.fn.shelf + vec_len l.bytes;
      within : vec_len l.bytes ≤ l.limit;
      sofar : (files : FileMap) → F.holds l.fn.shelf ≡ Some files → ReadSoFar files l.name l.bytes.items (F.rest l.shelf);
    }

abbrev pub decreases-reading : goal.decreases-reading
decreases-reading g l = l.limit - vec_len l.bytes
