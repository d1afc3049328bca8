use Rattle.std.proofs.Common.{rules, [], ◌<◌, length, take, length-take, refl, sym, subst, arith}
use Rattle.std.specs.Prelude.{nat_lt}
use Rattle.std.proofs.lemmas.List.{append-nil}
use Rattle.odd_base.specs.Shelf.{Held, TakesFront}
use Rattle.odd_base.proofs.FilesRead.{ReadSoFar, all_read, none_left, more_read, counted_read}
use Rattle.odd_base.proofs.reading.slurp.Goals as goal

pub returns-in-Err-clause-suffix : goal.returns-in-Err-clause-suffix
returns-in-Err-clause-suffix g c = λ files bytes h held e. (bytes, [], c.in-Err.ensures.closed files h, sym (append-nil bytes))

pub returns-then-n-eq0-clause-ok : goal.returns-then-n-eq0-clause-ok
returns-then-n-eq0-clause-ok g c = λ files h.
    let r = c.reading.invariant.sofar files h in
    let long : 0 < length c.reading.buf = omega arith in
    subst (λ y. Held files c.args.name.now y) (sym c.from_vec.ensures)
    (all_read files c.args.name.now c.reading.bytes.items c.reading.buf c.read.new.buf (g.F.Shelf.rest c.reading.shelf) (g.F.Shelf.rest c.read.new.self) r
    (λ left e. subst (λ n. TakesFront left c.reading.buf c.read.new.buf (g.F.Shelf.rest c.read.new.self) n) c.if-n-eq0.true (c.in-Ok-read.ensures.moved left e)) long)

pub returns-then-n-eq0-clause-to_the_end : goal.returns-then-n-eq0-clause-to_the_end
returns-then-n-eq0-clause-to_the_end g c = λ files h.
    let long : 0 < length c.reading.buf = omega arith in
    none_left files c.args.name.now c.reading.bytes.items c.reading.buf c.read.new.buf (g.F.Shelf.rest c.reading.shelf) (g.F.Shelf.rest c.read.new.self) (c.reading.invariant.sofar files h)
    (λ left e. subst (λ n. TakesFront left c.reading.buf c.read.new.buf (g.F.Shelf.rest c.read.new.self) n) c.if-n-eq0.true (c.in-Ok-read.ensures.moved left e)) long

pub reading-preserved : goal.reading-preserved
reading-preserved g c = record {
  same_files = search rules;
  same_steady = search rules;
  begins = search rules;
  reads_never_fall = search rules;
  begins_never_fall = search rules;
  never_falls = search rules;
  few_reads =
      let more = counted_read (nat_lt 0 c.in-Ok-read.n) (g.F.Shelf.reads c.reading.shelf) (g.F.Shelf.reads c.read.new.self) c.in-Ok-read.ensures.counted in
      omega (arith, more, c.in-Ok-extend_from_slice.ensures.len, length-take c.in-Ok-read.n c.read.new.buf, c.in-Ok-read.ensures.within);
  within = search rules;
  sofar = λ files h.
      subst (λ xs. ReadSoFar files c.args.name.now xs (g.F.Shelf.rest c.read.new.self)) (sym c.in-Ok-extend_from_slice.ensures.items)
      (more_read files c.args.name.now c.reading.bytes.items c.reading.buf c.read.new.buf (take c.in-Ok-read.n c.read.new.buf) c.in-Ok-read.n
      (g.F.Shelf.rest c.reading.shelf) (g.F.Shelf.rest c.read.new.self) (c.reading.invariant.sofar files h) c.in-Ok-read.ensures.moved refl);
}
