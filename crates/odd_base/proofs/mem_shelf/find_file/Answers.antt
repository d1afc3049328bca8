use Rattle.std.proofs.Common.{◌≡◌, ap, sym, ◌∙◌, get_or}
use Rattle.odd_base.proofs.FilesRead.{file_hit, file_miss}
use Rattle.odd_base.proofs.mem_shelf.find_file.Goals as goal

pub returns-then-eq-clause-bytes : goal.returns-then-eq-clause-bytes
returns-then-eq-clause-bytes c =
    let d = c.index-files-number.result in
    let k : (get_or c.args.files.now c.loop-number.number d).name ≡ c.args.name.now = ap (λ f. f.name) (sym c.index-files-number.is) ∙ (c.eq.ensures.same).0 c.if-eq.true in
    file_hit c.args.name.now c.args.files.now c.loop-number.number d c.loop-number-test.true k ∙ c.loop-number.invariant

pub loop-number-preserved : goal.loop-number-preserved
loop-number-preserved c =
    let d = c.index-files-number.result in
    let other : (get_or c.args.files.now c.loop-number.number d).name ≡ c.args.name.now → ⊥ = λ e. let yes = (c.eq.ensures.same).1 (ap (λ f. f.name) c.index-files-number.is ∙ e) in cc in
    sym (file_miss c.args.name.now c.args.files.now c.loop-number.number d c.loop-number-test.true other) ∙ c.loop-number.invariant
