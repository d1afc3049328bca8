use Rattle.std.proofs.Common.{rules, ◌≡◌, ◌<◌, length, Some, None, refl, subst, inl, inr}
use Rattle.std.specs.FinMap as finite
use Rattle.odd_text.specs.Text.{text_cmp}
use Rattle.odd_base.specs.Memory.{bytes_at, pairs_of, files_of}
use Rattle.odd_base.proofs.FilesRead.{opened_file, no_file}
use Rattle.odd_base.proofs.mem_shelf.MemShelfShelf.begin.Goals as goal

pub returns-in-Some-clause-opened : goal.returns-in-Some-clause-opened
returns-in-Some-clause-opened c = λ files is.
    let fs = c.args.self.now.files in
    let k = c.args.name.now in
    let found = subst (λ xs. bytes_at xs (Some c.in-Some.number) ≡ finite.find text_cmp k (pairs_of xs)) c.as_slice-2.ensures c.in-Some.ensures.bytes in
    let within = subst (λ xs. c.in-Some.number < length xs) c.as_slice-2.ensures c.in-Some.ensures.within in
    opened_file fs k c.in-Some.number files found within is

pub returns-in-None-clause-steady_fault : goal.returns-in-None-clause-steady_fault
returns-in-None-clause-steady_fault c = λ files is steady.
    let k = c.args.name.now in
    let none = subst (λ xs. bytes_at xs None ≡ finite.find text_cmp k (pairs_of xs)) c.as_slice-2.ensures c.in-None.ensures.bytes in
    no_file c.args.self.now.files k files none is

pub returns-then-contains-clause-fails_only : goal.returns-then-contains-clause-fails_only
returns-then-contains-clause-fails_only c = inl (search rules)

pub returns-in-None-clause-fails_only : goal.returns-in-None-clause-fails_only
returns-in-None-clause-fails_only c =
    let fs = c.args.self.now.files in
    let k = c.args.name.now in
    inr (no_file fs k (files_of fs) (subst (λ xs. bytes_at xs None ≡ finite.find text_cmp k (pairs_of xs)) c.as_slice-2.ensures c.in-None.ensures.bytes) refl)
