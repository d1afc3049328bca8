use Rattle.std.proofs.Common.{rules, ◌≡◌, ◌-◌, ◌++◌, List, ℕ, length-drop, Some, take, drop, length, sym, ap, ◌∙◌, append_assoc, take-add, arith}
use Rattle.std.proofs.lemmas.List.{take_all}
use Rattle.odd_base.proofs.writing.write_whole.Goals as goal

-- `&bytes[done..]` is what is left
left_of : (bytes : List ℕ) (done : ℕ) → take (length bytes - done) (drop done bytes) ≡ drop done bytes
left_of bytes done = take_all (length bytes - done) (drop done bytes) (simp length-drop (omega arith))

pub writing-preserved : goal.writing-preserved
writing-preserved g c = record {
  within = search rules;
  never_falls = search rules;
  same_steady = search rules;
  sofar = λ before e.
      let done = c.writing.done in
      let bytes = c.args.bytes.now in
      c.in-Ok.ensures.appended (before ++ take done bytes) (c.writing.invariant.sofar before e)
      ∙ ap (λ x. Some ((before ++ take done bytes) ++ take c.in-Ok.n x)) (left_of bytes done)
      ∙ ap (λ x. Some x) (append_assoc before (take done bytes) (take c.in-Ok.n (drop done bytes)) ∙ ap (λ x. before ++ x) (sym (take-add done c.in-Ok.n bytes)));
  room_taken = λ s.
      let left = c.writing.invariant.room_taken s in
      let now = c.in-Ok.ensures.room_taken (c.writing.invariant.same_steady ∙ s) in
      omega (arith, left, now);
  room = λ s h.
      let left = c.writing.invariant.room s h in
      let now = c.in-Ok.ensures.room_taken (c.writing.invariant.same_steady ∙ s) in
      omega (arith, left, now, c.in-Ok.ensures.within);
}
