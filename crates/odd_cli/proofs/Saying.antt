-- Texts that are written one after the other.
use Rattle.std.proofs.Common.{◌≡◌, ◌≤◌, ◌+◌, ℕ, Bool, true, false, List, ◌++◌, length, take, Option, Some, Result, Ok, Err, ap, sym, subst, ◌∙◌, arith, refl, append_assoc, length-append, inl, inr}
use Rattle.std.proofs.lemmas.List.{take-append-le}
use Rattle.std.proofs.Math.Seq.{take-append-add}
use Rattle.odd_text.specs.Count.{HasRisen}
use Rattle.std.specs.Prelude.{OnOk, OnErr, IsErr, is_ok}
use Rattle.odd_base.specs.Sink.{IsPartWritten}
use Rattle.odd_cli.specs.Note.{Says}

module _ {S : Type 0} (written : S → Option (List ℕ)) (faults : S → ℕ) where
  -- a text that was not written whole is no more so with another behind it
  pub says_stop : (a b : S) (t u : List ℕ) → Says written faults a b t false → Says written faults a b (t ++ u) false
  says_stop a b t u s = record {
    whole = λ before e wrong. absurd (let no : false ≡ true = wrong in cc);
    part = λ before e ok.
        let p = s.part before e ok in
        (p.0, omega (arith, length-append t u, p.1), p.2 ∙ ap (λ x. Some (before ++ x)) (sym (take-append-le p.0 t u p.1)));
    rose = s.rose;
    never_falls = s.never_falls;
  }

  -- one text, and then another
  pub says_then : (a b c : S) (t u : List ℕ) (ok : Bool) → Says written faults a b t true → Says written faults b c u ok → Says written faults a c (t ++ u) ok
  says_then a b c t u ok s n = record {
    whole = λ before e is. n.whole (before ++ t) (s.whole before e refl) is ∙ ap Some (append_assoc before t u);
    part = λ before e is.
        let p = n.part (before ++ t) (s.whole before e refl) is in
        (length t + p.0, omega (arith, length-append t u, p.1), p.2 ∙ ap Some (append_assoc before t (take p.0 u)) ∙ ap (λ x. Some (before ++ x)) (sym (take-append-add t u p.0)));
    rose = λ is. risen (n.rose is);
    never_falls = omega (arith, s.never_falls, n.never_falls);
  }
    where
      risen : HasRisen (faults b) (faults c) → HasRisen (faults a) (faults c)
      risen (inl more) = inl (omega (arith, more, s.never_falls))
      risen (inr last) = inr last

  -- what writing the whole of some bytes did
  pub says_written : {E : Type 0} (a b : S) (bytes text : List ℕ) (r : Result (Unit {0}) E) → bytes ≡ text
      → ((before : List ℕ) → written a ≡ Some before → OnOk r (written b ≡ Some (before ++ bytes)))
      → ((before : List ℕ) → written a ≡ Some before → OnErr r (IsPartWritten before bytes (written b)))
      → OnErr r (HasRisen (faults a) (faults b)) → faults a ≤ faults b → Says written faults a b text (is_ok r)
  says_written a b bytes text (Ok x) is whole part rose falls = record {
    whole = λ before e ok. whole before e ∙ ap (λ x. Some (before ++ x)) is;
    part = λ before e wrong. absurd (let no : true ≡ false = wrong in cc);
    rose = λ wrong. absurd (let no : true ≡ false = wrong in cc);
    never_falls = falls;
  }
  says_written a b bytes text (Err x) is whole part rose falls = record {
    whole = λ before e wrong. absurd (let no : false ≡ true = wrong in cc);
    part = λ before e ok.
        let p = part before e in
        let shorter : p.0 ≤ length bytes = omega (arith, p.1) in
        (p.0, subst (λ xs. p.0 ≤ length xs) is shorter, p.2 ∙ ap (λ xs. Some (before ++ take p.0 xs)) is);
    rose = λ ok. rose;
    never_falls = falls;
  }

  -- what came before an error that is handed on
  pub says_err : {E : Type 0} (a b : S) (t : List ℕ) (r : Result (Unit {0}) E) → IsErr r → Says written faults a b t false → Says written faults a b t (is_ok r)
  says_err a b t (Ok x) wrong s = absurd (let no : false ≡ true = wrong in cc)
  says_err a b t (Err x) h s = s

  pub says_same : (a b : S) (t u : List ℕ) (ok : Bool) → t ≡ u → Says written faults a b t ok → Says written faults a b u ok
  says_same a b t u ok e s = subst (λ x. Says written faults a b x ok) e s
