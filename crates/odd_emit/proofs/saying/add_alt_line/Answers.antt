use Rattle.std.proofs.Common.{◌≡◌, ℕ, true, false, List, [], codes, length, nat_eq, sym, ap, ◌∙◌}
use Rattle.std.proofs.lemmas.Result.{on_ok_weaker}
use Rattle.odd_emit.proofs.Put.{line_put}
use Rattle.odd_emit.proofs.saying.add_alt_line.Goals as goal

not_empty : (xs : List ℕ) → nat_eq (length xs) 0 ≡ false → xs ≡ [] → ⊥
not_empty xs is e = let no : true ≡ false = sym (ap (λ ys. nat_eq (length ys) 0) e) ∙ is in cc

pub returns : goal.returns
returns c =
    on_ok_weaker c.add_end_tag.result
    (line_put c.args.out.now (codes "altIdent") c.args.name.now (not_empty c.args.name.now (sym c.is_empty.ensures ∙ c.if-is_empty.false)) c.begin_tag.new.out c.push_str.new.self
    c.add_escaped_text.new.out c.add_end_tag.new.out c.in_ok-begin_tag.ensures.ok c.in_ok-push_str.ensures.ok c.in_ok-add_escaped_text.ensures.ok)
    c.add_end_tag.ensures.ok
