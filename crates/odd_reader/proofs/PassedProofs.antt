-- Comments and processing instructions that are read at once: characters up to a mark between two marks.
use Rattle.std.proofs.Common.{◌≡◌, ◌≢◌, ℕ, ◌<◌, ◌≤◌, true, ◌&&◌, ◌==◌, not, List, [], ◌∷◌, ◌++◌, length, IsTrue, IsUtf8, refl, sym, ap, ◌∙◌, append_assoc, codes, arith}
use Rattle.std.proofs.lemmas.Bool.{and_parts, both_ways, eq-eqb, not-true}
use Rattle.std.proofs.lemmas.Bool.Decides.{nat_tests}
use Rattle.std.proofs.lemmas.List.Folds.{list_all-append}
use Rattle.std.proofs.lemmas.Str.{encodes-chars}
use Rattle.std.specs.List.{list_all}
use Rattle.std.specs.Str.{chars, encode_utf8_all}
use Rattle.odd_tokens.proofs.Ascii.{ascii_codes}
use Rattle.odd_tokens.proofs.Characters.{all_weaker}
use Rattle.odd_tokens.specs.Characters.{is_char, is_ncname}
use Rattle.odd_tokens.specs.Tokens.{comment, instruction, is_set_off, is_xml, token_written}
use Rattle.odd_tokens.specs.Whole.{IsLexed}
use Rattle.odd_reader.specs.Tagging.{IsCommentFirst, IsInstructionFirst, IsPlainName, IsUntil, is_byte_but, is_char_but}
use Rattle.odd_reader.proofs.PlainBytes.{chars_pass}
use Rattle.odd_reader.proofs.TaggingProofs.{joined, marked, shorter_written}

-- characters up to a mark

high_but : (mark : ℕ) → mark < 128 → (c : ℕ) → 128 ≤ c → is_char c ≡ true → is_char_but mark c ≡ true
high_but mark m c l h = grind (arith, nat_tests)

pub until_first : (mark : ℕ) (text front rest : List ℕ) → mark < 128 → IsUtf8 front → list_all (is_byte_but mark) front ≡ true → text ≡ front ++ rest → IsUntil mark text front rest
until_first mark text front rest m u h e = record { all_but = chars_pass (is_char_but mark) (high_but mark m) front u h; written = encodes-chars front u; parts = e }

chars_but : (mark : ℕ) (cs : List ℕ) → list_all (is_char_but mark) cs ≡ true → list_all is_char cs ≡ true
chars_but mark cs h = all_weaker (is_char_but mark) is_char (λ c k. (and_parts (is_char c) _ k).0) cs h

no_mark : (mark : ℕ) (front rest cs : List ℕ) → list_all (is_char_but mark) cs ≡ true → cs ≢ front ++ mark ∷ rest
no_mark mark front rest cs h e =
    let all : (list_all (is_char_but mark) front && list_all (is_char_but mark) (mark ∷ rest)) ≡ true =
    sym (list_all-append (is_char_but mark) front (mark ∷ rest)) ∙ ap (list_all (is_char_but mark)) (sym e) ∙ h in
    let k : not (mark == mark) ≡ true = (and_parts (is_char mark) _ (and_parts (is_char_but mark mark) _ (and_parts (list_all (is_char_but mark) front) _ all).1).0).1 in
    both_ways (mark == mark) (not-true (mark == mark) k) (eq-eqb mark mark refl)

-- comments

pub comment_lexed : (cs : List ℕ) → list_all (is_char_but 0x2D) cs ≡ true → IsLexed (comment cs)
comment_lexed cs h = (
  chars_but 0x2D cs h,
  λ before after e. no_mark 0x2D before (0x2D ∷ after) cs h (e ∙ append_assoc before (codes "--") after),
  λ front e. no_mark 0x2D front [] cs h e,
)

pub comment_first : (text begun inside ended rest : List ℕ) → IsUntil 0x2D begun inside ended → text ≡ codes "<!--" ++ begun → ended ≡ codes "-->" ++ rest → IsCommentFirst text rest
comment_first text begun inside ended rest u e g =
    let cs = chars inside in
    let all : text ≡ encode_utf8_all (token_written (comment cs)) ++ rest =
    marked (codes "<!--") cs (codes "-->") text begun inside ended rest (ascii_codes (codes "<!--") refl) (ascii_codes (codes "-->") refl) u.written e u.parts g in
    let some : 0 < length (token_written (comment cs)) = omega arith in
    record { inside = cs; all_but = u.all_but; parts = all; shorter = shorter_written text (token_written (comment cs)) rest some all }

-- processing instructions

pub instruction_lexed : (target cs : List ℕ) → IsTrue (is_ncname target) → IsTrue (not (is_xml target)) → IsTrue (is_set_off cs) → list_all (is_char_but 0x3F) cs ≡ true
    → IsLexed (instruction target cs)
instruction_lexed target cs n o s h =
    (n, o, s, chars_but 0x3F cs h, λ before after e. no_mark 0x3F before (0x3E ∷ after) cs h (e ∙ append_assoc before (codes "?>") after))

pub instruction_first : (text begun target named inside ended rest : List ℕ) → IsPlainName target → IsTrue (not (is_xml target)) → IsTrue (is_set_off (chars inside)) → IsUntil 0x3F named inside ended
    → text ≡ codes "<?" ++ begun → begun ≡ target ++ named → ended ≡ codes "?>" ++ rest → IsInstructionFirst text rest
instruction_first text begun target named inside ended rest n o s u e f g =
    let cs = chars inside in
    let opened : encode_utf8_all (codes "<?" ++ target) ≡ codes "<?" ++ target = joined (codes "<?") target (codes "<?") target (ascii_codes (codes "<?") refl) n.bytes in
    let begins : text ≡ (codes "<?" ++ target) ++ named = e ∙ ap (λ xs. codes "<?" ++ xs) f in
    let all : text ≡ encode_utf8_all (token_written (instruction target cs)) ++ rest =
    marked (codes "<?" ++ target) cs (codes "?>") text named inside ended rest opened (ascii_codes (codes "?>") refl) u.written begins u.parts g in
    let some : 0 < length (token_written (instruction target cs)) = omega arith in
    record {
      target = target;
      inside = cs;
      named = n.named;
      other = o;
      set_off = s;
      all_but = u.all_but;
      parts = all;
      shorter = shorter_written text (token_written (instruction target cs)) rest some all;
    }
