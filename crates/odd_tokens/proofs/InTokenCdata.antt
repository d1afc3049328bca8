-- What was read of a CDATA section.
use Rattle.std.proofs.Common.{◌≡◌, ◌≢◌, ℕ, zero, suc, ◌≤◌, Bool, true, false, nat_lt, ◌==◌, List, [], ◌∷◌, ◌++◌, take, sym, refl, ap, ◌∙◌, arith, append_assoc, append-nil, codes}
use Rattle.std.proofs.lemmas.Bool.{eqb-false}
use Rattle.std.proofs.lemmas.Str.{encodes-append}
use Rattle.std.proofs.Math.Utf8.{encode}
use Rattle.std.specs.Str.{encode_utf8_all}
use Rattle.odd_tokens.specs.Characters.{is_char}
use Rattle.odd_tokens.specs.Lexing.{brackets_before}
use Rattle.odd_tokens.specs.Tokens.{cdata}
use Rattle.odd_tokens.specs.declared.token.Token.TheVariants as token
use Rattle.odd_tokens.proofs.LexedSteps.{IsRead}
use Rattle.odd_tokens.proofs.InTokenTexts.{NotAtEnd, Unended, other_last, nothing_last, none_yet, goes_on, lines_seen, one_read, ends_in_return, seen_push, return_push, seen_lines, piece_kept, piece_encoded}
use Rattle.std.proofs.lemmas.List.{same_from_push}

-- the opening mark

abbrev pub opened : ℕ → List ℕ
opened letters = codes "<![" ++ take letters (codes "CDATA[")

-- what holds of each number of letters
pub at_letters : (P : ℕ → Type 0) → P 0 → P 1 → P 2 → P 3 → P 4 → P 5 → (n : ℕ) → n ≤ 5 → P n
at_letters P a b c d e f zero h = a
at_letters P a b c d e f (suc zero) h = b
at_letters P a b c d e f (suc (suc zero)) h = c
at_letters P a b c d e f (suc (suc (suc zero))) h = d
at_letters P a b c d e f (suc (suc (suc (suc zero)))) h = e
at_letters P a b c d e f (suc (suc (suc (suc (suc zero))))) h = f
at_letters P a b c d e f (suc (suc (suc (suc (suc (suc n)))))) h = absurd (omega arith)

-- the text, before the brackets that stand last; where more than two do, the others are in it
pub record InCdata (brackets : ℕ) (after_return : Bool) (read kept : List ℕ) : Type 0 where
  pub text : List ℕ
  pub is_read : read ≡ codes "<![CDATA[" ++ text ++ brackets_before brackets
  pub is_kept : kept ≡ encode_utf8_all (lines_seen false text)
  pub unended : Unended (codes "]]") 0x3E text
  pub few : nat_lt brackets 2 ≡ true → NotAtEnd (codes "]") text
  pub returned : after_return ≡ ends_in_return false (text ++ brackets_before brackets)

pub cdata_begins : (read : List ℕ) → read ≡ codes "<![CDATA[" → InCdata 0 false read []
cdata_begins read e = record {
  text = [];
  is_read = e;
  is_kept = refl;
  unended = none_yet 0x5D (codes "]") 0x3E;
  few = λ _. nothing_last 0x5D;
  returned = refl;
}

brackets_read : (before after : ℕ) (read text : List ℕ) → brackets_before after ≡ brackets_before before ++ codes "]" → read ≡ codes "<![CDATA[" ++ text ++ brackets_before before
    → read ++ codes "]" ≡ codes "<![CDATA[" ++ text ++ brackets_before after
brackets_read before after read text e h =
    ap (λ x. x ++ codes "]") h ∙ append_assoc (codes "<![CDATA[" ++ text) (brackets_before before) (codes "]") ∙ ap (λ x. codes "<![CDATA[" ++ text ++ x) (sym e)

no_return : (text : List ℕ) → ends_in_return false (text ++ codes "]]") ≡ false
no_return text = ap (ends_in_return false) (sym (append_assoc text (codes "]") (codes "]"))) ∙ return_push false (text ++ codes "]") 0x5D

-- a bracket, a second and a third
pub cdata_bracket : (read kept : List ℕ) (r : Bool) → InCdata 0 r read kept → InCdata 1 false (read ++ codes "]") kept
cdata_bracket read kept r h = record {
  text = h.text;
  is_read = brackets_read 0 1 read h.text refl h.is_read;
  is_kept = h.is_kept;
  unended = h.unended;
  few = λ _. h.few refl;
  returned = sym (return_push false h.text 0x5D);
}

pub cdata_brackets : (read kept : List ℕ) (r : Bool) → InCdata 1 r read kept → InCdata 2 false (read ++ codes "]") kept
cdata_brackets read kept r h = record {
  text = h.text;
  is_read = brackets_read 1 2 read h.text refl h.is_read;
  is_kept = h.is_kept;
  unended = h.unended;
  few = λ e. cc;
  returned = sym (no_return h.text);
}

-- a bracket is a character of the text
kept_bracket : (text kept : List ℕ) → kept ≡ encode_utf8_all (lines_seen false text) → kept ++ codes "]" ≡ encode_utf8_all (lines_seen false (text ++ codes "]"))
unfolding encode
kept_bracket text kept e =
    ap (λ x. x ++ codes "]") e ∙ sym (encodes-append (lines_seen false text) (codes "]")) ∙ ap encode_utf8_all (sym (seen_push false text 0x5D))

one_bracket : (text : List ℕ) → Unended (codes "]]") 0x3E text → Unended (codes "]]") 0x3E (text ++ codes "]")
unfolding is_char
one_bracket text h = goes_on (codes "]]") 0x3E text 0x5D h refl (λ e. cc)

pub cdata_more_brackets : (read kept : List ℕ) (r : Bool) → InCdata 2 r read kept → InCdata 2 r (read ++ codes "]") (kept ++ codes "]")
cdata_more_brackets read kept r h = record {
  text = h.text ++ codes "]";
  is_read = ap (λ x. x ++ codes "]") h.is_read ∙ simp append_assoc;
  is_kept = kept_bracket h.text kept h.is_kept;
  unended = one_bracket h.text h.unended;
  few = λ e. cc;
  returned = h.returned ∙ no_return h.text ∙ sym (no_return (h.text ++ codes "]"));
}

-- another character

another : (text kept read : List ℕ) (r : Bool) (c : ℕ) → read ≡ codes "<![CDATA[" ++ text → kept ≡ encode_utf8_all (lines_seen false text) → r ≡ ends_in_return false text
    → Unended (codes "]]") 0x3E text → (c ≡ 0x3E → NotAtEnd (codes "]]") text) → is_char c ≡ true → (c == 0x5D) ≡ false
    → InCdata 0 (c == 0xD) (read ++ c ∷ []) (kept ++ piece_kept r c)
another text kept read r c is_read is_kept returned unended apart h other = record {
  text = text ++ c ∷ [];
  is_read = ap (λ x. x ++ c ∷ []) is_read ∙ simp append-nil;
  is_kept = kept_more;
  unended = goes_on (codes "]]") 0x3E text c unended h apart;
  few = λ _. other_last text c 0x5D (eqb-false c 0x5D other);
  returned = sym (ap (ends_in_return false) (append-nil (text ++ c ∷ [])) ∙ return_push false text c);
}
  where
    kept_more : kept ++ piece_kept r c ≡ encode_utf8_all (lines_seen false (text ++ c ∷ []))
    kept_more =
        let same : piece_kept r c ≡ encode_utf8_all (one_read r c) = piece_encoded r c in
        let later : encode_utf8_all (one_read r c) ≡ encode_utf8_all (one_read (ends_in_return false text) c) = ap (λ b. encode_utf8_all (one_read b c)) returned in
        ap (λ x. x ++ piece_kept r c) is_kept ∙ ap (λ x. encode_utf8_all (lines_seen false text) ++ x) (same ∙ later)
        ∙ sym (encodes-append (lines_seen false text) (one_read (ends_in_return false text) c)) ∙ ap encode_utf8_all (sym (seen_push false text c))

not_two : (text : List ℕ) → NotAtEnd (codes "]") text → NotAtEnd (codes "]]") text
not_two text h front e = h (front ++ codes "]") (e ∙ sym (append_assoc front (codes "]") (codes "]")))

not_two_after : (text : List ℕ) → NotAtEnd (codes "]") text → NotAtEnd (codes "]]") (text ++ codes "]")
not_two_after text h front e = h front (same_from_push text (front ++ codes "]") 0x5D 0x5D (e ∙ sym (append_assoc front (codes "]") (codes "]")))).0

pub cdata_goes_on : (read kept : List ℕ) (r : Bool) (c : ℕ) → is_char c ≡ true → (c == 0x5D) ≡ false → InCdata 0 r read kept
    → InCdata 0 (c == 0xD) (read ++ c ∷ []) ((kept ++ []) ++ piece_kept r c)
cdata_goes_on read kept r c legal other h =
    another h.text (kept ++ []) read r c (h.is_read ∙ append-nil (codes "<![CDATA[" ++ h.text)) (append-nil kept ∙ h.is_kept) (h.returned ∙ ap (ends_in_return false) (append-nil h.text))
    h.unended (λ _. not_two h.text (h.few refl)) legal other

pub cdata_goes_past_one : (read kept : List ℕ) (r : Bool) (c : ℕ) → is_char c ≡ true → (c == 0x5D) ≡ false → InCdata 1 r read kept
    → InCdata 0 (c == 0xD) (read ++ c ∷ []) ((kept ++ codes "]") ++ piece_kept r c)
cdata_goes_past_one read kept r c legal other h =
    another (h.text ++ codes "]") (kept ++ codes "]") read r c h.is_read (kept_bracket h.text kept h.is_kept) h.returned
    (one_bracket h.text h.unended) (λ _. not_two_after h.text (h.few refl)) legal other

pub cdata_goes_past_two : (read kept : List ℕ) (r : Bool) (c : ℕ) → is_char c ≡ true → (c == 0x5D) ≡ false → c ≢ 0x3E → InCdata 2 r read kept
    → InCdata 0 (c == 0xD) (read ++ c ∷ []) ((kept ++ codes "]]") ++ piece_kept r c)
cdata_goes_past_two read kept r c legal other apart h =
    let text = (h.text ++ codes "]") ++ codes "]" in
    let whole : h.text ++ codes "]]" ≡ text = sym (append_assoc h.text (codes "]") (codes "]")) in
    another text (kept ++ codes "]]") read r c (h.is_read ∙ ap (λ x. codes "<![CDATA[" ++ x) whole)
    (sym (append_assoc kept (codes "]") (codes "]")) ∙ kept_bracket (h.text ++ codes "]") (kept ++ codes "]") (kept_bracket h.text kept h.is_kept))
    (h.returned ∙ ap (ends_in_return false) whole) (one_bracket _ (one_bracket h.text h.unended))
    (λ e. absurd (apart e)) legal other

pub cdata_ends : (at : ℕ) (read kept : List ℕ) (r : Bool) → InCdata 2 r read kept → IsRead at (read ++ codes ">") (token.Cdata kept)
cdata_ends at read kept r h = record {
  token = cdata h.text;
  is_lexed = (h.unended.legal, h.unended.lacks);
  is_written = sym (ap (λ x. x ++ codes ">") h.is_read ∙ simp append_assoc);
  is_made = ap (λ x. token.Cdata x) (h.is_kept ∙ ap encode_utf8_all (seen_lines h.text).0);
}
