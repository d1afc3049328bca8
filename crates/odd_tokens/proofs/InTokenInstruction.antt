-- What was read of an instruction.
use Rattle.std.proofs.Common.{◌≡◌, ◌≢◌, ◌⊎◌, ℕ, Bool, true, false, not, ◌&&◌, ◌||◌, ◌==◌, List, [], ◌∷◌, ◌++◌, sym, refl, ap, ◌∙◌, append_assoc, codes, subst, inl, inr, ⊎_elim, encode_utf8}
use Rattle.std.proofs.lemmas.Bool.{eqb-false, eqb-true, both_ways, and_parts, and_from, or_cases, false_from_ne_true}
use Rattle.std.proofs.lemmas.Str.{encodes_same}
use Rattle.std.proofs.lemmas.List.Folds.{list_all-append}
use Rattle.std.proofs.Math.Utf8.{encode}
use Rattle.std.specs.List.{list_all}
use Rattle.std.specs.Str.{encode_utf8_all, str_eq_ignore_ascii_case}
use Rattle.std.specs.Cmp.Lexicographic.{same_text}
use Rattle.odd_tokens.specs.Characters.{is_char, is_space, is_name_start, is_name_char, is_ncname}
use Rattle.odd_tokens.specs.Lexing.{is_empty}
use Rattle.odd_text.specs.Same.{is_same}
use Rattle.odd_tokens.specs.Tokens.{LacksPart, instruction, is_xml, is_set_off}
use Rattle.odd_tokens.specs.declared.token.Token.TheVariants as token
use Rattle.odd_tokens.proofs.LexedSteps.{IsRead}
use Rattle.odd_tokens.proofs.InTokenTexts.{NotAtEnd, Unended, other_last, nothing_last, none_yet, goes_on, lacks_front}
use Rattle.odd_tokens.proofs.Characters.{ncname_more, encoded_more, some_encoded, not_empty}

-- the target

pub record InTarget (read kept : List ℕ) : Type 0 where
  pub target : List ℕ
  pub is_read : read ≡ codes "<?" ++ target
  pub is_kept : kept ≡ encode_utf8_all target
  pub named : (target ≡ []) ⊎ (is_ncname target ≡ true)

pub target_begins : (read : List ℕ) → read ≡ codes "<?" → InTarget read []
target_begins read e = record { target = []; is_read = e; is_kept = refl; named = inl refl }

none_encoded : (target : List ℕ) → is_empty (encode_utf8_all target) ≡ true → target ≡ []
none_encoded [] h = refl
none_encoded (c ∷ cs) h = absurd (both_ways _ (some_encoded c cs) h)

target_more : (read kept : List ℕ) (c : ℕ) → (h : InTarget read kept) → is_ncname (h.target ++ c ∷ []) ≡ true → InTarget (read ++ c ∷ []) (kept ++ encode_utf8 c)
target_more read kept c h k = record {
  target = h.target ++ c ∷ [];
  is_read = ap (λ x. x ++ c ∷ []) h.is_read;
  is_kept = ap (λ x. x ++ encode_utf8 c) h.is_kept ∙ sym (encoded_more h.target c);
  named = inr k;
}

pub target_first : (read kept : List ℕ) (c : ℕ) → is_empty kept ≡ true → is_name_start c ≡ true → InTarget read kept → InTarget (read ++ c ∷ []) (kept ++ encode_utf8 c)
target_first read kept c none k h =
    let e : h.target ≡ [] = none_encoded h.target (ap is_empty (sym h.is_kept) ∙ none) in
    target_more read kept c h (ap (λ x. is_ncname (x ++ c ∷ [])) e ∙ and_from (is_name_start c) true k refl)

pub is_named : (read kept : List ℕ) → is_empty kept ≡ false → (h : InTarget read kept) → is_ncname h.target ≡ true
is_named read kept some h =
    ⊎_elim (λ (e : h.target ≡ []). absurd (both_ways (is_empty kept) some (ap is_empty (h.is_kept ∙ ap encode_utf8_all e)))) (λ (e : is_ncname h.target ≡ true). e) h.named

pub target_goes_on : (read kept : List ℕ) (c : ℕ) → is_empty kept ≡ false → is_name_char c ≡ true → InTarget read kept → InTarget (read ++ c ∷ []) (kept ++ encode_utf8 c)
target_goes_on read kept c some k h = target_more read kept c h (ncname_more h.target c (is_named read kept some h) k)

-- a target that ends

letter : (P : ℕ → Type 0) (low high c : ℕ) → P low → P high → (c == low || c == high) ≡ true → P c
letter P low high c a b h = ⊎_elim (λ e. subst P (sym (eqb-true c low e)) a) (λ e. subst P (sym (eqb-true c high e)) b) (or_cases (c == low) (c == high) h)

-- the letters in any case are the same but for their case
xml_same : (cs : List ℕ) → is_xml cs ≡ true → str_eq_ignore_ascii_case (encode_utf8_all cs) (codes "xml") ≡ true
unfolding encode
xml_same [] h = cc
xml_same (x ∷ []) h = cc
xml_same (x ∷ m ∷ []) h = cc
xml_same (x ∷ m ∷ l ∷ []) h =
    let f = and_parts ((x == 0x78 || x == 0x58) && (m == 0x6D || m == 0x4D)) (l == 0x6C || l == 0x4C) h in
    let g = and_parts (x == 0x78 || x == 0x58) (m == 0x6D || m == 0x4D) f.0 in
    letter (λ x. S (x ∷ m ∷ l ∷ [])) 0x78 0x58 x
    (letter (λ m. S (0x78 ∷ m ∷ l ∷ [])) 0x6D 0x4D m
    (letter (λ l. S (0x78 ∷ 0x6D ∷ l ∷ [])) 0x6C 0x4C l refl refl f.1)
    (letter (λ l. S (0x78 ∷ 0x4D ∷ l ∷ [])) 0x6C 0x4C l refl refl f.1)
    g.1)
    (letter (λ m. S (0x58 ∷ m ∷ l ∷ [])) 0x6D 0x4D m
    (letter (λ l. S (0x58 ∷ 0x6D ∷ l ∷ [])) 0x6C 0x4C l refl refl f.1)
    (letter (λ l. S (0x58 ∷ 0x4D ∷ l ∷ [])) 0x6C 0x4C l refl refl f.1)
    g.1)
    g.0
  where
    S : List ℕ → Type 0
    S cs = str_eq_ignore_ascii_case (encode_utf8_all cs) (codes "xml") ≡ true
xml_same (x ∷ m ∷ l ∷ c ∷ cs) h = cc

pub no_xml : (cs : List ℕ) → str_eq_ignore_ascii_case (encode_utf8_all cs) (codes "xml") ≡ false → is_xml cs ≡ false
no_xml cs h = false_from_ne_true (is_xml cs) (λ e. both_ways _ h (xml_same cs e))

pub declares_xml : (read kept : List ℕ) → is_same kept (codes "xml") ≡ true → InTarget read kept → read ≡ codes "<?xml"
unfolding encode
declares_xml read kept e h =
    h.is_read ∙ ap (λ x. codes "<?" ++ x) (encodes_same h.target (codes "xml") (sym h.is_kept ∙ same_text kept (codes "xml") (sym e)))

pub record IsTarget (target : List ℕ) : Type 0 where
  pub named : is_ncname target ≡ true
  pub other : is_xml target ≡ false

pub is_target : (read kept : List ℕ) → is_empty kept ≡ false → str_eq_ignore_ascii_case kept (codes "xml") ≡ false → (h : InTarget read kept) → IsTarget h.target
is_target read kept some other h = record {
  named = is_named read kept some h;
  other = no_xml h.target (ap (λ x. str_eq_ignore_ascii_case x (codes "xml")) (sym h.is_kept) ∙ other);
}

-- a question mark right after it

pub record AfterTarget (read : List ℕ) : Type 0 where
  pub target : List ℕ
  pub is_target : IsTarget target
  pub is_read : read ≡ codes "<?" ++ target ++ codes "?"

pub target_asked : (read kept : List ℕ) → (h : InTarget read kept) → IsTarget h.target → AfterTarget (read ++ codes "?")
target_asked read kept h t = record { target = h.target; is_target = t; is_read = ap (λ x. x ++ codes "?") h.is_read }

pub target_ended : (at : ℕ) (read : List ℕ) → AfterTarget read → IsRead at (read ++ codes ">") token.Passed
target_ended at read h = record {
  token = instruction h.target [];
  is_lexed = (h.is_target.named, ap not h.is_target.other, refl, refl, (none_yet 0x3F [] 0x3E).lacks);
  is_written = sym (ap (λ x. x ++ codes ">") h.is_read ∙ simp append_assoc);
  is_made = refl;
}

-- the rest of it

pub record InInstruction (asked : Bool) (read : List ℕ) : Type 0 where
  pub target : List ℕ
  pub is_target : IsTarget target
  pub rest : List ℕ
  pub is_read : read ≡ codes "<?" ++ target ++ rest
  pub set_off : is_set_off rest ≡ true
  pub some : rest ≢ []
  pub unended : Unended (codes "?") 0x3E rest
  pub asks : asked ≡ true → (front : List ℕ) × (rest ≡ front ++ codes "?")
  pub tells : asked ≡ false → NotAtEnd (codes "?") rest

pub target_spaced : (read kept : List ℕ) (c : ℕ) → is_char c ≡ true → is_space c ≡ true → (c == 0x3F) ≡ false → (h : InTarget read kept) → IsTarget h.target
    → InInstruction false (read ++ c ∷ [])
target_spaced read kept c legal space other h t = record {
  target = h.target;
  is_target = t;
  rest = c ∷ [];
  is_read = ap (λ x. x ++ c ∷ []) h.is_read;
  set_off = space;
  some = λ e. cc;
  unended = goes_on (codes "?") 0x3E [] c (none_yet 0x3F [] 0x3E) legal (λ _. nothing_last 0x3F);
  asks = λ e. cc;
  tells = λ _. other_last [] c 0x3F (eqb-false c 0x3F other);
}

set_off_more : (rest : List ℕ) (c : ℕ) → rest ≢ [] → is_set_off rest ≡ true → is_set_off (rest ++ c ∷ []) ≡ true
set_off_more [] c some h = absurd (some refl)
set_off_more (x ∷ xs) c some h = h

set_off_front : (front more : List ℕ) → is_set_off (front ++ more) ≡ true → is_set_off front ≡ true
set_off_front [] more h = refl
set_off_front (x ∷ xs) more h = h

pub instruction_goes_on : (asked : Bool) (read : List ℕ) (c : ℕ) → is_char c ≡ true → (asked && c == 0x3E) ≡ false → InInstruction asked read
    → InInstruction (c == 0x3F) (read ++ c ∷ [])
instruction_goes_on asked read c legal other h = record {
  target = h.target;
  is_target = h.is_target;
  rest = h.rest ++ c ∷ [];
  is_read = ap (λ x. x ++ c ∷ []) h.is_read ∙ simp append_assoc;
  set_off = set_off_more h.rest c h.some h.set_off;
  some = not_empty h.rest c;
  unended = goes_on (codes "?") 0x3E h.rest c h.unended legal (λ e. h.tells (told asked other e));
  asks = λ e. (h.rest, ap (λ x. h.rest ++ x ∷ []) (eqb-true c 0x3F e));
  tells = λ e. other_last h.rest c 0x3F (eqb-false c 0x3F e);
}
  where
    told : (b : Bool) → (b && c == 0x3E) ≡ false → c ≡ 0x3E → b ≡ false
    told false k e = refl
    told true k e = absurd (eqb-false c 0x3E k e)

pub instruction_ends : (at : ℕ) (read : List ℕ) → InInstruction true read → IsRead at (read ++ codes ">") token.Passed
instruction_ends at read h =
    let f : (front : List ℕ) × (h.rest ≡ front ++ codes "?") = h.asks refl in
    let legal : (list_all is_char f.0 && list_all is_char (codes "?")) ≡ true = sym (list_all-append is_char f.0 (codes "?")) ∙ ap (list_all is_char) (sym f.1) ∙ h.unended.legal in
    record {
      token = instruction h.target f.0;
      is_lexed = (
        h.is_target.named,
        ap not h.is_target.other,
        set_off_front f.0 (codes "?") (ap is_set_off (sym f.1) ∙ h.set_off),
        (and_parts _ _ legal).0,
        lacks_front (codes "?>") f.0 (codes "?") (subst (LacksPart (codes "?>")) f.1 h.unended.lacks),
      );
      is_written = sym (ap (λ x. x ++ codes ">") (h.is_read ∙ ap (λ x. codes "<?" ++ h.target ++ x) f.1) ∙ simp append_assoc);
      is_made = refl;
    }
