-- The parts of a language, which are cut at each `-`.
use Rattle.std.proofs.Common.{◌≡◌, ℕ, ◌==◌, ◌&&◌, ◌||◌, ◌++◌, ◌≢◌, ◌↔◌, ◌⊎◌, ◌<◌, Bool, true, false, List, [], ◌∷◌, refl, arith, inl, inr, ⊎_elim, sym, ap, ◌∙◌, append-nil, length, nat_le, subst, IsTrue, IsUtf8}
use Rattle.std.proofs.lemmas.Bool.{and_from, and_parts, le-leb, leb-true, or_left}
use Rattle.std.proofs.lemmas.Bool.Decides.{nat_tests}
use Rattle.std.proofs.lemmas.List.Elements.{All-nil, All-cons}
use Rattle.std.proofs.lemmas.List.Folds.{list_all-append}
use Rattle.std.proofs.lemmas.List.Splits.{join_with_byte-slice_split, length-slice_split, slice_split_at, slice_split_none}
use Rattle.std.proofs.lemmas.Str.{chars_from_encodes, encodes-chars}
use Rattle.std.specs.Char.{is_ascii_alphabetic, is_ascii_alphanumeric}
use Rattle.std.specs.Cmp.{both_ways as same_tests}
use Rattle.std.specs.List.{list_all, join_with_byte, slice_split}
use Rattle.std.specs.Prelude.{All}
use Rattle.std.specs.Str.{chars}
use Rattle.odd_tokens.proofs.Ascii.{ascii_text}
use Rattle.odd_tokens.proofs.Characters.{Stops, all_weaker, same_front}
use Rattle.rng_values.specs.Lexical.{AreFew, AreSubtags, IsLanguage, more, none}
use Rattle.rng_values.specs.Tags.{is_tag}
use Rattle.rng_values.proofs.Splitting.{IsCutAt, all_joined, is_other}

-- a text whose bytes or characters are all ASCII of a kind has the same of both

bytes_kept : (p : ℕ → Bool) → ((c : ℕ) → p c ≡ true → c < 128) → (text : List ℕ) → IsUtf8 text → IsTrue (list_all p text) → chars text ≡ text
bytes_kept p low text u h = sym (chars_from_encodes text text u (ascii_text p low text h))

pub chars_kept : (p : ℕ → Bool) → ((c : ℕ) → p c ≡ true → c < 128) → (text : List ℕ) → IsUtf8 text → IsTrue (list_all p (chars text)) → chars text ≡ text
chars_kept p low text u h = sym (ascii_text p low (chars text) h) ∙ encodes-chars text u

bytes_tested : (p : ℕ → Bool) → ((c : ℕ) → p c ≡ true → c < 128) → (text : List ℕ) → IsUtf8 text → list_all p (chars text) ≡ list_all p text
bytes_tested p low text u =
    same_tests (list_all p (chars text)) (list_all p text) (λ h. subst (λ cs. IsTrue (list_all p cs)) (chars_kept p low text u h) h) (λ h. subst (λ cs. IsTrue (list_all p cs)) (sym (bytes_kept p low text u h)) h)

pub letter_low : (c : ℕ) → is_ascii_alphabetic c ≡ true → c < 128
letter_low c h = grind (arith, nat_tests)

pub alphanumeric_low : (c : ℕ) → is_ascii_alphanumeric c ≡ true → c < 128
alphanumeric_low c h = grind (arith, nat_tests)

-- the test of a part

few_tagged : (p : ℕ → Bool) (cs : List ℕ) → AreFew p cs → IsTrue (is_tag p cs)
few_tagged p cs f = and_from (nat_le 1 (length cs) && nat_le (length cs) 8) (list_all p cs) (and_from (nat_le 1 (length cs)) (nat_le (length cs) 8) (le-leb 1 (length cs) f.some) (le-leb (length cs) 8 f.few)) f.all

tag_few : (p : ℕ → Bool) (cs : List ℕ) → IsTrue (is_tag p cs) → AreFew p cs
tag_few p cs h =
    let parts = and_parts (nat_le 1 (length cs) && nat_le (length cs) 8) (list_all p cs) h in
    let bounds = and_parts (nat_le 1 (length cs)) (nat_le (length cs) 8) parts.0 in
    record { some = leb-true 1 (length cs) bounds.0; few = leb-true (length cs) 8 bounds.1; all = parts.1 }

-- the two tests of a part, its length and its characters
pub tag_tested : (p : ℕ → Bool) → ((c : ℕ) → p c ≡ true → c < 128) → (tag : List ℕ) → IsUtf8 tag → (fits r : Bool) → fits ≡ (nat_le 1 (length tag) && nat_le (length tag) 8) → fits ≡ true
    → r ≡ list_all p (chars tag) → r ≡ is_tag p tag
tag_tested p low tag u fits r e h tested = tested ∙ bytes_tested p low tag u ∙ sym (ap (λ b. b && list_all p tag) (sym e ∙ h))

-- the characters of parts and of the `-` before each

abbrev pub is_language_char : ℕ → Bool
is_language_char c = is_ascii_alphanumeric c || c == 0x2D

language_char_low : (c : ℕ) → is_language_char c ≡ true → c < 128
language_char_low c h = grind (arith, nat_tests)

letter_is_language : (c : ℕ) → is_ascii_alphabetic c ≡ true → is_language_char c ≡ true
letter_is_language c h = grind (arith, nat_tests)

letter_no_dash : (c : ℕ) → is_ascii_alphabetic c ≡ true → is_other 0x2D c ≡ true
letter_no_dash c h = grind (arith, nat_tests)

alphanumeric_no_dash : (c : ℕ) → is_ascii_alphanumeric c ≡ true → (c == 0x2D) ≡ false
alphanumeric_no_dash c h = grind (arith, nat_tests)

-- letters and digits have no `-`
no_dash : (part : List ℕ) → IsTrue (list_all is_ascii_alphanumeric part) → All (λ b. (b == 0x2D) ≡ false) part
no_dash [] h = All-nil (λ b. (b == 0x2D) ≡ false)
no_dash (c ∷ cs) h =
    let parts = and_parts (is_ascii_alphanumeric c) (list_all is_ascii_alphanumeric cs) h in
    All-cons (λ b. (b == 0x2D) ≡ false) c cs (alphanumeric_no_dash c parts.0) (no_dash cs parts.1)

-- all characters of subtags are such
subtags_chars : (cs : List ℕ) → AreSubtags cs → IsTrue (list_all is_language_char cs)
subtags_chars cs none = refl
subtags_chars cs (more part rest e few later) =
    subst (λ x. IsTrue (list_all is_language_char x)) (sym e)
    (all_joined is_language_char part rest (all_weaker is_ascii_alphanumeric is_language_char (λ c. or_left (is_ascii_alphanumeric c) (c == 0x2D)) part few.all) (subtags_chars rest later))

-- and all of a language
pub language_chars : (cs : List ℕ) → IsLanguage cs → IsTrue (list_all is_language_char cs)
language_chars cs l =
    subst (λ x. IsTrue (list_all is_language_char x)) (sym l.parts)
    (all_joined is_language_char l.first l.rest (all_weaker is_ascii_alphabetic is_language_char letter_is_language l.first l.letters.all) (subtags_chars l.rest l.subtags))

-- subtags are none, or begin with the `-`
subtags_begin : (cs : List ℕ) → AreSubtags cs → (cs ≡ []) ⊎ ((rest : List ℕ) × (cs ≡ 0x2D ∷ rest))
subtags_begin cs none = inl refl
subtags_begin cs (more part rest e few later) = inr (part ++ rest, e)

-- which ends what has none
subtags_stop : (cs : List ℕ) → AreSubtags cs → Stops (is_other 0x2D) cs
subtags_stop cs s = ⊎_elim (λ e. subst (Stops (is_other 0x2D)) (sym e) tt) (λ h. subst (Stops (is_other 0x2D)) (sym h.1) refl) (subtags_begin cs s)

-- subtags are parts cut at each `-`
abbrev cut_parts : List ℕ → List (List ℕ)
cut_parts bytes = slice_split (λ b. b == 0x2D) bytes

-- the parts of subtags are tags
subtags_cut : (cs : List ℕ) → AreSubtags cs → (rest : List ℕ) → cs ≡ 0x2D ∷ rest → IsTrue (list_all (is_tag is_ascii_alphanumeric) (cut_parts rest))
subtags_cut cs none rest e = cc
subtags_cut cs (more part after e few later) rest f =
    let all = list_all (is_tag is_ascii_alphanumeric) in
    let tagged = few_tagged is_ascii_alphanumeric part few in
    let same : rest ≡ part ++ after = cc in
    subst (λ bytes. IsTrue (all (cut_parts bytes))) (sym same)
    (⊎_elim
    (λ last. subst (λ x. IsTrue (all (cut_parts (part ++ x)))) (sym last) (rw (append-nil part, slice_split_none (λ b. b == 0x2D) part (no_dash part few.all)) (and_from _ _ tagged refl)))
    (λ h. subst (λ x. IsTrue (all (cut_parts (part ++ x)))) (sym h.1) (rw (slice_split_at (λ b. b == 0x2D) part 0x2D h.0 (no_dash part few.all) refl) (and_from _ _ tagged (subtags_cut after later h.0 h.1))))
    (subtags_begin after later))

-- tags make subtags
parts_joined : (parts : List (List ℕ)) → parts ≢ [] → IsTrue (list_all (is_tag is_ascii_alphanumeric) parts) → AreSubtags (0x2D ∷ join_with_byte 0x2D parts)
parts_joined [] some h = absurd (some refl)
parts_joined (part ∷ []) some h =
    more part [] (ap (λ x. 0x2D ∷ x) (sym (append-nil part))) (tag_few is_ascii_alphanumeric part (and_parts _ _ h).0) none
parts_joined (part ∷ next ∷ parts) some h =
    let both = and_parts (is_tag is_ascii_alphanumeric part) (list_all (is_tag is_ascii_alphanumeric) (next ∷ parts)) h in
    more part (0x2D ∷ join_with_byte 0x2D (next ∷ parts)) refl (tag_few is_ascii_alphanumeric part both.0) (parts_joined (next ∷ parts) (λ e. cc) both.1)

-- so do the parts of a text
cut_subtags : (rest : List ℕ) → IsTrue (list_all (is_tag is_ascii_alphanumeric) (cut_parts rest)) → AreSubtags (0x2D ∷ rest)
cut_subtags rest h =
    let some : cut_parts rest ≢ [] = λ e. absurd (omega (arith, ap length e, length-slice_split (λ b. b == 0x2D) rest)) in
    subst (λ x. AreSubtags (0x2D ∷ x)) (join_with_byte-slice_split 0x2D rest) (parts_joined (cut_parts rest) some h)

-- a language is a first part, and the parts that follow the first `-`
pub language_cut : (text first rest : List ℕ) → IsCutAt 0x2D text first rest
    → IsTrue (is_tag is_ascii_alphabetic first && list_all (is_tag is_ascii_alphanumeric) (cut_parts rest)) ↔ IsLanguage (chars text)
language_cut text first rest cut = (made, tested)
  where
    made : IsTrue (is_tag is_ascii_alphabetic first && list_all (is_tag is_ascii_alphanumeric) (cut_parts rest)) → IsLanguage (chars text)
    made h =
        let both = and_parts (is_tag is_ascii_alphabetic first) (list_all (is_tag is_ascii_alphanumeric) (cut_parts rest)) h in
        let few = tag_few is_ascii_alphabetic first both.0 in
        let subtags = cut_subtags rest both.1 in
        let same_first = bytes_kept is_ascii_alphabetic letter_low first cut.front_text few.all in
        let same_rest = bytes_kept is_language_char language_char_low rest cut.back_text (subtags_chars (0x2D ∷ rest) subtags) in
        record {
          first = chars first;
          rest = 0x2D ∷ chars rest;
          parts = cut.parts;
          letters = subst (AreFew is_ascii_alphabetic) (sym same_first) few;
          subtags = subst (λ x. AreSubtags (0x2D ∷ x)) (sym same_rest) subtags;
        }

    tested : IsLanguage (chars text) → IsTrue (is_tag is_ascii_alphabetic first && list_all (is_tag is_ascii_alphanumeric) (cut_parts rest))
    tested l =
        let apart : (l.first ≡ chars first) × (l.rest ≡ 0x2D ∷ chars rest) =
        same_front (is_other 0x2D) l.first (chars first) l.rest (0x2D ∷ chars rest) (all_weaker is_ascii_alphabetic (is_other 0x2D) letter_no_dash l.first l.letters.all) cut.first
        (subtags_stop l.rest l.subtags) refl (sym l.parts ∙ cut.parts) in
        let letters = subst (AreFew is_ascii_alphabetic) apart.0 l.letters in
        let subtags = subst AreSubtags apart.1 l.subtags in
        let same_first = chars_kept is_ascii_alphabetic letter_low first cut.front_text letters.all in
        let same_rest = chars_kept is_language_char language_char_low rest cut.back_text (subtags_chars (0x2D ∷ chars rest) subtags) in
        and_from (is_tag is_ascii_alphabetic first) (list_all (is_tag is_ascii_alphanumeric) (cut_parts rest)) (few_tagged is_ascii_alphabetic first (subst (AreFew is_ascii_alphabetic) same_first letters))
        (subtags_cut (0x2D ∷ rest) (subst (λ x. AreSubtags (0x2D ∷ x)) same_rest subtags) rest refl)

-- and without one it is the first part
pub language_whole : (text : List ℕ) → IsUtf8 text → IsTrue (list_all (is_other 0x2D) (chars text)) → IsTrue (is_tag is_ascii_alphabetic text) ↔ IsLanguage (chars text)
language_whole text u h = (made, tested)
  where
    made : IsTrue (is_tag is_ascii_alphabetic text) → IsLanguage (chars text)
    made t =
        let few = tag_few is_ascii_alphabetic text t in
        record {
          first = chars text;
          rest = [];
          parts = sym (append-nil (chars text));
          letters = subst (AreFew is_ascii_alphabetic) (sym (bytes_kept is_ascii_alphabetic letter_low text u few.all)) few;
          subtags = none;
        }

    tested : IsLanguage (chars text) → IsTrue (is_tag is_ascii_alphabetic text)
    tested l =
        ⊎_elim
        (λ e.
        let whole : l.first ≡ chars text = sym (l.parts ∙ ap (λ x. l.first ++ x) e ∙ append-nil l.first) in
        let letters = subst (AreFew is_ascii_alphabetic) whole l.letters in
        few_tagged is_ascii_alphabetic text (subst (AreFew is_ascii_alphabetic) (chars_kept is_ascii_alphabetic letter_low text u letters.all) letters))
        (λ r.
        let split : list_all (is_other 0x2D) (chars text) ≡ (list_all (is_other 0x2D) l.first && false) = ap (list_all (is_other 0x2D)) (l.parts ∙ ap (λ x. l.first ++ x) r.1) ∙ list_all-append (is_other 0x2D) l.first (0x2D ∷ r.0) in
        let none : false ≡ true = (and_parts (list_all (is_other 0x2D) l.first) false (sym split ∙ h)).1 in
        cc)
        (subtags_begin l.rest l.subtags)
