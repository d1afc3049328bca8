-- What was read of a reference and its digits, and what the next character makes of it.
use Rattle.std.proofs.Common.{◌≡◌, ◌≢◌, ◌⊎◌, ℕ, ◌+◌, ◌*◌, ◌<◌, ◌≤◌, Bool, true, nat_le, nat_lt, if◌then◌else◌, List, [], ◌∷◌, ◌++◌, codes, refl, sym, ap, ◌∙◌, arith, mul-le-mul_left, append_assoc, subst, inl, inr, ⊎_elim, false, ◌==◌, ◌&&◌, encode_utf8, length, Some, None}
use Rattle.std.proofs.lemmas.Bool.{cond_both, leb-true, leb-false, cases_Bool, and_parts, eqb-true}
use Rattle.std.proofs.lemmas.Str.{encode_ascii}
use Rattle.std.specs.Char.{digit_value}
use Rattle.std.specs.Cmp.Lexicographic.{same_text}
use Rattle.std.specs.List.{list_all}
use Rattle.odd_tokens.proofs.Characters.{char_is_small, number_of, number_push, IsBase, decimal_value, hexadecimal_value, not_empty, list_all_more, decimal_base, hexadecimal_base}
use Rattle.odd_tokens.specs.Characters.{last_character, is_char}
use Rattle.odd_tokens.specs.Lexing.{Lexed, Taken, go, referred, reference, letter, digit, base_of, entity_named, end_letters, end_digits}
use Rattle.odd_text.specs.Same.{is_same}
use Rattle.odd_tokens.specs.Tokens.{is_decimal_digit, is_hexadecimal_digit}
use Rattle.odd_tokens.specs.Tokens as written
use Rattle.odd_tokens.specs.declared.lexer.Place.{Place}
use Rattle.odd_tokens.specs.declared.lexer.ReferencePart.{ReferencePart}
use Rattle.odd_tokens.specs.declared.lexer.ReferencePart.TheVariants as ref
use Rattle.odd_tokens.specs.declared.lexer.State.TheVariants as state

-- a number stays as it is once it is past every character
abbrev pub Counts : ℕ → ℕ → Type 0
Counts value number = (number ≡ value) ⊎ ((last_character < number) × (last_character < value))

counts_more : (value number base d : ℕ) → 1 ≤ base → Counts value number → Counts (value * base + d) (if nat_le number last_character then number * base + d else number)
counts_more value number base d b h =
    cond_both (nat_le number last_character) (number * base + d) number (λ n. Counts (value * base + d) n)
    (λ e. ⊎_elim (λ f. inl (ap (λ n. n * base + d) f)) (λ f. absurd (omega (arith, leb-true number last_character e))) h)
    (λ e. inr (leb-false number last_character e, ⊎_elim (λ f. large (leb-false number last_character e) f) (λ f. grows f.1) h))
  where
    grows : last_character < value → last_character < value * base + d
    grows h = omega (arith, mul-le-mul_left value b)

    large : last_character < number → number ≡ value → last_character < value * base + d
    large h e = grows (omega arith)

pub counts_is : (value number : ℕ) → is_char number ≡ true → Counts value number → number ≡ value
counts_is value number h k = ⊎_elim (λ e. e) (λ e. absurd (omega (arith, char_is_small number h))) k

-- the digits after a mark
pub record InDigits (mark : List ℕ) (base : ℕ) (test : ℕ → Bool) (value : ℕ → ℕ) (read : List ℕ) (number : ℕ) : Type 0 where
  pub digits : List ℕ
  pub is_read : read ≡ mark ++ digits
  pub some : digits ≢ []
  pub all : list_all test digits ≡ true
  pub counts : Counts (number_of base 0 value digits) number

abbrev pub InDecimal : (read : List ℕ) → (number : ℕ) → Type 0
InDecimal = InDigits (codes "&#") 10 is_decimal_digit decimal_value

abbrev pub InHexadecimal : (read : List ℕ) → (number : ℕ) → Type 0
InHexadecimal = InDigits (codes "&#x") 16 is_hexadecimal_digit hexadecimal_value

module _ (mark : List ℕ) {base : ℕ} {test : ℕ → Bool} {value : ℕ → ℕ} (b : IsBase base test value) where
  pub digits_first : (c : ℕ) → nat_lt (digit_value c) base ≡ true → InDigits mark base test value (mark ++ c ∷ []) (if nat_le 0 last_character then 0 * base + digit_value c else 0)
  digits_first c d =
      let t = b.tested c d in
      record { digits = c ∷ []; is_read = refl; some = not_empty [] c; all = list_all_more test [] c refl t; counts = inl (ap (λ n. 0 * base + n) (b.same c t)) }

  pub digits_more : (read : List ℕ) (number c : ℕ) → InDigits mark base test value read number → nat_lt (digit_value c) base ≡ true
      → InDigits mark base test value (read ++ c ∷ []) (if nat_le number last_character then number * base + digit_value c else number)
  digits_more read number c h d =
      let t = b.tested c d in
      let n = number_of base 0 value h.digits in
      let pushed : n * base + digit_value c ≡ number_of base 0 value (h.digits ++ c ∷ []) = ap (λ x. n * base + x) (b.same c t) ∙ sym (number_push base 0 value c h.digits) in
      record {
        digits = h.digits ++ c ∷ [];
        is_read = ap (λ x. x ++ c ∷ []) h.is_read ∙ append_assoc mark h.digits (c ∷ []);
        some = not_empty h.digits c;
        all = list_all_more test h.digits c h.all t;
        counts = subst (λ x. Counts x (if nat_le number last_character then number * base + digit_value c else number)) pushed (counts_more n number base (digit_value c) b.some h.counts);
      }

-- what was read of a reference, from its ampersand on
abbrev pub InReference : ReferencePart → (read : List ℕ) → Lexed → Type 0
InReference ref.Begins read l = read ≡ codes "&"
InReference ref.Letters read l = read ≡ 0x26 ∷ l.text
InReference ref.Hash read l = read ≡ codes "&#"
InReference ref.HexBegins read l = read ≡ codes "&#x"
InReference ref.Decimal read l = InDecimal read l.number
InReference ref.Hexadecimal read l = InHexadecimal read l.number

pub reference_begins : (l : Lexed) → InReference ref.Begins (codes "&") l
reference_begins l = refl

pub data ReferenceStep (p : Place) (read : List ℕ) (l : Lexed) (taken : Taken) : Type 0 where
  goes : (after : ReferencePart) (text : List ℕ) (number : ℕ) → taken ≡ go (state.Reference p after) (record l { text = text; number = number })
      → InReference after read (record l { text = text; number = number }) → ReferenceStep p read l taken
  ends : (r : written.Reference) → written.IsReference r → written.reference_written r ≡ read → taken ≡ referred p (written.character_of r) l → ReferenceStep p read l taken
  stops : taken ≡ None → ReferenceStep p read l taken

pub reference_kept : (part : ReferencePart) (read : List ℕ) (l m : Lexed) → l.text ≡ m.text → l.number ≡ m.number → InReference part read l → InReference part read m
reference_kept ref.Begins read l m t n h = h
reference_kept ref.Letters read l m t n h = h ∙ ap (λ x. 0x26 ∷ x) t
reference_kept ref.Hash read l m t n h = h
reference_kept ref.HexBegins read l m t n h = h
reference_kept ref.Decimal read l m t n h = subst (InDecimal read) n h
reference_kept ref.Hexadecimal read l m t n h = subst (InHexadecimal read) n h

-- a digit goes on
digit_steps : (p : Place) (part : ReferencePart) (read : List ℕ) (l : Lexed) (c number : ℕ)
    → (nat_lt (digit_value c) (base_of part) ≡ true → InReference part read (record l { number = if nat_le number last_character then number * base_of part + digit_value c else number }))
    → ReferenceStep p read l (digit p part (record l { number = number }) c)
digit_steps p part read l c number goes_on =
    cond_both (nat_lt (digit_value c) (base_of part)) _ None (ReferenceStep p read l) (λ h. goes part l.text _ refl (goes_on h)) (λ h. stops refl)

-- and a semicolon ends the digits
digits_end : (p : Place) (read : List ℕ) (l : Lexed) (r : written.Reference) {mark : List ℕ} {base : ℕ} {test : ℕ → Bool} {value : ℕ → ℕ} (h : InDigits mark base test value read l.number)
    → written.reference_written r ≡ mark ++ h.digits ++ codes ";" → (is_char (written.character_of r) ≡ true → written.IsReference r) → written.character_of r ≡ number_of base 0 value h.digits
    → ReferenceStep p (read ++ codes ";") l (end_digits p l)
digits_end p read l r h is_written is_reference made =
    cond_both (is_char l.number) (referred p l.number l) None (ReferenceStep p (read ++ codes ";") l) ended (λ e. stops refl)
  where
    ended : is_char l.number ≡ true → ReferenceStep p (read ++ codes ";") l (referred p l.number l)
    ended e =
        let same : l.number ≡ written.character_of r = counts_is _ l.number e h.counts ∙ sym made in
        ends r (is_reference (ap is_char (sym same) ∙ e)) (is_written ∙ ap (λ x. x ++ codes ";") (sym h.is_read)) (ap (λ n. referred p n l) same)

-- a letter

letter_steps : (p : Place) (read : List ℕ) (l : Lexed) (c : ℕ) (text : List ℕ) → read ≡ 0x26 ∷ text → ReferenceStep p (read ++ c ∷ []) l (letter p (record l { text = text }) c)
letter_steps p read l c text e =
    cond_both (nat_le 0x61 c && nat_le c 0x7A && nat_lt (length text) 4) _ None (ReferenceStep p (read ++ c ∷ []) l)
    (λ h. goes ref.Letters (text ++ encode_utf8 c) l.number refl (ap (λ x. x ++ c ∷ []) e ∙ ap (λ x. 0x26 ∷ (text ++ x)) (sym (encode_ascii c (low c (and_parts _ _ (and_parts _ _ h).0).1)))))
    (λ h. stops refl)
  where
    low : (c : ℕ) → nat_le c 0x7A ≡ true → c < 128
    low c h = omega (arith, leb-true c 0x7A h)

-- a semicolon after letters

named : (p : Place) (l : Lexed) (name : List ℕ) (n : ℕ) → entity_named name ≡ Some n → is_same l.text name ≡ true → end_letters p l ≡ referred p n l
named p l name n e h =
    let f : entity_named l.text ≡ Some n = ap entity_named (same_text l.text name (sym h)) ∙ e in
    rw f refl

unnamed : (p : Place) (l : Lexed) → entity_named l.text ≡ None → end_letters p l ≡ None
unnamed p l e = rw e refl

no_entity : (name : List ℕ) → is_same name (codes "lt") ≡ false → is_same name (codes "gt") ≡ false → is_same name (codes "amp") ≡ false → is_same name (codes "apos") ≡ false
    → is_same name (codes "quot") ≡ false → entity_named name ≡ None
no_entity name a b c d e = rw (a, b, c, d, e) refl

entity_ends : (p : Place) (read : List ℕ) (l : Lexed) (r : written.Reference) (name : List ℕ) → read ≡ 0x26 ∷ l.text → written.IsReference r
    → written.reference_written r ≡ 0x26 ∷ (name ++ codes ";")
    → entity_named name ≡ Some (written.character_of r) → is_same l.text name ≡ true → ReferenceStep p (read ++ codes ";") l (end_letters p l)
entity_ends p read l r name e is_reference is_written is_named h =
    ends r is_reference (is_written ∙ ap (λ x. 0x26 ∷ (x ++ codes ";")) (sym (same_text l.text name (sym h))) ∙ ap (λ x. x ++ codes ";") (sym e))
    (named p l name (written.character_of r) is_named h)

letters_end : (p : Place) (read : List ℕ) (l : Lexed) → read ≡ 0x26 ∷ l.text → ReferenceStep p (read ++ codes ";") l (end_letters p l)
letters_end p read l e =
    ⊎_elim (entity_ends p read l written.lt (codes "lt") e tt refl refl) (λ h₁.
    ⊎_elim (entity_ends p read l written.gt (codes "gt") e tt refl refl) (λ h₂.
    ⊎_elim (entity_ends p read l written.amp (codes "amp") e tt refl refl) (λ h₃.
    ⊎_elim (entity_ends p read l written.apos (codes "apos") e tt refl refl) (λ h₄.
    ⊎_elim (entity_ends p read l written.quot (codes "quot") e tt refl refl) (λ h₅.
    stops (unnamed p l (no_entity l.text h₁ h₂ h₃ h₄ h₅)))
    (cases_Bool (is_same l.text (codes "quot")))) (cases_Bool (is_same l.text (codes "apos")))) (cases_Bool (is_same l.text (codes "amp"))))
    (cases_Bool (is_same l.text (codes "gt")))) (cases_Bool (is_same l.text (codes "lt")))

-- each part of a reference

-- a test for one character, and what is read with it
pub at_character : {X : Type 0} (Q : List ℕ → X → Type 0) (read : List ℕ) (c n : ℕ) (x y : X) → Q (read ++ n ∷ []) x → ((c == n) ≡ false → Q (read ++ c ∷ []) y)
    → Q (read ++ c ∷ []) (if c == n then x else y)
at_character Q read c n x y a b =
    cond_both (c == n) x y (Q (read ++ c ∷ [])) (λ h. subst (λ z. Q (read ++ z ∷ []) x) (sym (eqb-true c n h)) a) b

pub reference_steps : (p : Place) (part : ReferencePart) (read : List ℕ) (l : Lexed) (c : ℕ) → is_char c ≡ true → InReference part read l
    → ReferenceStep p (read ++ c ∷ []) l (reference p part l c)
reference_steps p ref.Begins read l c legal h =
    at_character (λ r. ReferenceStep p r l) read c 0x23 _ _ (goes ref.Hash l.text l.number refl (ap (λ r. r ++ codes "#") h)) (λ _. letter_steps p read l c [] h)
reference_steps p ref.Letters read l c legal h = at_character (λ r. ReferenceStep p r l) read c 0x3B _ _ (letters_end p read l h) (λ _. letter_steps p read l c l.text h)
reference_steps p ref.Hash read l c legal h =
    at_character (λ r. ReferenceStep p r l) read c 0x78 _ _ (goes ref.HexBegins l.text l.number refl (ap (λ r. r ++ codes "x") h))
    (λ _. digit_steps p ref.Decimal (read ++ c ∷ []) l c 0 (λ d. rw h (digits_first (codes "&#") decimal_base c d)))
reference_steps p ref.HexBegins read l c legal h = digit_steps p ref.Hexadecimal (read ++ c ∷ []) l c 0 (λ d. rw h (digits_first (codes "&#x") hexadecimal_base c d))
reference_steps p ref.Decimal read l c legal h =
    at_character (λ r. ReferenceStep p r l) read c 0x3B _ _ (digits_end p read l (written.decimal h.digits) h refl (λ e. (h.some, h.all, e)) refl)
    (λ _. digit_steps p ref.Decimal (read ++ c ∷ []) l c l.number (λ d. digits_more (codes "&#") decimal_base read l.number c h d))
reference_steps p ref.Hexadecimal read l c legal h =
    at_character (λ r. ReferenceStep p r l) read c 0x3B _ _ (digits_end p read l (written.hexadecimal h.digits) h refl (λ e. (h.some, h.all, e)) refl)
    (λ _. digit_steps p ref.Hexadecimal (read ++ c ∷ []) l c l.number (λ d. digits_more (codes "&#x") hexadecimal_base read l.number c h d))
