-- CDATA sections and references that are read at once.
use Rattle.std.proofs.Common.{◌≡◌, ◌≢◌, ℕ, ◌<◌, ◌≤◌, true, false, ◌&&◌, ◌==◌, List, [], ◌∷◌, ◌++◌, length, Option, IsUtf8, Ok, refl, sym, ap, ◌∙◌, append_assoc, codes, arith}
use Rattle.std.proofs.lemmas.Bool.{and_parts}
use Rattle.std.proofs.lemmas.Bool.Decides.{nat_tests}
use Rattle.std.proofs.lemmas.List.Folds.{list_all-append}
use Rattle.std.proofs.lemmas.Str.{encodes-chars}
use Rattle.std.specs.List.{list_all}
use Rattle.std.specs.Str.{chars, encode_utf8_all}
use Rattle.odd_tokens.proofs.Ascii.{ascii_codes}
use Rattle.odd_tokens.proofs.Characters.{all_weaker}
use Rattle.odd_tokens.specs.Characters.{is_char}
use Rattle.odd_tokens.specs.Lines.{lines_read}
use Rattle.odd_tokens.specs.Tokens.{IsReference, Reference, amp, apos, cdata, character_of, decimal, gt, hexadecimal, lt, quot, reference_written, token_written}
use Rattle.odd_tokens.specs.Whole.{IsLexed}
use Rattle.odd_tree.specs.declared.tree.Tree.{Tree}
use Rattle.odd_reader.specs.Building.{Kept, inside}
use Rattle.odd_reader.specs.Stepping.{some_open, with_inside}
use Rattle.odd_reader.specs.Tagging.{IsReferenceFirst, IsSectionFirst, is_in_section, is_section_byte}
use Rattle.odd_reader.specs.declared.builder.Last.{Last}
use Rattle.odd_reader.specs.declared.element.OpenElement.{OpenElement}
use Rattle.odd_reader.proofs.PlainBytes.{chars_pass}
use Rattle.odd_reader.proofs.StandsTaken.{kept}
use Rattle.odd_reader.proofs.TaggingProofs.{marked, shorter_written}

-- text that stands inside an element fits where one is open

fits_in : (os : List OpenElement) (root : Option Tree) (text : List ℕ) (l : Last) (bytes : List ℕ) → some_open os ≡ true
    → inside bytes (kept os root text l) ≡ Ok (with_inside bytes (kept os root text l))
fits_in [] root text l bytes h = cc
fits_in (o ∷ os) root text l bytes h = refl

pub inside_fits : (k : Kept) (bytes : List ℕ) → some_open k.open_elements ≡ true → inside bytes k ≡ Ok (with_inside bytes k)
inside_fits k bytes h = fits_in k.open_elements k.root k.text k.last bytes h

-- CDATA sections

high_section : (c : ℕ) → 128 ≤ c → is_char c ≡ true → is_in_section c ≡ true
high_section c l h = grind (arith, nat_tests)

section_chars : (cs : List ℕ) → list_all is_in_section cs ≡ true → list_all is_char cs ≡ true
section_chars cs h = all_weaker is_in_section is_char (λ c k. (and_parts (is_char c) _ k).0) cs h

no_return : (c : ℕ) → is_in_section c ≡ true → (c == 0xD) ≡ false
no_return c h = grind (arith, nat_tests)

not_bracket : is_in_section 0x5D ≡ false
unfolding is_char
not_bracket = refl

no_bracket : (front rest cs : List ℕ) → list_all is_in_section cs ≡ true → cs ≢ front ++ 0x5D ∷ rest
no_bracket front rest cs h e =
    let all : (list_all is_in_section front && list_all is_in_section (0x5D ∷ rest)) ≡ true = sym (list_all-append is_in_section front (0x5D ∷ rest)) ∙ ap (list_all is_in_section) (sym e) ∙ h in
    let k : false ≡ true = sym not_bracket ∙ (and_parts (is_in_section 0x5D) _ (and_parts (list_all is_in_section front) _ all).1).0 in
    cc k

pub section_lexed : (cs : List ℕ) → list_all is_in_section cs ≡ true → IsLexed (cdata cs)
section_lexed cs h = (section_chars cs h, λ before after e. no_bracket before (0x5D ∷ 0x3E ∷ after) cs h (e ∙ append_assoc before (codes "]]>") after))

-- each character is read as itself
pub section_read : (cs : List ℕ) → list_all is_in_section cs ≡ true → lines_read cs ≡ cs
section_read [] h = refl
section_read (c ∷ cs) h =
    let p = and_parts (is_in_section c) (list_all is_in_section cs) h in
    rw (no_return c p.0) (ap (λ xs. c ∷ xs) (section_read cs p.1))

pub section_first : (text begun inside ended rest : List ℕ) → IsUtf8 inside → list_all is_section_byte inside ≡ true → text ≡ codes "<![CDATA[" ++ begun → begun ≡ inside ++ ended
    → ended ≡ codes "]]>" ++ rest → IsSectionFirst text inside rest
section_first text begun inside ended rest u h e f g =
    let cs = chars inside in
    let same : encode_utf8_all cs ≡ inside = encodes-chars inside u in
    let all : text ≡ encode_utf8_all (token_written (cdata cs)) ++ rest =
    marked (codes "<![CDATA[") cs (codes "]]>") text begun inside ended rest (ascii_codes (codes "<![CDATA[") refl) (ascii_codes (codes "]]>") refl) same e f g in
    let some : 0 < length (token_written (cdata cs)) = omega arith in
    record { characters = cs; all_plain = chars_pass is_in_section high_section inside u h; written = same; parts = all; shorter = shorter_written text (token_written (cdata cs)) rest some all }

-- references

some_reference : (r : Reference) → 0 < length (reference_written r)
some_reference lt = omega arith
some_reference gt = omega arith
some_reference amp = omega arith
some_reference apos = omega arith
some_reference quot = omega arith
some_reference (decimal digits) = omega arith
some_reference (hexadecimal digits) = omega arith

pub reference_first : (text written rest : List ℕ) (c : ℕ) (r : Reference) → IsReference r → encode_utf8_all (reference_written r) ≡ written → c ≡ character_of r → text ≡ written ++ rest
    → IsReferenceFirst text c rest
reference_first text written rest c r i w e parts =
    let all : text ≡ encode_utf8_all (reference_written r) ++ rest = parts ∙ ap (λ bs. bs ++ rest) (sym w) in
    record { reference = r; is_reference = i; is_made = e; parts = all; shorter = shorter_written text (reference_written r) rest (some_reference r) all }
