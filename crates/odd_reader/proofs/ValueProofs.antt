-- The pieces of values that are read at once.
use Rattle.std.proofs.Common.{◌≡◌, ◌≢◌, ℕ, ◌<◌, ◌≤◌, true, false, ◌||◌, ◌==◌, if◌then◌else◌, List, [], ◌∷◌, ◌++◌, map, All, IsUtf8, encode_utf8, refl, sym, ap, ap₂, ◌∙◌, append_assoc, append-nil, arith}
use Rattle.std.proofs.lemmas.Bool.{and_parts}
use Rattle.std.proofs.lemmas.Bool.Decides.{nat_tests}
use Rattle.std.proofs.lemmas.List.Elements.{All-append, All-cons, All-head, All-nil, All-tail, All-weaker}
use Rattle.std.proofs.lemmas.Str.{encodes-append, encodes-chars}
use Rattle.std.specs.List.{list_all}
use Rattle.std.specs.Str.{chars, encode_utf8_all}
use Rattle.odd_tokens.specs.Characters.{is_char}
use Rattle.odd_tokens.specs.Tokens.{IsPieceIn, Piece, character_of, itself, reference, reference_written, value_written}
use Rattle.odd_tokens.specs.Values.{value_read}
use Rattle.odd_reader.proofs.PlainBytes.{chars_pass}
use Rattle.odd_reader.specs.Tagging.{ArePiecesFirst, IsReferenceFirst, IsSimplePiece, is_plain_byte_in, is_plain_in}

-- one piece

as_itself : (quote c : ℕ) → is_plain_in quote c ≡ true → (if c == 0x20 || c == 0x9 || false || c == 0xA then 0x20 else c) ≡ c
as_itself quote c h = grind (arith, nat_tests)

no_return : (quote c : ℕ) → is_plain_in quote c ≡ true → (c == 0xD) ≡ false
no_return quote c h = grind (arith, nat_tests)

not_less : (quote c : ℕ) → is_plain_in quote c ≡ true → c ≢ 0x3C
not_less quote c h e = grind (arith, nat_tests)

not_ampersand : (quote c : ℕ) → is_plain_in quote c ≡ true → c ≢ 0x26
not_ampersand quote c h e = grind (arith, nat_tests)

not_quote : (quote c : ℕ) → is_plain_in quote c ≡ true → c ≢ quote
not_quote quote c h e = grind (arith, nat_tests)

piece_in : (quote : ℕ) (p : Piece) → IsSimplePiece quote p → IsPieceIn quote p
piece_in quote (itself c) h = ((and_parts (is_char c) _ h).0, not_less quote c h, not_ampersand quote c h, not_quote quote c h)
piece_in quote (reference r) h = h

pub pieces_in : (quote : ℕ) (ps : List Piece) → All (IsSimplePiece quote) ps → All (IsPieceIn quote) ps
pieces_in quote ps a = All-weaker (IsSimplePiece quote) (IsPieceIn quote) (piece_in quote) ps a

-- such pieces are read each by itself

itself_read : (quote c : ℕ) (ps : List Piece) → is_plain_in quote c ≡ true → value_read (itself c ∷ ps) ≡ c ∷ value_read ps
itself_read quote c ps h = rw (no_return quote c h) (ap (λ x. x ∷ value_read ps) (as_itself quote c h))

read_append : (quote : ℕ) (ps qs : List Piece) → All (IsSimplePiece quote) ps → value_read (ps ++ qs) ≡ value_read ps ++ value_read qs
read_append quote [] qs a = refl
read_append quote (itself c ∷ ps) qs a =
    let h = All-head (IsSimplePiece quote) (itself c) ps a in
    itself_read quote c (ps ++ qs) h ∙ ap (λ xs. c ∷ xs) (read_append quote ps qs (All-tail (IsSimplePiece quote) (itself c) ps a)) ∙ ap (λ xs. xs ++ value_read qs) (sym (itself_read quote c ps h))
read_append quote (reference r ∷ ps) qs a = ap (λ xs. character_of r ∷ xs) (read_append quote ps qs (All-tail (IsSimplePiece quote) (reference r) ps a))

written_append : (ps qs : List Piece) → value_written (ps ++ qs) ≡ value_written ps ++ value_written qs
written_append [] qs = refl
written_append (itself c ∷ ps) qs = ap (λ xs. c ∷ xs) (written_append ps qs)
written_append (reference r ∷ ps) qs = ap (λ xs. reference_written r ++ xs) (written_append ps qs) ∙ sym (append_assoc (reference_written r) (value_written ps) (value_written qs))

-- what stands first in a text

pub pieces_more : (quote : ℕ) (text value rest more left : List ℕ) → ArePiecesFirst quote text value rest → ArePiecesFirst quote rest more left → ArePiecesFirst quote text (value ++ more) left
pieces_more quote text value rest more left a b = record {
  pieces = a.pieces ++ b.pieces;
  are_simple = All-append (IsSimplePiece quote) a.pieces b.pieces a.are_simple b.are_simple;
  is_made = ap₂ ◌++◌ a.is_made b.is_made ∙ sym (ap encode_utf8_all (read_append quote a.pieces b.pieces a.are_simple) ∙ encodes-append (value_read a.pieces) (value_read b.pieces));
  parts = a.parts ∙ ap (λ xs. encode_utf8_all (value_written a.pieces) ++ xs) b.parts
      ∙ sym (append_assoc (encode_utf8_all (value_written a.pieces)) (encode_utf8_all (value_written b.pieces)) left)
      ∙ ap (λ xs. xs ++ left) (sym (ap encode_utf8_all (written_append a.pieces b.pieces) ∙ encodes-append (value_written a.pieces) (value_written b.pieces)));
}

pub reference_more : (quote : ℕ) (text value rest left : List ℕ) (c : ℕ) → ArePiecesFirst quote text value rest → IsReferenceFirst rest c left → ArePiecesFirst quote text (value ++ encode_utf8 c) left
reference_more quote text value rest left c a f =
    pieces_more quote text value rest (encode_utf8 c) left a (record {
      pieces = reference f.reference ∷ [];
      are_simple = All-cons (IsSimplePiece quote) (reference f.reference) [] f.is_reference (All-nil (IsSimplePiece quote));
      is_made = ap encode_utf8 f.is_made ∙ sym (append-nil (encode_utf8 (character_of f.reference)));
      parts = f.parts ∙ ap (λ xs. encode_utf8_all xs ++ left) (sym (append-nil (reference_written f.reference)));
    })

-- characters that are read as themselves

high_value : (quote c : ℕ) → quote < 128 → 128 ≤ c → is_char c ≡ true → is_plain_in quote c ≡ true
high_value quote c q l h = grind (arith, nat_tests)

all_simple : (quote : ℕ) (cs : List ℕ) → list_all (is_plain_in quote) cs ≡ true → All (IsSimplePiece quote) (map itself cs)
all_simple quote [] h = All-nil (IsSimplePiece quote)
all_simple quote (c ∷ cs) h =
    let p = and_parts (is_plain_in quote c) (list_all (is_plain_in quote) cs) h in
    All-cons (IsSimplePiece quote) (itself c) (map itself cs) p.0 (all_simple quote cs p.1)

all_written : (cs : List ℕ) → value_written (map itself cs) ≡ cs
all_written [] = refl
all_written (c ∷ cs) = ap (λ xs. c ∷ xs) (all_written cs)

all_read : (quote : ℕ) (cs : List ℕ) → list_all (is_plain_in quote) cs ≡ true → value_read (map itself cs) ≡ cs
all_read quote [] h = refl
all_read quote (c ∷ cs) h =
    let p = and_parts (is_plain_in quote c) (list_all (is_plain_in quote) cs) h in
    itself_read quote c (map itself cs) p.0 ∙ ap (λ xs. c ∷ xs) (all_read quote cs p.1)

pub run_first : (quote : ℕ) (text run rest : List ℕ) → quote < 128 → IsUtf8 run → list_all (is_plain_byte_in quote) run ≡ true → text ≡ run ++ rest → ArePiecesFirst quote text run rest
run_first quote text run rest q u h e =
    let cs = chars run in
    let same : encode_utf8_all cs ≡ run = encodes-chars run u in
    let all = chars_pass (is_plain_in quote) (λ c l k. high_value quote c q l k) run u h in
    record {
      pieces = map itself cs;
      are_simple = all_simple quote cs all;
      is_made = sym (ap encode_utf8_all (all_read quote cs all) ∙ same);
      parts = e ∙ ap (λ xs. xs ++ rest) (sym (ap encode_utf8_all (all_written cs) ∙ same));
    }
