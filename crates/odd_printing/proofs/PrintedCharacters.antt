-- A character and a text as they are printed: references or themselves, their tokens, and the node.
use Rattle.std.proofs.Common.{◌≡◌, ℕ, ◌≤◌, List, [], ◌∷◌, arith, ◌≢◌, true, false, ◌==◌, if◌then◌else◌, ◌++◌, sym, refl, ap, ◌∙◌, ⊎_elim, codes, map, append-nil, IsTrue}
use Rattle.std.proofs.Math.Utf8.{encode}
use Rattle.std.proofs.lemmas.Bool.{cases_lt, and_parts}
use Rattle.std.proofs.lemmas.Bool.Decides.{nat_tests, eqb_tells}
use Rattle.std.proofs.lemmas.Grind.{flat_map-append}
use Rattle.std.proofs.lemmas.Str.{encode_ascii}
use Rattle.std.specs.List.{flat_map, list_all}
use Rattle.std.specs.Str.{encode_utf8_all}
use Rattle.odd_text.specs.declared.name.Bind.{Bind}
use Rattle.odd_tokens.specs.Characters.{is_char, is_space}
use Rattle.odd_tokens.specs.Tokens.{amp, lt, gt, quot, decimal, Piece, itself, reference, Token, character, referred, IsPieceIn, value_written, token_written, tokens_written}
use Rattle.odd_tokens.specs.Values.{value_read}
use Rattle.odd_tree.proofs.Fits.{Inside, FitAfter, inside_after}
use Rattle.odd_tree.proofs.PrintedTrees.{text_nodes}
use Rattle.odd_tree.specs.Fitting.{is_tag, is_start_or_end, IsBalanced, nothing, piece, Fits}
use Rattle.odd_tree.specs.Markup.{escaped_text, escaped_text_char, escaped_value, escaped_value_char}
use Rattle.odd_tree.specs.Trees.{token_read, with_text, IsContent}
use Rattle.odd_tree.specs.Trees as Trees
use Rattle.odd_tree.specs.declared.tree.Node.{Text}

-- A character that is not ASCII has bytes from 128 on alone. Escapes that keep each of those keep the character.
kept : (f : ℕ → List ℕ) → ((b : ℕ) → 128 ≤ b → f b ≡ b ∷ []) → (c : ℕ) → 128 ≤ c → flat_map f (encode c) ≡ encode c
unfolding encode
kept f h c high = grind (arith, nat_tests, h)

-- both escapes do
high_text_byte : (b : ℕ) → 128 ≤ b → escaped_text_char b ≡ b ∷ []
high_text_byte b h = grind (arith, nat_tests)

high_value_byte : (b : ℕ) → 128 ≤ b → escaped_value_char b ≡ b ∷ []
high_value_byte b h = grind (arith, nat_tests)

pub kept_in_text : (c : ℕ) → 128 ≤ c → escaped_text (encode c) ≡ encode c
kept_in_text c h = kept escaped_text_char high_text_byte c h

pub kept_in_value : (c : ℕ) → 128 ≤ c → escaped_value (encode c) ≡ encode c
kept_in_value c h = kept escaped_value_char high_value_byte c h

-- a character that a text has as itself
pub record KeptInText (c : ℕ) : Type 0 where
  pub amp : (c == 0x26) ≡ false
  pub lt : (c == 0x3C) ≡ false
  pub gt : (c == 0x3E) ≡ false
  pub return : (c == 0xD) ≡ false

-- a character that a value has as itself
pub record KeptInValue (c : ℕ) : Type 0 where
  pub quot : (c == 0x22) ≡ false
  pub tab : (c == 0x9) ≡ false
  pub feed : (c == 0xA) ≡ false
  pub in_text : KeptInText c

at_one : (P : ℕ → Type 0) (n : ℕ) → P n → (c : ℕ) → ((c == n) ≡ false → P c) → P c
at_one P n p c other = ⊎_elim (λ e. rw e.1 p) (λ e. other e.0) (eqb_tells c n)

-- what holds of the characters that are references and of those that are kept holds of any
pub at_text : (P : ℕ → Type 0) → P 0x26 → P 0x3C → P 0x3E → P 0xD → ((c : ℕ) → KeptInText c → P c) → (c : ℕ) → P c
at_text P p₁ p₂ p₃ p₄ kept c =
    at_one P 0x26 p₁ c (λ h₁. at_one P 0x3C p₂ c (λ h₂. at_one P 0x3E p₃ c (λ h₃. at_one P 0xD p₄ c (λ h₄. kept c (record { amp = h₁; lt = h₂; gt = h₃; return = h₄ })))))

pub at_value : (P : ℕ → Type 0) → P 0x22 → P 0x9 → P 0xA → P 0x26 → P 0x3C → P 0x3E → P 0xD → ((c : ℕ) → KeptInValue c → P c) → (c : ℕ) → P c
at_value P p₁ p₂ p₃ p₄ p₅ p₆ p₇ kept c =
    at_one P 0x22 p₁ c (λ h₁. at_one P 0x9 p₂ c (λ h₂. at_one P 0xA p₃ c (λ h₃.
    at_text (λ d. (d == 0x22) ≡ false → (d == 0x9) ≡ false → (d == 0xA) ≡ false → P d) (λ k₁ k₂ k₃. p₄) (λ k₁ k₂ k₃. p₅) (λ k₁ k₂ k₃. p₆) (λ k₁ k₂ k₃. p₇)
    (λ d k k₁ k₂ k₃. kept d (record { quot = k₁; tab = k₂; feed = k₃; in_text = k })) c h₁ h₂ h₃)))

pub apart_from : (c n : ℕ) → (c == n) ≡ false → c ≢ n
apart_from c n h = grind (arith, nat_tests)

-- the bytes of a character that is kept

as_itself_text : (c : ℕ) → KeptInText c → escaped_text (c ∷ []) ≡ c ∷ []
as_itself_text c k = rw (k.amp, k.lt, k.gt, k.return) refl

as_itself_value : (c : ℕ) → KeptInValue c → escaped_value (c ∷ []) ≡ c ∷ []
as_itself_value c k = rw (k.quot, k.tab, k.feed, k.in_text.amp, k.in_text.lt, k.in_text.gt, k.in_text.return) refl

bytes_kept : (escaped : List ℕ → List ℕ) (c : ℕ) → (128 ≤ c → escaped (encode c) ≡ encode c) → escaped (c ∷ []) ≡ c ∷ [] → escaped (encode c) ≡ encode c
bytes_kept escaped c high low = ⊎_elim (λ h. let e = encode_ascii c h in ap escaped e ∙ low ∙ sym e) high (cases_lt c 128)

-- in a value

abbrev pub value_piece : ℕ → Piece
value_piece c =
    if c == 0x22 then reference quot else (if c == 0x9 then reference (decimal (codes "9")) else (if c == 0xA then reference (decimal (codes "10")) else (if c == 0x26 then reference amp
    else (if c == 0x3C then reference lt else (if c == 0x3E then reference gt else (if c == 0xD then reference (decimal (codes "13")) else itself c))))))

piece_kept : (c : ℕ) → KeptInValue c → value_piece c ≡ itself c
piece_kept c k = rw (k.quot, k.tab, k.feed, k.in_text.amp, k.in_text.lt, k.in_text.gt, k.in_text.return) refl

pub piece_written : (pieces : List Piece) (c : ℕ) → encode_utf8_all (value_written (value_piece c ∷ pieces)) ≡ escaped_value (encode c) ++ encode_utf8_all (value_written pieces)
unfolding encode
piece_written pieces =
    at_value (λ c. encode_utf8_all (value_written (value_piece c ∷ pieces)) ≡ escaped_value (encode c) ++ encode_utf8_all (value_written pieces)) refl refl refl refl refl refl refl (written pieces)
  where
    written : (ps : List Piece) (c : ℕ) → KeptInValue c → encode_utf8_all (value_written (value_piece c ∷ ps)) ≡ escaped_value (encode c) ++ encode_utf8_all (value_written ps)
    written ps c k =
        ap (λ p. encode_utf8_all (value_written (p ∷ ps))) (piece_kept c k)
        ∙ ap (λ z. z ++ encode_utf8_all (value_written ps)) (sym (bytes_kept escaped_value c (kept_in_value c) (as_itself_value c k)))

no_space : (c : ℕ) → KeptInValue c → (if is_space c then 0x20 else c) ≡ c
no_space c k = let a = k.tab in let b = k.feed in let d = k.in_text.return in grind (arith, nat_tests)

pub piece_is_read : (pieces : List Piece) (c : ℕ) → value_read (value_piece c ∷ pieces) ≡ c ∷ value_read pieces
piece_is_read pieces = at_value (λ c. value_read (value_piece c ∷ pieces) ≡ c ∷ value_read pieces) refl refl refl refl refl refl refl (read pieces)
  where
    read : (ps : List Piece) (c : ℕ) → KeptInValue c → value_read (value_piece c ∷ ps) ≡ c ∷ value_read ps
    read ps c k = ap (λ p. value_read (p ∷ ps)) (piece_kept c k) ∙ rw (no_space c k, k.in_text.return) refl

pub piece_is_piece : (c : ℕ) → is_char c ≡ true → IsPieceIn 0x22 (value_piece c)
unfolding is_char
piece_is_piece =
    at_value (λ c. is_char c ≡ true → IsPieceIn 0x22 (value_piece c)) (λ h. tt) (λ h. (λ e. cc, refl, refl)) (λ h. (λ e. cc, refl, refl)) (λ h. tt) (λ h. tt) (λ h. tt) (λ h. (λ e. cc, refl, refl))
    (λ c k h. rw (piece_kept c k) (h, apart_from c 0x3C k.in_text.lt, apart_from c 0x26 k.in_text.amp, apart_from c 0x22 k.quot))

-- in a text

abbrev pub text_token : ℕ → Token
text_token c =
    if c == 0x26 then referred amp else (if c == 0x3C then referred lt else (if c == 0x3E then referred gt else (if c == 0xD then referred (decimal (codes "13")) else character c)))

pub token_kept : (c : ℕ) → KeptInText c → text_token c ≡ character c
token_kept c k = rw (k.amp, k.lt, k.gt, k.return) refl

pub text_token_written : (cs : List ℕ) (c : ℕ) → encode_utf8_all (token_written (text_token c) ++ cs) ≡ escaped_text (encode c) ++ encode_utf8_all cs
unfolding encode
text_token_written cs = at_text (λ c. encode_utf8_all (token_written (text_token c) ++ cs) ≡ escaped_text (encode c) ++ encode_utf8_all cs) refl refl refl refl (written cs)
  where
    written : (rest : List ℕ) (c : ℕ) → KeptInText c → encode_utf8_all (token_written (text_token c) ++ rest) ≡ escaped_text (encode c) ++ encode_utf8_all rest
    written rest c k =
        ap (λ t. encode_utf8_all (token_written t ++ rest)) (token_kept c k)
        ∙ ap (λ z. z ++ encode_utf8_all rest) (sym (bytes_kept escaped_text c (kept_in_text c) (as_itself_text c k)))

pub text_token_read : (next : List Token) (c : ℕ) → token_read (text_token c) next ≡ c ∷ []
text_token_read next = at_text (λ c. token_read (text_token c) next ≡ c ∷ []) refl refl refl refl (λ c k. rw (token_kept c k, k.return) refl)

pub text_token_is_no_tag : (c : ℕ) → is_tag (text_token c) ≡ false
text_token_is_no_tag = at_text (λ c. is_tag (text_token c) ≡ false) refl refl refl refl (λ c k. rw (token_kept c k) refl)

pub text_token_opens_none : (c : ℕ) → is_start_or_end (text_token c) ≡ false
text_token_opens_none = at_text (λ c. is_start_or_end (text_token c) ≡ false) refl refl refl refl (λ c k. rw (token_kept c k) refl)

pub text_written : (cs : List ℕ) → encode_utf8_all (tokens_written (map text_token cs)) ≡ escaped_text (encode_utf8_all cs)
text_written [] = refl
text_written (c ∷ cs) =
    text_token_written (tokens_written (map text_token cs)) c ∙ ap (λ z. escaped_text (encode c) ++ z) (text_written cs)
    ∙ sym (flat_map-append escaped_text_char (encode c) (encode_utf8_all cs))

pub text_balanced : (cs : List ℕ) → IsBalanced (map text_token cs)
text_balanced [] = nothing
text_balanced (c ∷ cs) = piece (text_token_opens_none c) (text_balanced cs)

-- the tokens fit in an element

token_fits : (here : List Bind) (before : List Token) (i : Inside here before) (c : ℕ) → is_char c ≡ true → Fits before (text_token c)
unfolding is_char
token_fits here before i =
    at_text (λ c. is_char c ≡ true → Fits before (text_token c))
    (λ h. record { token = tt; open_tags = i.outer ∷ i.inner; are_open = i.are_open; fits_in = tt })
    (λ h. record { token = tt; open_tags = i.outer ∷ i.inner; are_open = i.are_open; fits_in = tt })
    (λ h. record { token = tt; open_tags = i.outer ∷ i.inner; are_open = i.are_open; fits_in = tt })
    (λ h. record { token = (λ e. cc, refl, refl); open_tags = i.outer ∷ i.inner; are_open = i.are_open; fits_in = tt })
    (λ c k h. rw (token_kept c k) (record {
      token = (h, apart_from c 0x3C k.lt, apart_from c 0x26 k.amp);
      open_tags = i.outer ∷ i.inner;
      are_open = i.are_open;
      fits_in = λ e. absurd (apart_from c 0x3E k.gt e);
    }))

pub text_fits : (here : List Bind) (before : List Token) (cs : List ℕ) → IsTrue (list_all is_char cs) → Inside here before → FitAfter before (map text_token cs)
text_fits here before [] h i = tt
text_fits here before (c ∷ cs) h i =
    let p = and_parts (is_char c) (list_all is_char cs) h in
    (token_fits here before i c p.0, text_fits here (before ++ text_token c ∷ []) cs p.1 (inside_after i (piece (text_token_opens_none c) nothing)))

-- the node

-- a character has a byte
some_node : (c : ℕ) (rest : List ℕ) → text_nodes (encode c ++ rest) ≡ Text (encode c ++ rest) ∷ []
unfolding encode
some_node c rest = grind arith

one_more : (c : ℕ) (bytes : List ℕ) → with_text (c ∷ []) (text_nodes bytes) ≡ text_nodes (encode c ++ bytes)
one_more c [] = sym (some_node c [])
one_more c (b ∷ bs) = ap (λ z. Text (z ++ b ∷ bs) ∷ []) (append-nil (encode c)) ∙ sym (some_node c (b ∷ bs))

pub text_content : (binds : List Bind) (cs : List ℕ) (at : ℕ) → IsContent binds at (map text_token cs) (text_nodes (encode_utf8_all cs))
text_content binds [] at = Trees.nothing
text_content binds (c ∷ cs) at =
    let later = text_nodes (encode_utf8_all cs) in
    Trees.piece later (text_token_is_no_tag c) (text_content binds cs _)
    (sym (ap (λ z. with_text z later) (text_token_read (map text_token cs) c) ∙ one_more c (encode_utf8_all cs)))
