-- The values that are said: each is of its kind, of XML's characters, and is read back.
use Rattle.std.proofs.Common.{◌≡◌, ◌≢◌, ◌≤◌, ◌<◌, ◌^◌, inl, inr, ℕ, Bool, true, false, ◌||◌, if◌then◌else◌, List, [], ◌∷◌, ◌++◌, length, Some, None, refl, sym, ap, ap₂, subst, ◌∙◌, append_assoc, append-nil, arith, rules, ⊎_elim}
use Rattle.std.specs.Prelude.{All, IsTrue, codes, decimal, nat_le, nat_lt}
use Rattle.std.specs.Char.{is_ascii_digit}
use Rattle.std.specs.List.{flat_map, list_all, list_any}
use Rattle.std.specs.Str.{encode_utf8_all}
use Rattle.std.specs.Str.Parse.{digits_value}
use Rattle.std.proofs.Math.Utf8.{encode}
use Rattle.std.proofs.lemmas.Bool.{and_from, and_parts, both_ways, cases_lt, le-leb, lt-ltb, or_parts}
use Rattle.std.proofs.lemmas.Bool.Decides.{nat_tests}
use Rattle.std.proofs.lemmas.Fmt.{decimal_is_IsNumeral, decimal_nonempty, digits_decimal, length-decimal-le}
use Rattle.std.proofs.lemmas.List.Elements.{All-head, All-tail}
use Rattle.std.proofs.lemmas.List.Folds.{list_all-append}
use Rattle.std.proofs.lemmas.Str.{encode_ascii, encodes-append}
use Rattle.std.proofs.lemmas.Str.Parse.{IsNumeralModel, numerals_by_value}
use Rattle.std.specs.Cmp.Lexicographic.{same_text}
use Rattle.odd_tokens.proofs.Ascii.{ascii_legal, is_printable, ncname_legal}
use Rattle.odd_tokens.proofs.AttributesLexed.{ncname_chars, start_not_space}
use Rattle.odd_tokens.proofs.Characters.{all_weaker, some_encoded}
use Rattle.odd_tokens.specs.Characters.{IsLegal, IsNCName, is_char, is_name_char, is_ncname, is_space, is_within}
use Rattle.odd_tokens.specs.Lexing.{is_empty}
use Rattle.odd_text.specs.Same.{is_same}
use Rattle.rng_types.proofs.Spaced.{all_words, words_after}
use Rattle.rng_types.specs.Words.{ended, words_of}
use Rattle.odd_forms.specs.Form.{AreNames, IsAttributeName, Kind, Suits, are_digits, number_told}
use Rattle.odd_forms.specs.Form as kinds
use Rattle.odd_text.specs.Same.{is_among}
use Rattle.odd_emit.specs.Saying.{Value, a_greatest, a_name, a_number, a_text, a_word, joined, some_names, some_words, spaced, written}

-- Numbers

-- a number of nine digits at most
abbrev pub IsSmall : ℕ → Type 0
IsSmall n = n < 10 ^ 9

own : IsNumeralModel (λ ds. list_all is_ascii_digit ds ≡ true) (digits_value 10)
own = numerals_by_value _ (search rules)

all_digits : (n : ℕ) → IsSmall n → list_all is_ascii_digit (decimal n) ≡ true
all_digits n h = digits_decimal own n (omega arith)

pub decimal_digits : (n : ℕ) → IsSmall n → are_digits (decimal n) ≡ true
decimal_digits n h =
    let some : 0 < length (decimal n) = decimal_nonempty n (omega arith) in
    let few : length (decimal n) ≤ 9 = length-decimal-le 9 n (omega arith) (omega arith) (omega arith) in
    and_from (nat_lt 0 (length (decimal n))) _ (lt-ltb 0 _ some) (and_from (nat_le (length (decimal n)) 9) (list_all is_ascii_digit (decimal n)) (le-leb _ 9 few) (all_digits n h))

pub number_back : (n : ℕ) → IsSmall n → number_told (Some (decimal n)) ≡ Some n
number_back n h =
    ap (λ b. if b then Some (digits_value 10 (decimal n)) else None) (decimal_digits n h) ∙ ap (λ m. Some m) (decimal_is_IsNumeral n (omega arith)).1

-- a number is not `unbounded`
pub no_word : (n : ℕ) → IsSmall n → is_same (decimal n) (codes "unbounded") ≡ true → ⊥
no_word n h e = both_ways (list_all is_ascii_digit (codes "unbounded")) refl (subst (λ ds. list_all is_ascii_digit ds ≡ true) (same_text (decimal n) (codes "unbounded") (sym e)) (all_digits n h))

-- Words

-- a text of XML's characters that is not empty and has no white space
pub record IsWord (w : List ℕ) : Type 0 where
  pub legal : IsLegal w
  pub filled : w ≢ []
  pub unspaced : list_any is_space w ≡ false

pub over : (begun bytes rest : List ℕ) → list_any is_space bytes ≡ false → words_after begun (bytes ++ rest) ≡ words_after (begun ++ bytes) rest
over begun [] rest h = ap (λ x. words_after x rest) (sym (append-nil begun))
over begun (c ∷ cs) rest h =
    let k = or_parts (is_space c) (list_any is_space cs) h in
    ap (λ b. if b then ended begun (words_after [] (cs ++ rest)) else words_after (begun ++ c ∷ []) (cs ++ rest)) k.0 ∙ over (begun ++ c ∷ []) cs rest k.1
    ∙ ap (λ x. words_after x rest) (append_assoc begun (c ∷ []) cs)

pub ended_some : (w : List ℕ) (later : List (List ℕ)) → w ≢ [] → ended w later ≡ w ∷ later
ended_some [] later some = absurd (some refl)
ended_some (c ∷ cs) later some = refl

words_more : (w : List ℕ) (ws : List (List ℕ)) → IsWord w → All IsWord ws → words_after w (flat_map spaced ws) ≡ w ∷ ws
words_more w [] k h = ended_some w [] k.filled
words_more w (v ∷ ws) k h =
    let n = All-head IsWord v ws h in
    ended_some w _ k.filled ∙ ap (λ vs. w ∷ vs) (over [] v (flat_map spaced ws) n.unspaced ∙ words_more v ws n (All-tail IsWord v ws h))

pub words_back : (ws : List (List ℕ)) → All IsWord ws → words_of (joined ws) ≡ ws
words_back [] h = refl
words_back (w ∷ ws) h =
    let k = All-head IsWord w ws h in
    sym (all_words (joined (w ∷ ws))) ∙ over [] w (flat_map spaced ws) k.unspaced ∙ words_more w ws k (All-tail IsWord w ws h)

-- no byte of a name is white space
high_bytes : (c : ℕ) → 128 ≤ c → list_any is_space (encode c) ≡ false
unfolding encode
high_bytes c h = grind (arith, nat_tests)

name_low : (c : ℕ) → is_name_char c ≡ true → is_space c ≡ false
unfolding is_name_char
name_low c h = grind (arith, nat_tests, start_not_space)

name_bytes : (c : ℕ) → is_name_char c ≡ true → list_any is_space (encode c) ≡ false
name_bytes c h = ⊎_elim (λ low. rw (encode_ascii c low) (rw (name_low c h) refl)) (high_bytes c) (cases_lt c 128)

pub any_append : (p : ℕ → Bool) (xs ys : List ℕ) → list_any p xs ≡ false → list_any p ys ≡ false → list_any p (xs ++ ys) ≡ false
any_append p [] ys h k = k
any_append p (x ∷ xs) ys h k = let o = or_parts (p x) (list_any p xs) h in ap (λ b. b || list_any p (xs ++ ys)) o.0 ∙ any_append p xs ys o.1 k

names_bytes : (cs : List ℕ) → list_all is_name_char cs ≡ true → list_any is_space (encode_utf8_all cs) ≡ false
names_bytes [] h = refl
names_bytes (c ∷ cs) h = let k = and_parts (is_name_char c) (list_all is_name_char cs) h in any_append is_space (encode c) (encode_utf8_all cs) (name_bytes c k.0) (names_bytes cs k.1)

some_name : (cs : List ℕ) → is_ncname cs ≡ true → encode_utf8_all cs ≢ []
some_name [] h = absurd (both_ways false refl h)
some_name (c ∷ cs) h = λ e. both_ways (is_empty (encode_utf8_all (c ∷ cs))) (some_encoded c cs) (ap is_empty e)

-- a name is a word
pub name_word : (w : List ℕ) → IsNCName w → IsWord w
name_word w n = record {
  legal = ncname_legal w n;
  filled = λ e. some_name n.0 n.2 (n.1 ∙ e);
  unspaced = subst (λ x. list_any is_space x ≡ false) n.1 (names_bytes n.0 (ncname_chars n.0 n.2));
}

pub names_words : (ws : List (List ℕ)) → All IsNCName ws → All IsWord ws
names_words ws h = λ k d l. name_word _ (h k d l)

-- the text of words is of XML's characters
pub legal_both : (a b : List ℕ) → IsLegal a → IsLegal b → IsLegal (a ++ b)
legal_both a b p q = (p.0 ++ q.0, encodes-append p.0 q.0 ∙ ap₂ (λ (x y : List ℕ). x ++ y) p.1 q.1, list_all-append is_char p.0 q.0 ∙ and_from (list_all is_char p.0) (list_all is_char q.0) p.2 q.2)

after_legal : (ws : List (List ℕ)) → All IsWord ws → IsLegal (flat_map spaced ws)
after_legal [] h = ([], refl, refl)
after_legal (w ∷ ws) h =
    legal_both (spaced w) (flat_map spaced ws) (legal_both (codes " ") w (ascii_legal (codes " ") refl) (All-head IsWord w ws h).legal) (after_legal ws (All-tail IsWord w ws h))

pub joined_legal : (ws : List (List ℕ)) → All IsWord ws → IsLegal (joined ws)
joined_legal [] h = ([], refl, refl)
joined_legal (w ∷ ws) h = legal_both w _ (All-head IsWord w ws h).legal (after_legal ws (All-tail IsWord w ws h))

-- and so is the name of an attribute
pub attribute_word : (name : List ℕ) → IsAttributeName name → IsWord name
attribute_word name (IsAttributeName.plain n) = name_word name n
attribute_word name (IsAttributeName.of_xml local e n) =
    let w = name_word local n in
    subst IsWord (sym e) (record { legal = legal_both (codes "xml:") local (ascii_legal (codes "xml:") refl) w.legal; filled = λ none. cc; unspaced = w.unspaced })

-- Values

-- a value that is said of an attribute of the kind is right, and no other is
abbrev pub IsFormedFor : Kind → Value → Type 0
IsFormedFor kinds.name (a_name name) = IsNCName name
IsFormedFor kinds.names (some_names names) = AreNames names
IsFormedFor kinds.any_names (some_names names) = All IsNCName names
IsFormedFor kinds.digits (a_number n) = IsSmall n
IsFormedFor kinds.count (a_greatest None) = Unit {0}
IsFormedFor kinds.count (a_greatest (Some n)) = IsSmall n
IsFormedFor kinds.attribute_name (a_name name) = IsAttributeName name
IsFormedFor kinds.filled (a_text text) = IsLegal text × (words_of text ≢ [])
IsFormedFor kinds.text (a_text text) = IsLegal text
IsFormedFor kinds.text (a_name name) = IsNCName name
IsFormedFor kinds.text (some_words words) = All IsWord words
IsFormedFor (kinds.one_of words) (a_word word) = IsTrue (is_among words word) × IsTrue (is_printable word)
IsFormedFor kind value = ⊥

-- it is of that kind
pub value_suits : (k : Kind) (v : Value) → IsFormedFor k v → Suits k (written v)
value_suits kinds.name (a_name name) f = f
value_suits kinds.names (some_names names) f =
    let e : words_of (joined names) ≡ names = words_back names (names_words names f.named) in
    record { some = λ none. f.some (sym e ∙ none); named = subst (All IsNCName) (sym e) f.named }
value_suits kinds.any_names (some_names names) f = subst (All IsNCName) (sym (words_back names (names_words names f))) f
value_suits kinds.digits (a_number n) f = decimal_digits n f
value_suits kinds.count (a_greatest None) f = inr refl
value_suits kinds.count (a_greatest (Some n)) f = inl (decimal_digits n f)
value_suits kinds.attribute_name (a_name name) f = f
value_suits kinds.filled (a_text text) f = f.1
value_suits kinds.text (a_text text) f = tt
value_suits kinds.text (a_name name) f = tt
value_suits kinds.text (some_words words) f = tt
value_suits (kinds.one_of words) (a_word word) f = f.0
value_suits _ _ f = absurd f

-- and is of XML's characters
digit_printable : (c : ℕ) → is_ascii_digit c ≡ true → is_within 0x20 0x7E c ≡ true
digit_printable c h = grind (arith, nat_tests)

decimal_legal : (n : ℕ) → IsSmall n → IsLegal (decimal n)
decimal_legal n h = ascii_legal (decimal n) (all_weaker is_ascii_digit (λ c. is_within 0x20 0x7E c) digit_printable (decimal n) (all_digits n h))

pub value_legal : (k : Kind) (v : Value) → IsFormedFor k v → IsLegal (written v)
value_legal kinds.name (a_name name) f = ncname_legal name f
value_legal kinds.names (some_names names) f = joined_legal names (names_words names f.named)
value_legal kinds.any_names (some_names names) f = joined_legal names (names_words names f)
value_legal kinds.digits (a_number n) f = decimal_legal n f
value_legal kinds.count (a_greatest None) f = ascii_legal (codes "unbounded") refl
value_legal kinds.count (a_greatest (Some n)) f = decimal_legal n f
value_legal kinds.attribute_name (a_name name) f = (attribute_word name f).legal
value_legal kinds.filled (a_text text) f = f.0
value_legal kinds.text (a_text text) f = f
value_legal kinds.text (a_name name) f = ncname_legal name f
value_legal kinds.text (some_words words) f = joined_legal words f
value_legal (kinds.one_of words) (a_word word) f = ascii_legal word f.1
value_legal _ _ f = absurd f
