-- What was read of a name and of a value in a tag.
use Rattle.std.proofs.Common.{◌≡◌, ℕ, true, List, [], ◌∷◌, ◌++◌, sym, refl, ap, ◌∙◌, append_assoc, append-nil, codes, Bool, false, ◌&&◌, ◌==◌, if◌then◌else◌}
use Rattle.std.proofs.lemmas.Bool.{and_from, eqb-true, false≢true}
use Rattle.std.specs.Prelude.{encode_utf8}
use Rattle.std.specs.Str.{encode_utf8_all}
use Rattle.odd_tokens.proofs.Characters.{ncname_more, encoded_more}
use Rattle.odd_tokens.specs.Characters.{is_name_start, is_name_char, is_ncname, is_space}
use Rattle.odd_tokens.specs.Making.{name_made}
use Rattle.odd_tokens.specs.Tokens.{QName, IsQName, name_written, Piece, itself, reference, reference_written, character_of, value_written}
use Rattle.odd_tokens.specs.Values.{value_read}
use Rattle.odd_tokens.specs.declared.lexer.NamePart.{NamePart}
use Rattle.odd_tokens.specs.declared.lexer.NamePart.TheVariants as part
use Rattle.odd_tokens.specs.declared.token.WrittenName.{WrittenName}

pub ncname_first : (c : ℕ) → is_name_start c ≡ true → is_ncname (c ∷ []) ≡ true
ncname_first c h = and_from _ _ h refl

pub encoded_one : (c : ℕ) → encode_utf8 c ≡ encode_utf8_all (c ∷ [])
encoded_one c = sym (append-nil (encode_utf8 c))

-- the first part of a name, which is the prefix where a colon comes
pub record IsFirst (read : List ℕ) (n : WrittenName) : Type 0 where
  pub is_part : is_ncname read ≡ true
  pub no_prefix : n.prefix ≡ []
  pub local : n.local ≡ encode_utf8_all read

-- a prefix and its colon
pub record IsPrefix (read : List ℕ) (n : WrittenName) : Type 0 where
  pub first : List ℕ
  pub is_part : is_ncname first ≡ true
  pub is_read : read ≡ first ++ codes ":"
  pub prefix : n.prefix ≡ encode_utf8_all first
  pub no_local : n.local ≡ []

-- and what was read of the local part after it
pub record IsLocal (read : List ℕ) (n : WrittenName) : Type 0 where
  pub first : List ℕ
  pub second : List ℕ
  pub is_prefix : is_ncname first ≡ true
  pub is_part : is_ncname second ≡ true
  pub is_read : read ≡ first ++ codes ":" ++ second
  pub prefix : n.prefix ≡ encode_utf8_all first
  pub local : n.local ≡ encode_utf8_all second

abbrev pub IsNamed : NamePart → List ℕ → WrittenName → Type 0
IsNamed part.Begins read n = ⊥
IsNamed part.First read n = IsFirst read n
IsNamed part.LocalBegins read n = IsPrefix read n
IsNamed part.Local read n = IsLocal read n

-- the whole name
pub record IsWholeName (read : List ℕ) (n : WrittenName) : Type 0 where
  pub name : QName
  pub is_name : IsQName name
  pub is_read : read ≡ name_written name
  pub is_made : n ≡ name_made name

pub name_begun : (c : ℕ) (n : WrittenName) → is_name_start c ≡ true → n.prefix ≡ [] → n.local ≡ encode_utf8 c → IsFirst (c ∷ []) n
name_begun c n h e f = record { is_part = ncname_first c h; no_prefix = e; local = f ∙ encoded_one c }

pub first_more : (read : List ℕ) (c : ℕ) (n : WrittenName) → is_name_char c ≡ true → IsFirst read n → IsFirst (read ++ c ∷ []) (record n { local = n.local ++ encode_utf8 c })
first_more read c n h i = record {
  is_part = ncname_more read c i.is_part h;
  no_prefix = i.no_prefix;
  local = ap (λ z. z ++ encode_utf8 c) i.local ∙ sym (encoded_more read c);
}

pub colon_comes : (read : List ℕ) (n : WrittenName) → IsFirst read n → IsPrefix (read ++ 0x3A ∷ []) (record { prefix = n.local; local = [] })
colon_comes read n i = record { first = read; is_part = i.is_part; is_read = refl; prefix = i.local; no_local = refl }

pub local_begins : (read : List ℕ) (c : ℕ) (n : WrittenName) → is_name_start c ≡ true → IsPrefix read n → IsLocal (read ++ c ∷ []) (record n { local = n.local ++ encode_utf8 c })
local_begins read c n h i = record {
  first = i.first;
  second = c ∷ [];
  is_prefix = i.is_part;
  is_part = ncname_first c h;
  is_read = ap (λ z. z ++ c ∷ []) i.is_read;
  prefix = i.prefix;
  local = ap (λ z. z ++ encode_utf8 c) i.no_local ∙ encoded_one c;
}

pub local_more : (read : List ℕ) (c : ℕ) (n : WrittenName) → is_name_char c ≡ true → IsLocal read n → IsLocal (read ++ c ∷ []) (record n { local = n.local ++ encode_utf8 c })
local_more read c n h i = record {
  first = i.first;
  second = i.second ++ c ∷ [];
  is_prefix = i.is_prefix;
  is_part = ncname_more i.second c i.is_part h;
  is_read = ap (λ z. z ++ c ∷ []) i.is_read ∙ append_assoc (i.first ++ codes ":") i.second (c ∷ []);
  prefix = i.prefix;
  local = ap (λ z. z ++ encode_utf8 c) i.local ∙ sym (encoded_more i.second c);
}

-- where the name ends

pub first_ends : (read : List ℕ) (n : WrittenName) → IsFirst read n → IsWholeName read n
first_ends read n i = record {
  name = record { prefix = []; local = read };
  is_name = (refl, i.is_part);
  is_read = refl;
  is_made = λ j. record { prefix = i.no_prefix j; local = i.local j };
}

prefixed : (first second : List ℕ) → is_ncname first ≡ true → is_ncname second ≡ true
    → let n : QName = record { prefix = first; local = second } in IsQName n × (first ++ codes ":" ++ second ≡ name_written n)
prefixed [] second a b = cc
prefixed (c ∷ cs) second a b = ((a, b), refl)

pub local_ends : (read : List ℕ) (n : WrittenName) → IsLocal read n → IsWholeName read n
local_ends read n i =
    let whole = prefixed i.first i.second i.is_prefix i.is_part in
    record {
      name = record { prefix = i.first; local = i.second };
      is_name = whole.0;
      is_read = i.is_read ∙ whole.1;
      is_made = λ j. record { prefix = i.prefix j; local = i.local j };
    }

-- a piece that stands last
abbrev pub last_read : Piece → ℕ
last_read (itself c) = if is_space c then 0x20 else c
last_read (reference r) = character_of r

-- a carriage return stands last
abbrev pub ends_in_return : List Piece → Bool
ends_in_return [] = false
ends_in_return (itself c ∷ []) = c == 0xD
ends_in_return (reference r ∷ []) = false
ends_in_return (p ∷ q ∷ ps) = ends_in_return (q ∷ ps)

abbrev pub is_line_feed : Piece → Bool
is_line_feed (itself c) = c == 0xA
is_line_feed (reference r) = false

pub return_last : (ps : List Piece) (p : Piece) → ends_in_return (ps ++ p ∷ []) ≡ ends_in_return (p ∷ [])
return_last [] p = refl
return_last (q ∷ []) p = refl
return_last (q ∷ r ∷ ps) p = return_last (r ∷ ps) p

-- what is written, with one more piece
pub written_more : (ps : List Piece) (p : Piece) → value_written (ps ++ p ∷ []) ≡ value_written ps ++ value_written (p ∷ [])
written_more [] p = refl
written_more (itself c ∷ ps) p = ap (λ z. c ∷ z) (written_more ps p)
written_more (reference r ∷ ps) p =
    ap (λ z. reference_written r ++ z) (written_more ps p) ∙ sym (append_assoc (reference_written r) (value_written ps) (value_written (p ∷ [])))

pub one_read : (p : Piece) → value_read (p ∷ []) ≡ last_read p ∷ []
one_read (itself c) = drops (c == 0xD)
  where
    drops : (b : Bool) → (if b && false then [] else (last_read (itself c) ∷ [])) ++ [] ≡ last_read (itself c) ∷ []
    drops true = refl
    drops false = refl
one_read (reference r) = refl

-- a carriage return before another piece than a line feed
kept_return : (c : ℕ) (p : Piece) → (c == 0xD && is_line_feed p) ≡ false → value_read (itself c ∷ p ∷ []) ≡ last_read (itself c) ∷ value_read (p ∷ [])
kept_return c (itself d) h = rw h refl
kept_return c (reference r) h = rw h refl

-- what is read, with one more piece that stands after no carriage return or is no line feed
pub read_more : (ps : List Piece) (p : Piece) → (ends_in_return ps && is_line_feed p) ≡ false → value_read (ps ++ p ∷ []) ≡ value_read ps ++ last_read p ∷ []
read_more [] p h = one_read p
read_more (itself c ∷ []) p h = kept_return c p h ∙ ap (λ z. last_read (itself c) ∷ z) (one_read p) ∙ ap (λ z. z ++ last_read p ∷ []) (sym (one_read (itself c)))
read_more (reference r ∷ []) p h = ap (λ z. character_of r ∷ z) (one_read p)
read_more (reference r ∷ q ∷ ps) p h = ap (λ z. character_of r ∷ z) (read_more (q ∷ ps) p h)
read_more (itself c ∷ itself d ∷ ps) p h =
    let e = if c == 0xD && d == 0xA then [] else (last_read (itself c) ∷ []) in
    ap (λ z. e ++ z) (read_more (itself d ∷ ps) p h) ∙ sym (append_assoc e (value_read (itself d ∷ ps)) (last_read p ∷ []))
read_more (itself c ∷ reference r ∷ ps) p h =
    let e = if c == 0xD && false then [] else (last_read (itself c) ∷ []) in
    ap (λ z. e ++ z) (read_more (reference r ∷ ps) p h) ∙ sym (append_assoc e (value_read (reference r ∷ ps)) (last_read p ∷ []))

-- a line feed after a carriage return adds nothing
pub feed_after_return : (ps : List Piece) → ends_in_return ps ≡ true → value_read (ps ++ itself 0xA ∷ []) ≡ value_read ps
feed_after_return [] h = absurd (false≢true h)
feed_after_return (itself c ∷ []) h = let e : c ≡ 0xD = eqb-true c 0xD h in rw e refl
feed_after_return (reference r ∷ []) h = absurd (false≢true h)
feed_after_return (reference r ∷ q ∷ ps) h = ap (λ z. character_of r ∷ z) (feed_after_return (q ∷ ps) h)
feed_after_return (itself c ∷ itself d ∷ ps) h =
    ap (λ z. (if c == 0xD && d == 0xA then [] else (last_read (itself c) ∷ [])) ++ z) (feed_after_return (itself d ∷ ps) h)
feed_after_return (itself c ∷ reference r ∷ ps) h =
    ap (λ z. (if c == 0xD && false then [] else (last_read (itself c) ∷ [])) ++ z) (feed_after_return (reference r ∷ ps) h)

-- the same of the bytes
pub bytes_more : (ps : List Piece) (p : Piece) → (ends_in_return ps && is_line_feed p) ≡ false
    → encode_utf8_all (value_read (ps ++ p ∷ [])) ≡ encode_utf8_all (value_read ps) ++ encode_utf8 (last_read p)
bytes_more ps p h = ap encode_utf8_all (read_more ps p h) ∙ encoded_more (value_read ps) (last_read p)
