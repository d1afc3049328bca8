-- What was read of a text, a comment and an end tag.
use Rattle.std.proofs.Common.{◌≡◌, ℕ, Bool, true, false, ◌&&◌, ◌==◌, if◌then◌else◌, List, [], ◌∷◌, ◌++◌, sym, refl, ap, ◌∙◌, append_assoc, append-nil, encode_utf8, subst, ⊎_elim, ◌≢◌, ◌⊎◌, inl, inr, codes}
use Rattle.std.proofs.Math.Utf8.{encode}
use Rattle.std.proofs.lemmas.Bool.{eqb-true, cases_Bool, eqb-false, and_from}
use Rattle.std.proofs.lemmas.List.{same_from_push}
use Rattle.std.specs.List.{list_all}
use Rattle.std.specs.Str.{encode_utf8_all}
use Rattle.odd_tokens.proofs.Characters.{list_all_more, ncname_more, encoded_more}
use Rattle.odd_tokens.proofs.LexedSteps.{IsRead}
use Rattle.odd_tokens.specs.Characters.{is_char, is_space, is_name_start, is_name_char, is_ncname, is_white}
use Rattle.odd_tokens.specs.Lexing.{no_name}
use Rattle.odd_tokens.specs.Lines.{lines_read}
use Rattle.odd_tokens.specs.Making.{name_made}
use Rattle.odd_tokens.specs.Tokens.{LacksPart, comment, QName, IsQName, name_written, end_tag}
use Rattle.odd_tokens.specs.declared.lexer.NamePart.{NamePart}
use Rattle.odd_tokens.specs.declared.lexer.NamePart.TheVariants as part
use Rattle.odd_tokens.specs.declared.token.Token.TheVariants as token
use Rattle.odd_tokens.specs.declared.token.WrittenName.{WrittenName}

-- what a character gives, after CR or another
abbrev pub one_read : Bool → ℕ → List ℕ
one_read after_return c = if c == 0xA && after_return then [] else (if c == 0xD then 0xA ∷ [] else c ∷ [])

-- the lines of a text from left to right: CR gives LF at once, and an LF after it nothing
abbrev pub lines_seen : Bool → List ℕ → List ℕ
lines_seen after_return [] = []
lines_seen after_return (c ∷ cs) = one_read after_return c ++ lines_seen (c == 0xD) cs

abbrev pub ends_in_return : Bool → List ℕ → Bool
ends_in_return after_return [] = after_return
ends_in_return after_return (c ∷ cs) = ends_in_return (c == 0xD) cs

pub seen_push : (r : Bool) (cs : List ℕ) (c : ℕ) → lines_seen r (cs ++ c ∷ []) ≡ lines_seen r cs ++ one_read (ends_in_return r cs) c
seen_push r [] c = append-nil (one_read r c)
seen_push r (d ∷ ds) c = ap (λ x. one_read r d ++ x) (seen_push (d == 0xD) ds c) ∙ sym (append_assoc (one_read r d) (lines_seen (d == 0xD) ds) (one_read (ends_in_return (d == 0xD) ds) c))

pub return_push : (r : Bool) (cs : List ℕ) (c : ℕ) → ends_in_return r (cs ++ c ∷ []) ≡ (c == 0xD)
return_push r [] c = refl
return_push r (d ∷ ds) c = return_push (d == 0xD) ds c

at_line_end : (P : ℕ → Type 0) → P 0xA → P 0xD → ((c : ℕ) → (c == 0xA) ≡ false → (c == 0xD) ≡ false → P c) → (c : ℕ) → P c
at_line_end P feed return other c =
    ⊎_elim (λ e. subst P (sym (eqb-true c 0xA e)) feed) (λ e. ⊎_elim (λ f. subst P (sym (eqb-true c 0xD f)) return) (λ f. other c e f) (cases_Bool (c == 0xD))) (cases_Bool (c == 0xA))

pub seen_lines : (cs : List ℕ) → (lines_seen false cs ≡ lines_read cs) × (0xA ∷ lines_seen true cs ≡ lines_read (0xD ∷ cs))
seen_lines [] = (refl, refl)
seen_lines (c ∷ cs) =
    at_line_end (λ c. (lines_seen false (c ∷ cs) ≡ lines_read (c ∷ cs)) × (0xA ∷ lines_seen true (c ∷ cs) ≡ lines_read (0xD ∷ c ∷ cs)))
    (ap (λ x. 0xA ∷ x) (seen_lines cs).0, ap (λ x. 0xA ∷ x) (seen_lines cs).0)
    ((seen_lines cs).1, ap (λ x. 0xA ∷ x) (seen_lines cs).1)
    (λ c e f. (rw (e, f) (ap (λ x. c ∷ x) (seen_lines cs).0), rw (e, f) (ap (λ x. 0xA ∷ c ∷ x) (seen_lines cs).0))) c

-- the bytes that a character gives
abbrev pub piece_kept : Bool → ℕ → List ℕ
piece_kept r c = if c == 0xA && r then [] else (if c == 0xD then 0xA ∷ [] else encode_utf8 c)

pub piece_encoded : (r : Bool) (c : ℕ) → piece_kept r c ≡ encode_utf8_all (one_read r c)
unfolding encode
piece_encoded r c = sym (encoded (c == 0xA && r) (c == 0xD))
  where
    encoded : (skips returns : Bool)
        → encode_utf8_all (if skips then [] else (if returns then 0xA ∷ [] else c ∷ [])) ≡ (if skips then [] else (if returns then 0xA ∷ [] else encode_utf8 c))
    encoded true d = refl
    encoded false true = refl
    encoded false false = append-nil (encode_utf8 c)

-- a text ends in nothing or in a character
pub last_of : (xs : List ℕ) → (xs ≡ []) ⊎ ((front : List ℕ) × (z : ℕ) × (xs ≡ front ++ z ∷ []))
last_of [] = inl refl
last_of (x ∷ xs) = inr (⊎_elim nothing something (last_of xs))
  where
    nothing : xs ≡ [] → (front : List ℕ) × (z : ℕ) × (x ∷ xs ≡ front ++ z ∷ [])
    nothing e = ([], x, ap (λ l. x ∷ l) e)

    something : (front : List ℕ) × (z : ℕ) × (xs ≡ front ++ z ∷ []) → (front : List ℕ) × (z : ℕ) × (x ∷ xs ≡ front ++ z ∷ [])
    something f = (x ∷ f.0, f.1, ap (λ l. x ∷ l) f.2)

abbrev pub NotAtEnd : List ℕ → List ℕ → Type 0
NotAtEnd part text = (front : List ℕ) → text ≢ front ++ part

pub other_last : (text : List ℕ) (c n : ℕ) → c ≢ n → NotAtEnd (n ∷ []) (text ++ c ∷ [])
other_last text c n h front e = h (same_from_push text front c n e).1

none_in_empty : (c : ℕ) (cs : List ℕ) → LacksPart (c ∷ cs) []
none_in_empty c cs [] after e = cc
none_in_empty c cs (b ∷ bs) after e = cc

pub nothing_last : (n : ℕ) → NotAtEnd (n ∷ []) []
nothing_last n front e = none_in_empty n [] front [] (e ∙ sym (append-nil (front ++ n ∷ [])))

-- a part is not met with one more character, unless that ends it
lacks_push : (part : List ℕ) (n : ℕ) (text : List ℕ) (c : ℕ) → LacksPart (part ++ n ∷ []) text → (c ≡ n → NotAtEnd part text) → LacksPart (part ++ n ∷ []) (text ++ c ∷ [])
lacks_push part n text c h ends before after e = ⊎_elim none some (last_of after)
  where
    none : after ≡ [] → ⊥
    none f =
        let g : text ++ c ∷ [] ≡ (before ++ part) ++ n ∷ [] =
        e ∙ ap (λ a. before ++ (part ++ n ∷ []) ++ a) f ∙ append-nil (before ++ (part ++ n ∷ [])) ∙ sym (append_assoc before part (n ∷ [])) in
        let s = same_from_push text (before ++ part) c n g in
        ends s.1 before s.0

    some : (front : List ℕ) × (z : ℕ) × (after ≡ front ++ z ∷ []) → ⊥
    some f =
        let g : text ++ c ∷ [] ≡ (before ++ (part ++ n ∷ []) ++ f.0) ++ f.1 ∷ [] =
        e ∙ ap (λ a. before ++ (part ++ n ∷ []) ++ a) f.2 ∙ sym (append_assoc (before ++ (part ++ n ∷ [])) f.0 (f.1 ∷ [])) in
        h before f.0 (same_from_push text (before ++ (part ++ n ∷ []) ++ f.0) c f.1 g).0

-- characters of XML in which the mark that is to end them, `part` and then `n`, is not met
pub record Unended (part : List ℕ) (n : ℕ) (text : List ℕ) : Type 0 where
  pub legal : list_all is_char text ≡ true
  pub lacks : LacksPart (part ++ n ∷ []) text

pub none_yet : (c : ℕ) (cs : List ℕ) (n : ℕ) → Unended (c ∷ cs) n []
none_yet c cs n = record { legal = refl; lacks = none_in_empty c (cs ++ n ∷ []) }

-- one more, where it does not end the mark
pub goes_on : (part : List ℕ) (n : ℕ) (text : List ℕ) (c : ℕ) → Unended part n text → is_char c ≡ true → (c ≡ n → NotAtEnd part text) → Unended part n (text ++ c ∷ [])
goes_on part n text c h legal apart = record { legal = list_all_more is_char text c h.legal legal; lacks = lacks_push part n text c h.lacks apart }

-- what a text lacks, its front lacks
pub lacks_front : (part text more : List ℕ) → LacksPart part (text ++ more) → LacksPart part text
lacks_front part text more h before after e = h before (after ++ more) (ap (λ x. x ++ more) e ∙ append_assoc (before ++ part) after more)

abbrev dashes_read : ℕ → List ℕ
dashes_read dashes = if dashes == 0 then [] else (if dashes == 1 then codes "-" else codes "--")

pub record InComment (dashes : ℕ) (read : List ℕ) : Type 0 where
  pub text : List ℕ
  pub is_read : read ≡ codes "<!--" ++ text ++ dashes_read dashes
  pub unended : Unended (codes "-") 0x2D text
  pub ended : NotAtEnd (codes "-") text

pub comment_begins : (read : List ℕ) → read ≡ codes "<!--" → InComment 0 read
comment_begins read e = record {
  text = [];
  is_read = e;
  unended = none_yet 0x2D [] 0x2D;
  ended = nothing_last 0x2D;
}

-- a dash, and a second one
pub comment_dash : (read : List ℕ) → InComment 0 read → InComment 1 (read ++ codes "-")
comment_dash read h = record { text = h.text; is_read = ap (λ x. x ++ codes "-") h.is_read ∙ simp append_assoc; unended = h.unended; ended = h.ended }

pub comment_dashes : (read : List ℕ) → InComment 1 read → InComment 2 (read ++ codes "-")
comment_dashes read h = record { text = h.text; is_read = ap (λ x. x ++ codes "-") h.is_read ∙ simp append_assoc; unended = h.unended; ended = h.ended }

-- another character, after no dash and after one
another : (read text : List ℕ) (c : ℕ) → is_char c ≡ true → (c == 0x2D) ≡ false → read ≡ codes "<!--" ++ text → Unended (codes "-") 0x2D text → InComment 0 (read ++ c ∷ [])
another read text c legal other e h = record {
  text = text ++ c ∷ [];
  is_read = ap (λ x. x ++ c ∷ []) e ∙ simp append-nil;
  unended = goes_on (codes "-") 0x2D text c h legal (λ f. absurd (eqb-false c 0x2D other f));
  ended = other_last text c 0x2D (eqb-false c 0x2D other);
}

pub comment_goes_on : (read : List ℕ) (c : ℕ) → is_char c ≡ true → (c == 0x2D) ≡ false → InComment 0 read → InComment 0 (read ++ c ∷ [])
comment_goes_on read c legal other h = another read h.text c legal other (h.is_read ∙ append-nil (codes "<!--" ++ h.text)) h.unended

pub comment_goes_past : (read : List ℕ) (c : ℕ) → is_char c ≡ true → (c == 0x2D) ≡ false → InComment 1 read → InComment 0 (read ++ c ∷ [])
unfolding is_char
comment_goes_past read c legal other h = another read (h.text ++ codes "-") c legal other h.is_read (goes_on (codes "-") 0x2D h.text 0x2D h.unended refl (λ _. h.ended))

pub comment_ends : (at : ℕ) (read : List ℕ) → InComment 2 read → IsRead at (read ++ codes ">") token.Passed
comment_ends at read h = record {
  token = comment h.text;
  is_lexed = (h.unended.legal, h.unended.lacks, h.ended);
  is_written = sym (ap (λ x. x ++ codes ">") h.is_read ∙ simp append_assoc);
  is_made = refl;
}

abbrev pub name_of : List ℕ → List ℕ → WrittenName
name_of prefix local = record { prefix = prefix; local = local }

pub record InFirst (read : List ℕ) (name : WrittenName) : Type 0 where
  pub local : List ℕ
  pub is_read : read ≡ codes "</" ++ local
  pub is_local : is_ncname local ≡ true
  pub is_name : name ≡ name_of [] (encode_utf8_all local)

pub record AfterColon (read : List ℕ) (name : WrittenName) : Type 0 where
  pub prefix : List ℕ
  pub is_read : read ≡ codes "</" ++ prefix ++ codes ":"
  pub is_prefix : is_ncname prefix ≡ true
  pub is_name : name ≡ name_of (encode_utf8_all prefix) []

pub record InLocal (read : List ℕ) (name : WrittenName) : Type 0 where
  pub prefix : List ℕ
  pub local : List ℕ
  pub is_read : read ≡ codes "</" ++ prefix ++ codes ":" ++ local
  pub is_prefix : is_ncname prefix ≡ true
  pub is_local : is_ncname local ≡ true
  pub is_name : name ≡ name_of (encode_utf8_all prefix) (encode_utf8_all local)

-- the name, by its part
abbrev pub InEndName : NamePart → (read : List ℕ) → WrittenName → Type 0
InEndName part.Begins read name = (read ≡ codes "</") × (name ≡ no_name)
InEndName part.First read name = InFirst read name
InEndName part.LocalBegins read name = AfterColon read name
InEndName part.Local read name = InLocal read name

abbrev pub longer : WrittenName → ℕ → WrittenName
longer name c = record name { local = name.local ++ encode_utf8 c }

longer_is : (name : WrittenName) (prefix local : List ℕ) (c : ℕ) → name ≡ name_of prefix (encode_utf8_all local)
    → longer name c ≡ name_of prefix (encode_utf8_all (local ++ c ∷ []))
longer_is name prefix local c e = ap (λ n. longer n c) e ∙ ap (name_of prefix) (sym (encoded_more local c))

pub name_first : (read : List ℕ) (name : WrittenName) (c : ℕ) → is_name_start c ≡ true → InEndName part.Begins read name → InEndName part.First (read ++ c ∷ []) (longer name c)
name_first read name c h k = record { local = c ∷ []; is_read = ap (λ x. x ++ c ∷ []) k.0; is_local = and_from (is_name_start c) true h refl; is_name = longer_is name [] [] c k.1 }

pub first_goes_on : (read : List ℕ) (name : WrittenName) (c : ℕ) → is_name_char c ≡ true → InFirst read name → InFirst (read ++ c ∷ []) (longer name c)
first_goes_on read name c h k = record {
  local = k.local ++ c ∷ [];
  is_read = ap (λ x. x ++ c ∷ []) k.is_read;
  is_local = ncname_more k.local c k.is_local h;
  is_name = longer_is name [] k.local c k.is_name;
}

pub colon_follows : (read : List ℕ) (name : WrittenName) → InFirst read name → AfterColon (read ++ codes ":") (name_of name.local [])
colon_follows read name k = record {
  prefix = k.local;
  is_read = ap (λ x. x ++ codes ":") k.is_read;
  is_prefix = k.is_local;
  is_name = ap (λ (n : WrittenName). name_of n.local []) k.is_name;
}

pub local_first : (read : List ℕ) (name : WrittenName) (c : ℕ) → is_name_start c ≡ true → AfterColon read name → InLocal (read ++ c ∷ []) (longer name c)
local_first read name c h k = record {
  prefix = k.prefix;
  local = c ∷ [];
  is_read = ap (λ x. x ++ c ∷ []) k.is_read;
  is_prefix = k.is_prefix;
  is_local = and_from (is_name_start c) true h refl;
  is_name = longer_is name (encode_utf8_all k.prefix) [] c k.is_name;
}

pub local_goes_on : (read : List ℕ) (name : WrittenName) (c : ℕ) → is_name_char c ≡ true → InLocal read name → InLocal (read ++ c ∷ []) (longer name c)
local_goes_on read name c h k = record {
  prefix = k.prefix;
  local = k.local ++ c ∷ [];
  is_read = ap (λ x. x ++ c ∷ []) k.is_read ∙ append_assoc (codes "</" ++ k.prefix ++ codes ":") k.local (c ∷ []);
  is_prefix = k.is_prefix;
  is_local = ncname_more k.local c k.is_local h;
  is_name = longer_is name (encode_utf8_all k.prefix) k.local c k.is_name;
}

-- white space after the name
pub record AfterName (read : List ℕ) (name : WrittenName) : Type 0 where
  pub written : QName
  pub space : List ℕ
  pub is_read : read ≡ codes "</" ++ name_written written ++ space
  pub is_qname : IsQName written
  pub is_white : is_white space ≡ true
  pub is_name : name ≡ name_made written

pub first_ends : (read : List ℕ) (name : WrittenName) → InFirst read name → AfterName read name
first_ends read name k = record {
  written = record { prefix = []; local = k.local };
  space = [];
  is_read = k.is_read ∙ sym (append-nil (codes "</" ++ k.local));
  is_qname = (refl, k.is_local);
  is_white = refl;
  is_name = k.is_name;
}

pub local_ends : (read : List ℕ) (name : WrittenName) → InLocal read name → AfterName read name
local_ends read name k = ends k.prefix k.is_prefix k.is_read k.is_name
  where
    ends : (prefix : List ℕ) → is_ncname prefix ≡ true → read ≡ codes "</" ++ prefix ++ codes ":" ++ k.local
        → name ≡ name_of (encode_utf8_all prefix) (encode_utf8_all k.local) → AfterName read name
    ends [] h e f = cc
    ends (c ∷ cs) h e f = record {
      written = record { prefix = c ∷ cs; local = k.local };
      space = [];
      is_read = e ∙ sym (append-nil (codes "</" ++ (c ∷ cs) ++ codes ":" ++ k.local));
      is_qname = (h, k.is_local);
      is_white = refl;
      is_name = f;
    }

pub space_follows : (read : List ℕ) (name : WrittenName) (c : ℕ) → is_space c ≡ true → AfterName read name → AfterName (read ++ c ∷ []) name
space_follows read name c h k = record {
  written = k.written;
  space = k.space ++ c ∷ [];
  is_read = ap (λ x. x ++ c ∷ []) k.is_read ∙ append_assoc (codes "</" ++ name_written k.written) k.space (c ∷ []);
  is_qname = k.is_qname;
  is_white = list_all_more is_space k.space c k.is_white h;
  is_name = k.is_name;
}

pub end_tag_ends : (at : ℕ) (read : List ℕ) (name : WrittenName) → AfterName read name → IsRead at (read ++ codes ">") (token.End name)
end_tag_ends at read name k = record {
  token = end_tag k.written k.space;
  is_lexed = (k.is_qname, k.is_white);
  is_written = sym (ap (λ x. x ++ codes ">") k.is_read);
  is_made = ap (λ n. token.End n) k.is_name;
}
