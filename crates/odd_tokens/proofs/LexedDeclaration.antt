-- The lexer takes an XML declaration, and so each token, and gives what it makes.
use Rattle.std.proofs.Common.{◌≡◌, ◌≢◌, ℕ, Bool, true, false, ◌==◌, ◌||◌, List, [], ◌∷◌, ◌++◌, map, All, codes, refl, sym, ap, ◌∙◌, subst, arith, nat_lt, ⊎_elim, ◌&&◌, not, Option, Some, None, append_assoc}
use Rattle.std.proofs.lemmas.Bool.{and_parts, and_from, or_cases, ne_eqb, false≢true, cond-true, cond-false, or_parts, or_left, or_right}
use Rattle.std.proofs.lemmas.Bool.Decides.{nat_tests}
use Rattle.std.proofs.lemmas.List.{append-nil}
use Rattle.std.proofs.lemmas.List.Elements.{All-nil, All-cons}
use Rattle.std.specs.Char.{encode_utf8}
use Rattle.std.specs.Cmp.Lexicographic.{same_text}
use Rattle.std.specs.List.{list_all}
use Rattle.std.specs.Str.{encode_utf8_all, str_eq_ignore_ascii_case}
use Rattle.odd_tokens.proofs.Ascii.{ascii_codes, lowered, all_lowered}
use Rattle.odd_tokens.proofs.AttributesLexed.{at_quote, from_name, attribute_parts, at_space, space_ends}
use Rattle.odd_tokens.proofs.Characters.{all_weaker}
use Rattle.odd_tokens.proofs.LexedSteps.{close_read, Yields, stepped, ended, space_is_char, IsIdle, IsLexed, Lexes}
use Rattle.odd_tokens.proofs.LexedTags.{AreAllowed, in_tag, attribute_from_space, attributes_read, after_less, greater_legal}
use Rattle.odd_tokens.proofs.LexedTokens.{Takes, idle, less_takes, is_idle, idle_takes, mark_takes}
use Rattle.odd_tokens.proofs.LexedValues.{IsAllowed}
use Rattle.odd_tokens.specs.Characters.{is_within, is_char, is_space, is_name_start, is_name_char, is_white}
use Rattle.odd_tokens.specs.Declaring.{version_is_set, encoding_is_set, standalone_is_set, is_declaration_of}
use Rattle.odd_tokens.specs.Lexing.{Lexed, next, fresh_tag}
use Rattle.odd_tokens.specs.Making.{attribute_made, token_made}
use Rattle.odd_tokens.specs.Openings.{Setting, IsSetting, setting_written, Declaration, IsDeclaration, declaration_written}
use Rattle.odd_text.specs.Same.{is_same}
use Rattle.odd_tokens.specs.Tokens.{Piece, itself, Attribute, IsAttribute, IsPieceIn, IsQName, attribute_written, value_written, attributes_written}
use Rattle.odd_tokens.specs.Tokens as written
use Rattle.odd_tokens.specs.Values.{value_read}
use Rattle.odd_tokens.specs.declared.lexer.State.TheVariants as state
use Rattle.odd_tokens.specs.declared.token.Token.{Token}
use Rattle.odd_tokens.specs.declared.token.Token.TheVariants as token
use Rattle.odd_tokens.specs.declared.token.WrittenAttr.{WrittenAttr}

-- a setting as an attribute

abbrev pub setting_as : List ℕ → Setting → Attribute
setting_as name s = record { space = s.space; name = record { prefix = []; local = name }; before = s.before; after = s.after; quote = s.quote; value = map itself s.value }

itself_written : (cs : List ℕ) → value_written (map itself cs) ≡ cs
itself_written [] = refl
itself_written (c ∷ cs) = ap (λ x. c ∷ x) (itself_written cs)

pub setting_is_written : (name : List ℕ) (s : Setting) → attribute_written (setting_as name s) ≡ setting_written name s
setting_is_written name s = ap (λ v. s.space ++ name ++ s.before ++ codes "=" ++ s.after ++ s.quote ∷ (v ++ s.quote ∷ [])) (itself_written s.value)

itself_allowed : (cs : List ℕ) → All (IsAllowed true) (map itself cs)
itself_allowed [] = All-nil _
itself_allowed (c ∷ cs) = All-cons (IsAllowed true) (itself c) (map itself cs) tt (itself_allowed cs)

pub setting_allowed : (name : List ℕ) (s : Setting) → AreAllowed true (setting_as name s)
setting_allowed name s = itself_allowed s.value

-- letters, digits and what is near them: all that the settings' values have

abbrev pub is_plain : ℕ → Bool
is_plain c = is_within 0x2D 0x39 c || is_within 0x41 0x7A c

plain_legal : (c : ℕ) → is_plain c ≡ true → is_char c ≡ true
unfolding is_char
plain_legal c h = grind (arith, nat_tests)

plain_low : (c : ℕ) → is_plain c ≡ true → nat_lt c 128 ≡ true
plain_low c h = grind (arith, nat_tests)

plain_apart : (c d : ℕ) → is_plain c ≡ true → is_plain d ≡ false → c ≢ d
plain_apart c d h n e = false≢true (sym n ∙ subst (λ x. is_plain x ≡ true) e h)

plain_no_space : (c : ℕ) → is_plain c ≡ true → is_space c ≡ false
plain_no_space c h = grind (arith, nat_tests)

plain_piece : (q c : ℕ) → (q == 0x22 || q == 0x27) ≡ true → is_plain c ≡ true → IsPieceIn q (itself c)
plain_piece q c quoted h =
    (plain_legal c h, plain_apart c 0x3C h refl, plain_apart c 0x26 h refl, plain_apart c q h (at_quote (λ x. is_plain x ≡ false) refl refl q quoted))

plain_pieces : (q : ℕ) (cs : List ℕ) → (q == 0x22 || q == 0x27) ≡ true → list_all is_plain cs ≡ true → All (IsPieceIn q) (map itself cs)
plain_pieces q [] quoted h = All-nil _
plain_pieces q (c ∷ cs) quoted h =
    let both = and_parts (is_plain c) (list_all is_plain cs) h in
    All-cons (IsPieceIn q) (itself c) (map itself cs) (plain_piece q c quoted both.0) (plain_pieces q cs quoted both.1)

one_read : (c : ℕ) (ps : List Piece) (cs : List ℕ) → is_plain c ≡ true → value_read ps ≡ cs → value_read (itself c ∷ ps) ≡ c ∷ cs
one_read c ps cs h e =
    let a : (c == 0xD) ≡ false = ne_eqb c 0xD (plain_apart c 0xD h refl) in
    let b : is_space c ≡ false = plain_no_space c h in
    rw (b, a) (ap (λ x. c ∷ x) e)

plain_read : (cs : List ℕ) → list_all is_plain cs ≡ true → value_read (map itself cs) ≡ cs
plain_read [] h = refl
plain_read (c ∷ cs) h =
    let both = and_parts (is_plain c) (list_all is_plain cs) h in one_read c (map itself cs) cs both.0 (plain_read cs both.1)

-- the value as it is kept
plain_made : (cs : List ℕ) → list_all is_plain cs ≡ true → encode_utf8_all (value_read (map itself cs)) ≡ cs
plain_made cs h = ap encode_utf8_all (plain_read cs h) ∙ ascii_codes cs (all_weaker is_plain (λ c. nat_lt c 128) plain_low cs h)

-- which values are allowed

version_plain : (v : List ℕ) → is_same v (codes "1.0") ≡ true → list_all is_plain v ≡ true
version_plain v h = subst (λ x. list_all is_plain x ≡ true) (sym (same_text v (codes "1.0") (sym h))) refl

standalone_plain : (v : List ℕ) → (is_same v (codes "yes") || is_same v (codes "no")) ≡ true → list_all is_plain v ≡ true
standalone_plain v h =
    ⊎_elim (λ e. subst (λ x. list_all is_plain x ≡ true) (sym (same_text v (codes "yes") (sym e))) refl)
    (λ e. subst (λ x. list_all is_plain x ≡ true) (sym (same_text v (codes "no") (sym e))) refl)
    (or_cases (is_same v (codes "yes")) (is_same v (codes "no")) h)

lower_plain : (c : ℕ) → is_plain (lowered c) ≡ true → is_plain c ≡ true
lower_plain c h = grind (arith, nat_tests)

plain_from_lower : (cs : List ℕ) → list_all is_plain (map lowered cs) ≡ true → list_all is_plain cs ≡ true
plain_from_lower [] h = refl
plain_from_lower (c ∷ cs) h = let both = and_parts (is_plain (lowered c)) _ h in and_from _ _ (lower_plain c both.0) (plain_from_lower cs both.1)

encoding_plain : (v : List ℕ) → is_same (map lowered v) (codes "utf-8") ≡ true → list_all is_plain v ≡ true
encoding_plain v h = plain_from_lower v (subst (λ x. list_all is_plain x ≡ true) (sym (same_text (map lowered v) (codes "utf-8") (sym h))) refl)

encoding_same : (v : List ℕ) → is_same (map lowered v) (codes "utf-8") ≡ true → str_eq_ignore_ascii_case v (codes "utf-8") ≡ true
encoding_same v h = ap (λ x. is_same x (codes "utf-8")) (sym (all_lowered v)) ∙ h

-- a setting with such a value is an attribute
setting_is_attribute : (name : List ℕ) (accepts : List ℕ → Bool) (s : Setting) → IsQName (record { prefix = []; local = name }) → IsSetting accepts s → list_all is_plain s.value ≡ true
    → IsAttribute (setting_as name s)
setting_is_attribute name accepts s n h plain = record { spaced = h.spaced; named = n; around = h.around; quoted = h.quoted; valued = plain_pieces s.quote s.value h.quoted plain }

-- a setting is an attribute that the lexer takes for it
abbrev pub IsTaken : (WrittenAttr → Bool) → List ℕ → Setting → Type 0
IsTaken is_set name s = IsAttribute (setting_as name s) × (is_set (attribute_made (setting_as name s)) ≡ true)

pub version_taken : (s : Setting) → IsSetting (λ v. is_same v (codes "1.0")) s → IsTaken version_is_set (codes "version") s
unfolding is_name_start is_name_char encode_utf8
version_taken s h =
    let plain = version_plain s.value h.accepted in
    (setting_is_attribute (codes "version") _ s (refl, refl) h plain, ap (λ x. is_same x (codes "1.0")) (plain_made s.value plain) ∙ h.accepted)

pub encoding_taken : (s : Setting) → IsSetting (λ v. is_same (map lowered v) (codes "utf-8")) s → IsTaken encoding_is_set (codes "encoding") s
unfolding is_name_start is_name_char encode_utf8
encoding_taken s h =
    let plain = encoding_plain s.value h.accepted in (
      setting_is_attribute (codes "encoding") _ s (refl, refl) h plain,
      ap (λ x. str_eq_ignore_ascii_case x (codes "utf-8")) (plain_made s.value plain) ∙ encoding_same s.value h.accepted,
    )

pub standalone_taken : (s : Setting) → IsSetting (λ v. is_same v (codes "yes") || is_same v (codes "no")) s → IsTaken standalone_is_set (codes "standalone") s
unfolding is_name_start is_name_char encode_utf8
standalone_taken s h =
    let plain = standalone_plain s.value h.accepted in (
      setting_is_attribute (codes "standalone") _ s (refl, refl) h plain,
      ap (λ x. is_same x (codes "yes") || is_same x (codes "no")) (plain_made s.value plain) ∙ h.accepted,
    )

question_legal : is_char 0x3F ≡ true
unfolding is_char
question_legal = refl

question_apart : is_name_start 0x3F ≡ false
unfolding is_name_start
question_apart = refl

just : (P : Attribute → Type 0) (a : Attribute) → P a → All P (a ∷ [])
just P a h = All-cons P a [] h (All-nil _)

-- the parts of a declaration, of which the second and the third may not be there

one_part : (x v s q : List ℕ) → x ++ ((v ++ []) ++ (s ++ q)) ≡ x ++ v ++ [] ++ [] ++ s ++ q
one_part x v s q = simp (append_assoc, append-nil)

first_parts : (x v e s q : List ℕ) → x ++ ((v ++ (e ++ [])) ++ (s ++ q)) ≡ x ++ v ++ e ++ [] ++ s ++ q
first_parts x v e s q = simp (append_assoc, append-nil)

last_parts : (x v a s q : List ℕ) → x ++ ((v ++ (a ++ [])) ++ (s ++ q)) ≡ x ++ v ++ [] ++ a ++ s ++ q
last_parts x v a s q = simp (append_assoc, append-nil)

all_parts : (x v e a s q : List ℕ) → x ++ ((v ++ (e ++ (a ++ []))) ++ (s ++ q)) ≡ x ++ v ++ e ++ a ++ s ++ q
all_parts x v e a s q = simp (append_assoc, append-nil)

abbrev start : List ℕ
start = codes "<?xml"

module _ (l : Lexed) (at : ℕ) (opens : l.opening ≡ true) where
  -- after the target, and after the white space that follows it
  abbrev after_target : Lexed
  after_target = record (after_less l at) { state = state.Target; text = codes "xml" }

  abbrev declaring : Lexed
  declaring = record l { state = state.TagSpace; opening = false; begin = at; declares = true; tag = fresh_tag at; text = codes "xml" }

  space_next : (c n : ℕ) → is_space c ≡ true → next after_target n c ≡ Some (declaring, None)
  space_next c n h =
      let m : (c == 0x3F || is_space c) ≡ true = at_space (λ x. (x == 0x3F || is_space x) ≡ true) refl refl refl refl c h in
      let q : not (c == 0x3F) ≡ true = at_space (λ x. not (x == 0x3F) ≡ true) refl refl refl refl c h in
      let apart : is_name_char c ≡ false = (or_parts (is_name_char c) (c == 0x3A) (space_ends c h)).0 in
      let all : (l.opening && not (c == 0x3F) && true) ≡ true = and_from _ _ (and_from _ _ opens q) refl in
      cond-true _ _ _ (space_is_char c h) ∙ cond-false _ _ _ apart ∙ cond-true _ _ _ m ∙ cond-true _ _ _ all

  space_then : (w more : List ℕ) (t : Token) → w ≢ [] → is_white w ≡ true → ((v : List ℕ) → is_white v ≡ true → Yields declaring (v ++ more) t) → Yields after_target (w ++ more) t
  space_then [] more t n h y = absurd (n refl)
  space_then (c ∷ cs) more t n h y = let both = and_parts (is_space c) (is_white cs) h in stepped (λ n. space_next c n both.0) (y cs both.1)

  target_yields : (cs : List ℕ) (t : Token) → Yields after_target cs t → Yields (after_less l at) (codes "?xml" ++ cs) t
  unfolding is_char is_name_start is_name_char encode_utf8
  target_yields cs t y = stepped (λ at. refl) (stepped (λ at. refl) (stepped (λ at. refl) (stepped (λ at. refl) y)))

  -- the settings as attributes, and the end
  settings_take : (a : Attribute) (rest : List Attribute) (space : List ℕ) → IsAttribute a → AreAllowed true a → All IsAttribute rest → All (AreAllowed true) rest
      → is_declaration_of (map attribute_made (a ∷ rest)) ≡ true → is_white space ≡ true
      → Takes (idle l) at (codes "<?xml" ++ (attributes_written (a ∷ rest) ++ (space ++ codes "?>"))) token.Passed
  settings_take a rest space one ok all oks set white =
      let left = attributes_written rest ++ (space ++ codes "?>") in
      let e : a.space ++ from_name a left ≡ attributes_written (a ∷ rest) ++ (space ++ codes "?>") =
      sym (attribute_parts a left) ∙ sym (append_assoc (attribute_written a) (attributes_written rest) (space ++ codes "?>")) in
      less_takes l at _ _
      (target_yields _ _
      (subst (λ cs. Yields after_target cs token.Passed) e
      (space_then a.space (from_name a left) token.Passed one.spaced.0 one.spaced.1
      (λ w h. attribute_from_space declaring token.Passed l.name w a [] l.value (codes "xml") l.number left h one ok
      (λ v text n. attributes_read declaring token.Passed rest (attribute_made a ∷ []) v text n (space ++ codes "?>") all oks
      (λ v text n. close_read (in_tag declaring token.Passed (map attribute_made (a ∷ rest)) v text n) token.Passed space 0x3F (codes ">") white question_legal question_apart
      (ended (λ n. cond-true _ _ _ greater_legal ∙ cond-true _ _ _ set) (record { between = refl; plain = refl }) refl)))))))

  -- which settings there are

  abbrev with_settings : Setting → Option Setting → Option Setting → List ℕ → Declaration
  with_settings version encoding standalone space = record { version = version; encoding = encoding; standalone = standalone; space = space }

  abbrev version_as : Setting → Attribute
  version_as s = setting_as (codes "version") s

  abbrev encoding_as : Setting → Attribute
  encoding_as s = setting_as (codes "encoding") s

  abbrev standalone_as : Setting → Attribute
  standalone_as s = setting_as (codes "standalone") s

  pub by_settings : (v : Setting) (e a : Option Setting) (space : List ℕ) → IsDeclaration (with_settings v e a space) → Takes (idle l) at (declaration_written (with_settings v e a space)) token.Passed
  by_settings v None None space h =
      let t = version_taken v h.versioned in
      let joined : start ++ (attributes_written (version_as v ∷ []) ++ (space ++ codes "?>")) ≡ declaration_written (with_settings v None None space) =
      ap (λ x. start ++ ((x ++ []) ++ (space ++ codes "?>"))) (setting_is_written (codes "version") v) ∙ one_part start _ space (codes "?>") in
      subst (λ cs. Takes (idle l) at cs token.Passed) joined (settings_take (version_as v) [] space t.0 (setting_allowed (codes "version") v) (All-nil _) (All-nil _) t.1 h.ended)
  by_settings v (Some e) None space h =
      let t = version_taken v h.versioned in
      let u = encoding_taken e h.encoded in
      let joined : start ++ (attributes_written (version_as v ∷ encoding_as e ∷ []) ++ (space ++ codes "?>")) ≡ declaration_written (with_settings v (Some e) None space) =
      (λ i. start ++ ((setting_is_written (codes "version") v i ++ (setting_is_written (codes "encoding") e i ++ [])) ++ (space ++ codes "?>"))) ∙ first_parts start _ _ space (codes "?>") in
      subst (λ cs. Takes (idle l) at cs token.Passed) joined
      (settings_take (version_as v) (encoding_as e ∷ []) space t.0 (setting_allowed (codes "version") v) (just IsAttribute (encoding_as e) u.0) (just (AreAllowed true) (encoding_as e) (setting_allowed (codes "encoding") e))
      (and_from _ _ t.1 (or_left _ _ u.1)) h.ended)
  by_settings v None (Some a) space h =
      let t = version_taken v h.versioned in
      let u = standalone_taken a h.alone in
      let joined : start ++ (attributes_written (version_as v ∷ standalone_as a ∷ []) ++ (space ++ codes "?>")) ≡ declaration_written (with_settings v None (Some a) space) =
      (λ i. start ++ ((setting_is_written (codes "version") v i ++ (setting_is_written (codes "standalone") a i ++ [])) ++ (space ++ codes "?>"))) ∙ last_parts start _ _ space (codes "?>") in
      subst (λ cs. Takes (idle l) at cs token.Passed) joined
      (settings_take (version_as v) (standalone_as a ∷ []) space t.0 (setting_allowed (codes "version") v) (just IsAttribute (standalone_as a) u.0)
      (just (AreAllowed true) (standalone_as a) (setting_allowed (codes "standalone") a)) (and_from _ _ t.1 (or_right _ _ u.1)) h.ended)
  by_settings v (Some e) (Some a) space h =
      let t = version_taken v h.versioned in
      let u = encoding_taken e h.encoded in
      let w = standalone_taken a h.alone in
      let joined : start ++ (attributes_written (version_as v ∷ encoding_as e ∷ standalone_as a ∷ []) ++ (space ++ codes "?>")) ≡ declaration_written (with_settings v (Some e) (Some a) space) =
      (λ i. start ++ ((setting_is_written (codes "version") v i ++ (setting_is_written (codes "encoding") e i ++ (setting_is_written (codes "standalone") a i ++ []))) ++ (space ++ codes "?>")))
      ∙ all_parts start (setting_written (codes "version") v) (setting_written (codes "encoding") e) (setting_written (codes "standalone") a) space (codes "?>") in
      subst (λ cs. Takes (idle l) at cs token.Passed) joined
      (settings_take (version_as v) (encoding_as e ∷ standalone_as a ∷ []) space t.0 (setting_allowed (codes "version") v)
      (All-cons IsAttribute (encoding_as e) (standalone_as a ∷ []) u.0 (just IsAttribute (standalone_as a) w.0))
      (All-cons (AreAllowed true) (encoding_as e) (standalone_as a ∷ []) (setting_allowed (codes "encoding") e) (just (AreAllowed true) (standalone_as a) (setting_allowed (codes "standalone") a)))
      (and_from _ _ (and_from _ _ t.1 u.1) w.1) h.ended)

-- a byte order mark at the very beginning is not a character of a token
pub token_lexed : (l : Lexed) (at : ℕ) (t : written.Token) → IsIdle l → IsLexed t → (l.opening ≡ true → at ≡ 0 → t ≢ written.character 0xFEFF)
    → (after : Lexed) × IsIdle after × (after.opening ≡ false) × Lexes l at (written.token_written t) after (token_made at t)
token_lexed l at t i h mark = subst (λ k. Takes k at (written.token_written t) (token_made at t)) (is_idle l i) (idle_takes l at t h mark)

pub declaration_lexed : (l : Lexed) (at : ℕ) (d : Declaration) → IsIdle l → l.opening ≡ true → IsDeclaration d
    → (after : Lexed) × IsIdle after × (after.opening ≡ false) × Lexes l at (declaration_written d) after token.Passed
declaration_lexed l at d i o h = subst (λ k. Takes k at (declaration_written d) token.Passed) (is_idle l i) (by_settings l at o d.version d.encoding d.standalone d.space h)

pub mark_lexed : (l : Lexed) → IsIdle l → l.opening ≡ true → (after : Lexed) × IsIdle after × (after.opening ≡ true) × (next l 0 0xFEFF ≡ Some (after, None))
mark_lexed l i o = subst (λ k. (after : Lexed) × IsIdle after × (after.opening ≡ true) × (next k 0 0xFEFF ≡ Some (after, None))) (is_idle l i) (mark_takes l o)
