-- The tokens that are written are read in one way: each is delimited by itself.
use Rattle.std.proofs.Common.{◌≡◌, ◌≢◌, ℕ, Bool, true, false, ◌||◌, ◌==◌, List, [], ◌∷◌, ◌++◌, sym, refl, ◌∙◌, append_assoc, IsTrue, All, ⊎_elim, ap, codes, get_or, arith, if◌then◌else◌, ap₂, drop}
use Rattle.std.proofs.lemmas.Bool.{and_parts, or_cases, eqb-true, ne_eqb, or_parts}
use Rattle.std.proofs.lemmas.List.Elements.{All-head, All-tail}
use Rattle.odd_tokens.proofs.AttributesLexed.{is_name_part, space_ends, greater_ends, slash_ends, start_apart, one_name, name_begins, name_not_space, white_stops, from_name, attribute_parts, one_attribute, question_ends, bang_ends, ncname_chars, one_reference, reference_begins}
use Rattle.odd_tokens.proofs.Characters.{Stops, same_front, same_until}
use Rattle.odd_tokens.specs.Characters.{is_space, is_name_start, is_white, is_name_char}
use Rattle.odd_tokens.specs.Tokens.{QName, IsQName, Attribute, Tag, IsAttribute, IsTag, name_written, attribute_written, attributes_written, tag_written, LacksPart, Token, character, referred, cdata, comment, instruction, start_tag, empty_tag, end_tag, IsToken, is_set_off, token_written, tokens_written}

abbrev is_closing : ℕ → Bool
is_closing c = c == 0x3E || c == 0x2F

-- a tag closes here
abbrev pub Closes : List ℕ → Type 0
Closes [] = ⊥
Closes (c ∷ cs) = IsTrue (is_closing c)

at_closing : (P : ℕ → Type 0) → P 0x3E → P 0x2F → (c : ℕ) → is_closing c ≡ true → P c
at_closing P a b c h = ⊎_elim (λ h₁. rw (eqb-true c 0x3E h₁) a) (λ h₁. rw (eqb-true c 0x2F h₁) b) (or_cases (c == 0x3E) (c == 0x2F) h)

closing_not_space : (cs : List ℕ) → Closes cs → Stops is_space cs
closing_not_space [] h = tt
closing_not_space (c ∷ cs) h = at_closing (λ x. is_space x ≡ false) refl refl c h

closing_ends : (cs : List ℕ) → Closes cs → Stops is_name_part cs
closing_ends [] h = tt
closing_ends (c ∷ cs) h = at_closing (λ x. is_name_part x ≡ false) greater_ends slash_ends c h

-- a name begins with no character that closes a tag
no_name_closes : (n : QName) (more cs : List ℕ) → IsQName n → Closes cs → cs ≢ name_written n ++ more
no_name_closes n more cs h c e = let b = name_begins n more h in start_apart b.0 b.0 b.2 (rw (e ∙ b.3) at (closing_ends cs c)) refl

-- the first attribute has white space before it
space_stops : (w more : List ℕ) → (w ≢ []) → is_white w ≡ true → Stops is_name_part (w ++ more)
space_stops [] more n h = absurd (n refl)
space_stops (c ∷ cs) more n h = space_ends c (and_parts _ _ h).0

pub attributes_stop : (xs : List Attribute) (s more : List ℕ) → All IsAttribute xs → is_white s ≡ true → Closes more → Stops is_name_part (attributes_written xs ++ (s ++ more))
attributes_stop [] s more h w c = white_stops is_name_part space_ends s more w (closing_ends more c)
attributes_stop (a ∷ xs) s more h w c =
    let i = All-head IsAttribute a xs h in
    rw (append_assoc (attribute_written a) (attributes_written xs) (s ++ more)) (rw (attribute_parts a (attributes_written xs ++ (s ++ more))) (space_stops a.space _ i.spaced.0 i.spaced.1))

-- after the last attribute comes no other
none_more : (b : Attribute) (s more rest : List ℕ) → IsAttribute b → is_white s ≡ true → Closes more → s ++ more ≢ attribute_written b ++ rest
none_more b s more rest h w c e =
    let f = same_front is_space s b.space more (from_name b rest) w h.spaced.1 (closing_not_space more c) (name_not_space b.name _ h.named) (e ∙ attribute_parts b rest) in
    no_name_closes b.name _ more h.named c f.1

same_attributes : (xs ys : List Attribute) (s r more rest : List ℕ) → All IsAttribute xs → All IsAttribute ys → is_white s ≡ true → is_white r ≡ true → Closes more → Closes rest
    → attributes_written xs ++ (s ++ more) ≡ attributes_written ys ++ (r ++ rest) → (xs ≡ ys) × (s ≡ r) × (more ≡ rest)
same_attributes [] [] s r more rest a b v w c d e =
    let f = same_front is_space s r more rest v w (closing_not_space more c) (closing_not_space rest d) e in (refl, f.0, f.1)
same_attributes [] (y ∷ ys) s r more rest a b v w c d e =
    absurd (none_more y s more (attributes_written ys ++ (r ++ rest)) (All-head IsAttribute y ys b) v c (e ∙ append_assoc (attribute_written y) (attributes_written ys) (r ++ rest)))
same_attributes (x ∷ xs) [] s r more rest a b v w c d e =
    absurd (none_more x r rest (attributes_written xs ++ (s ++ more)) (All-head IsAttribute x xs a) w d (sym e ∙ append_assoc (attribute_written x) (attributes_written xs) (s ++ more)))
same_attributes (x ∷ xs) (y ∷ ys) s r more rest a b v w c d e =
    let f : (x ≡ y) × (attributes_written xs ++ (s ++ more) ≡ attributes_written ys ++ (r ++ rest)) = one_attribute x y _ _ (All-head IsAttribute x xs a) (All-head IsAttribute y ys b)
    (sym (append_assoc (attribute_written x) (attributes_written xs) (s ++ more)) ∙ e ∙ append_assoc (attribute_written y) (attributes_written ys) (r ++ rest)) in
    let g : (xs ≡ ys) × (s ≡ r) × (more ≡ rest) = same_attributes xs ys s r more rest (All-tail IsAttribute x xs a) (All-tail IsAttribute y ys b) v w c d f.1 in
    (cc (f.0, g.0), g.1, g.2)

pub tag_parts : (t : Tag) (more : List ℕ) → tag_written t ++ more ≡ name_written t.name ++ (attributes_written t.attributes ++ (t.space ++ more))
tag_parts t more = simp append_assoc

pub one_tag : (t u : Tag) (more rest : List ℕ) → IsTag t → IsTag u → Closes more → Closes rest → tag_written t ++ more ≡ tag_written u ++ rest → (t ≡ u) × (more ≡ rest)
one_tag t u more rest a b c d e =
    let f = one_name t.name u.name _ _ a.named b.named (attributes_stop t.attributes t.space more a.attributed a.ended c) (attributes_stop u.attributes u.space rest b.attributed b.ended d)
    (sym (tag_parts t more) ∙ e ∙ tag_parts u rest) in
    let g = same_attributes t.attributes u.attributes t.space u.space more rest a.attributed b.attributed a.ended b.ended c d f.1 in
    (λ i. record { name = f.0 i; attributes = g.0 i; space = g.1 i }, g.2)

-- a written tag begins with the start of a name
pub tag_begins : (t : Tag) (more : List ℕ) → IsTag t → (c : ℕ) × (cs : List ℕ) × (is_name_start c ≡ true) × (tag_written t ++ more ≡ c ∷ cs)
tag_begins t more h = let n = name_begins t.name (attributes_written t.attributes ++ (t.space ++ more)) h.named in (n.0, n.1, n.2, tag_parts t more ∙ n.3)

pub lacks_later : (part : List ℕ) (c : ℕ) (cs : List ℕ) → LacksPart part (c ∷ cs) → LacksPart part cs
lacks_later part c cs h before after e = h (c ∷ before) after (ap (λ l. c ∷ l) e)

-- one list has one character at each place
pub same_at : (k : ℕ) {xs ys : List ℕ} → xs ≡ ys → get_or xs k 0 ≡ get_or ys k 0
same_at k e = ap (λ l. get_or l k 0) e

cdata_apart : (c : ℕ) (cs more rest : List ℕ) → LacksPart (codes "]]>") (c ∷ cs) → c ∷ (cs ++ (codes "]]>" ++ more)) ≢ codes "]]>" ++ rest
cdata_apart c [] more rest h e = omega (arith, same_at 2 e)
cdata_apart c (d ∷ []) more rest h e = omega (arith, same_at 2 e)
cdata_apart c (d ∷ f ∷ cs) more rest h e = h [] cs (cc (same_at 0 e, same_at 1 e, same_at 2 e))

pub one_cdata : (xs ys more rest : List ℕ) → LacksPart (codes "]]>") xs → LacksPart (codes "]]>") ys → xs ++ (codes "]]>" ++ more) ≡ ys ++ (codes "]]>" ++ rest) → (xs ≡ ys) × (more ≡ rest)
one_cdata = same_until (codes "]]>") (LacksPart (codes "]]>")) (lacks_later (codes "]]>")) cdata_apart

instruction_apart : (c : ℕ) (cs more rest : List ℕ) → LacksPart (codes "?>") (c ∷ cs) → c ∷ (cs ++ (codes "?>" ++ more)) ≢ codes "?>" ++ rest
instruction_apart c [] more rest h e = omega (arith, same_at 1 e)
instruction_apart c (d ∷ cs) more rest h e = h [] cs (cc (same_at 0 e, same_at 1 e))

pub one_instruction : (xs ys more rest : List ℕ) → LacksPart (codes "?>") xs → LacksPart (codes "?>") ys → xs ++ (codes "?>" ++ more) ≡ ys ++ (codes "?>" ++ rest) → (xs ≡ ys) × (more ≡ rest)
one_instruction = same_until (codes "?>") (LacksPart (codes "?>")) (lacks_later (codes "?>")) instruction_apart

-- no two hyphens, and none at the end
abbrev pub IsInComment : List ℕ → Type 0
IsInComment text = LacksPart (codes "--") text × ((front : List ℕ) → text ≢ front ++ codes "-")

pub comment_later : (c : ℕ) (cs : List ℕ) → IsInComment (c ∷ cs) → IsInComment cs
comment_later c cs h = (lacks_later (codes "--") c cs h.0, λ front e. h.1 (c ∷ front) (ap (λ l. c ∷ l) e))

comment_apart : (c : ℕ) (cs more rest : List ℕ) → IsInComment (c ∷ cs) → c ∷ (cs ++ (codes "--" ++ more)) ≢ codes "--" ++ rest
comment_apart c [] more rest h e = h.1 [] (ap (λ x. x ∷ []) (same_at 0 e))
comment_apart c (d ∷ cs) more rest h e = h.0 [] cs (cc (same_at 0 e, same_at 1 e))

pub one_comment : (xs ys more rest : List ℕ) → IsInComment xs → IsInComment ys → xs ++ (codes "--" ++ more) ≡ ys ++ (codes "--" ++ rest) → (xs ≡ ys) × (more ≡ rest)
one_comment = same_until (codes "--") IsInComment comment_later comment_apart

-- The kind of a token, and what the first characters tell of it. The two tags that begin alike are of one kind.
abbrev pub kind : Token → ℕ
kind (character c) = 0
kind (referred r) = 1
kind (cdata text) = 2
kind (comment text) = 3
kind (instruction target rest) = 4
kind (end_tag name space) = 5
kind (start_tag t) = 6
kind (empty_tag t) = 6

abbrev after_bang : List ℕ → ℕ
after_bang [] = 7
after_bang (c ∷ cs) = if c == 0x5B then 2 else 3

abbrev after_less : List ℕ → ℕ
after_less [] = 7
after_less (c ∷ cs) = if c == 0x21 then after_bang cs else (if c == 0x3F then 4 else (if c == 0x2F then 5 else 6))

abbrev pub kind_of : List ℕ → ℕ
kind_of [] = 7
kind_of (c ∷ cs) = if c == 0x3C then after_less cs else (if c == 0x26 then 1 else 0)

-- `<` and then a tag
tag_kind : (t : Tag) (close more : List ℕ) → IsTag t → kind_of (0x3C ∷ (tag_written t ++ close ++ more)) ≡ 6
tag_kind t close more h =
    let b = tag_begins t (close ++ more) h in
    let p : (b.0 == 0x21) ≡ false = ne_eqb b.0 0x21 (start_apart b.0 0x21 b.2 bang_ends) in
    let q : (b.0 == 0x3F) ≡ false = ne_eqb b.0 0x3F (start_apart b.0 0x3F b.2 question_ends) in
    let r : (b.0 == 0x2F) ≡ false = ne_eqb b.0 0x2F (start_apart b.0 0x2F b.2 slash_ends) in
    let all : after_less (b.0 ∷ b.1) ≡ 6 = rw (p, q, r) refl in
    ap after_less (append_assoc (tag_written t) close more ∙ b.3) ∙ all

pub kind-written : (t : Token) (more : List ℕ) → IsToken t → kind_of (token_written t ++ more) ≡ kind t
kind-written (character c) more h =
    let p : (c == 0x3C) ≡ false = ne_eqb c 0x3C h.1 in
    let q : (c == 0x26) ≡ false = ne_eqb c 0x26 h.2 in
    rw (p, q) refl
kind-written (referred r) more h = ap kind_of (reference_begins r more).1
kind-written (cdata text) more h = refl
kind-written (comment text) more h = refl
kind-written (instruction target rest) more h = refl
kind-written (end_tag name space) more h = refl
kind-written (start_tag t) more h = tag_kind t (codes ">") more h
kind-written (empty_tag t) more h = tag_kind t (codes "/>") more h

same_kind : (t u : Token) (more rest : List ℕ) → IsToken t → IsToken u → token_written t ++ more ≡ token_written u ++ rest → kind t ≡ kind u
same_kind t u more rest a b e = sym (kind-written t more a) ∙ ap kind_of e ∙ kind-written u rest b

-- an instruction's target ends where white space or `?>` follows
pub set_off_stops : (cs more : List ℕ) → is_set_off cs ≡ true → Stops is_name_char (cs ++ (codes "?>" ++ more))
set_off_stops [] more h = (or_parts _ _ question_ends).0
set_off_stops (c ∷ cs) more h = (or_parts _ _ (space_ends c h)).0

three_parts : (x y mark more : List ℕ) → x ++ y ++ mark ++ more ≡ x ++ (y ++ (mark ++ more))
three_parts x y mark more = simp append_assoc

-- what stands after `<` in tags that are written the same
tags_written : (t u : Tag) (close other more rest : List ℕ) → 0x3C ∷ (tag_written t ++ close ++ more) ≡ 0x3C ∷ (tag_written u ++ other ++ rest)
    → tag_written t ++ (close ++ more) ≡ tag_written u ++ (other ++ rest)
tags_written t u close other more rest e = sym (append_assoc (tag_written t) close more) ∙ ap (drop 1) e ∙ append_assoc (tag_written u) other rest

pub one_token : (t u : Token) (more rest : List ℕ) → IsToken t → IsToken u → token_written t ++ more ≡ token_written u ++ rest → (t ≡ u) × (more ≡ rest)
one_token (character c) (character d) more rest a b e = (cc, cc)
one_token (referred r) (referred s) more rest a b e = let f = one_reference r s more rest a b e in (ap referred f.0, f.1)
one_token (cdata x) (cdata y) more rest a b e =
    let f = one_cdata x y more rest a.1 b.1 (sym (append_assoc x (codes "]]>") more) ∙ ap (drop 9) e ∙ append_assoc y (codes "]]>") rest) in
    (ap cdata f.0, f.1)
one_token (comment x) (comment y) more rest a b e =
    let f = one_comment x y (0x3E ∷ more) (0x3E ∷ rest) (a.1, a.2) (b.1, b.2) (sym (append_assoc x (codes "-->") more) ∙ ap (drop 4) e ∙ append_assoc y (codes "-->") rest) in
    (ap comment f.0, ap (drop 1) f.1)
one_token (instruction x v) (instruction y w) more rest a b e =
    let f = same_front is_name_char x y _ _ (ncname_chars x a.0) (ncname_chars y b.0) (set_off_stops v more a.2) (set_off_stops w rest b.2)
    (sym (three_parts x v (codes "?>") more) ∙ ap (drop 2) e ∙ three_parts y w (codes "?>") rest) in
    let g = one_instruction v w more rest a.4 b.4 f.1 in
    (ap₂ instruction f.0 g.0, g.1)
one_token (end_tag m v) (end_tag n w) more rest a b e =
    let f = one_name m n _ _ a.0 b.0 (white_stops is_name_part space_ends v (0x3E ∷ more) a.1 greater_ends) (white_stops is_name_part space_ends w (0x3E ∷ rest) b.1 greater_ends)
    (sym (three_parts (name_written m) v (codes ">") more) ∙ ap (drop 2) e ∙ three_parts (name_written n) w (codes ">") rest) in
    let g = same_front is_space v w (0x3E ∷ more) (0x3E ∷ rest) a.1 b.1 refl refl f.1 in
    (ap₂ end_tag f.0 g.0, ap (drop 1) g.1)
one_token (start_tag t) (start_tag u) more rest a b e =
    let f = one_tag t u (0x3E ∷ more) (0x3E ∷ rest) a b refl refl (tags_written t u (codes ">") (codes ">") more rest e) in (ap start_tag f.0, ap (drop 1) f.1)
one_token (empty_tag t) (empty_tag u) more rest a b e =
    let f = one_tag t u (0x2F ∷ 0x3E ∷ more) (0x2F ∷ 0x3E ∷ rest) a b refl refl (tags_written t u (codes "/>") (codes "/>") more rest e) in (ap empty_tag f.0, ap (drop 2) f.1)
one_token (start_tag t) (empty_tag u) more rest a b e =
    let f = one_tag t u (0x3E ∷ more) (0x2F ∷ 0x3E ∷ rest) a b refl refl (tags_written t u (codes ">") (codes "/>") more rest e) in absurd (omega (arith, same_at 0 f.1))
one_token (empty_tag t) (start_tag u) more rest a b e =
    let f = one_tag t u (0x2F ∷ 0x3E ∷ more) (0x3E ∷ rest) a b refl refl (tags_written t u (codes "/>") (codes ">") more rest e) in absurd (omega (arith, same_at 0 f.1))
one_token t u more rest a b e = absurd (omega (arith, same_kind t u more rest a b e))

-- no token is written as nothing
pub something_written : (t : Token) (more : List ℕ) → IsToken t → token_written t ++ more ≢ []
something_written t more h e = not_seven t (sym (kind-written t more h) ∙ ap kind_of e)
  where
    not_seven : (u : Token) → kind u ≢ 7
    not_seven (character c) k = omega arith
    not_seven u k = omega arith

pub same_tokens : (ts us : List Token) → All IsToken ts → All IsToken us → tokens_written ts ≡ tokens_written us → ts ≡ us
same_tokens [] [] a b e = refl
same_tokens [] (u ∷ us) a b e = absurd (something_written u (tokens_written us) (All-head IsToken u us b) (sym e))
same_tokens (t ∷ ts) [] a b e = absurd (something_written t (tokens_written ts) (All-head IsToken t ts a) e)
same_tokens (t ∷ ts) (u ∷ us) a b e =
    let f = one_token t u (tokens_written ts) (tokens_written us) (All-head IsToken t ts a) (All-head IsToken u us b) e in
    ap₂ ◌∷◌ f.0 (same_tokens ts us (All-tail IsToken t ts a) (All-tail IsToken u us b) f.1)
