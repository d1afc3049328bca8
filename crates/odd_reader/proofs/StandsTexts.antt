-- The text of tokens that are no tags: as XML reads them, and as a reader does that goes from token to token.
use Rattle.std.proofs.Common.{◌≡◌, ◌⊎◌, inl, inr, ⊎_elim, Bool, true, false, ◌&&◌, ◌==◌, if◌then◌else◌, ℕ, List, [], ◌∷◌, ◌++◌, refl, sym, ap, ap₂, ◌∙◌, append_assoc, append-nil, encode_utf8}
use Rattle.std.specs.List.{list_any}
use Rattle.std.specs.Str.{encode_utf8_all}
use Rattle.std.proofs.lemmas.Bool.{cases_Bool, eqb-true, or_parts}
use Rattle.std.proofs.lemmas.Str.{encodes-append}
use Rattle.odd_reader.specs.declared.builder.Last.{Last}
use Rattle.odd_reader.specs.declared.builder.Last.TheVariants as last
use Rattle.odd_reader.specs.Building.{character_text, last_after, is_return, is_bracket, is_brackets}
use Rattle.odd_tree.specs.Fitting.{is_tag, is_start_or_end, is_start_or_empty, IsBalanced, nothing, piece}
use Rattle.odd_tokens.specs.Tokens.{Token, character, referred, cdata, comment, instruction, start_tag, empty_tag, end_tag, character_of}
use Rattle.odd_tokens.specs.Lines.{lines_read}
use Rattle.odd_tree.specs.Trees.{token_read}
use Rattle.odd_tokens.proofs.Ascii.{ascii_codes}

-- no tag is among the tokens
abbrev pub NoTags : List Token → Type 0
NoTags [] = Unit {0}
NoTags (t ∷ ts) = (is_tag t ≡ false) × NoTags ts

pub no_tags_append : (xs ys : List Token) → NoTags xs → NoTags ys → NoTags (xs ++ ys)
no_tags_append [] ys a b = b
no_tags_append (x ∷ xs) ys a b = (a.0, no_tags_append xs ys a.1 b)

pub no_tags_snoc : (xs : List Token) (t : Token) → NoTags xs → is_tag t ≡ false → NoTags (xs ++ t ∷ [])
no_tags_snoc xs t a b = no_tags_append xs (t ∷ []) a (b, tt)

pub no_tags_at : (ts : List Token) → NoTags ts → (before after : List Token) (t : Token) → ts ≡ before ++ t ∷ after → is_tag t ≡ false
no_tags_at [] n [] after t e = cc
no_tags_at [] n (b ∷ bs) after t e = cc
no_tags_at (x ∷ xs) n [] after t e = let f : x ≡ t = cc e in rw f at n.0
no_tags_at (x ∷ xs) n (b ∷ bs) after t e = no_tags_at xs n.1 bs after t (cc e)

pub no_tags_from : (ts : List Token) → ((before after : List Token) (t : Token) → ts ≡ before ++ t ∷ after → is_tag t ≡ false) → NoTags ts
no_tags_from [] h = tt
no_tags_from (t ∷ ts) h = (h [] ts t refl, no_tags_from ts (λ before after u e. h (t ∷ before) after u (ap (λ l. t ∷ l) e)))

pub no_tags_balanced : (ts : List Token) → NoTags ts → IsBalanced ts
no_tags_balanced [] n = nothing
no_tags_balanced (t ∷ ts) n = piece (or_parts (is_start_or_end t) (is_start_or_empty t) n.0).0 (no_tags_balanced ts n.1)

pub no_tags_no_element : (ts : List Token) → NoTags ts → list_any is_start_or_empty ts ≡ false
no_tags_no_element [] n = refl
no_tags_no_element (t ∷ ts) n = rw ((or_parts (is_start_or_end t) (is_start_or_empty t) n.0).1, no_tags_no_element ts n.1) refl

-- what stands last

abbrev pub after_token : Last → Token → Last
after_token l (character c) = last_after l c
after_token l t = last.Other

abbrev pub last_from : Last → List Token → Last
last_from l [] = l
last_from l (t ∷ ts) = last_from (after_token l t) ts

pub last_snoc : (l : Last) (ts : List Token) (t : Token) → last_from l (ts ++ t ∷ []) ≡ after_token (last_from l ts) t
last_snoc l [] t = refl
last_snoc l (x ∷ xs) t = last_snoc (after_token l x) xs t

-- the text of a token after what stands last
abbrev pub added : Last → Token → List ℕ
added l (character c) = character_text l c
added l (referred r) = encode_utf8 (character_of r)
added l (cdata text) = encode_utf8_all (lines_read text)
added l t = []

-- the characters of the tokens
abbrev pub run_read : List Token → List ℕ
run_read [] = []
run_read (t ∷ ts) = token_read t ts ++ run_read ts

line_feed : encode_utf8_all (0xA ∷ []) ≡ 0xA ∷ []
line_feed = ascii_codes (0xA ∷ []) refl

read_single : (l : Last) (t : Token) → is_return l ≡ false → encode_utf8_all (token_read t [] ++ []) ≡ added l t
read_single l (character c) h = go (c == 0xD) (c == 0xA) (is_return l) h
  where
    go : (a b r : Bool) → r ≡ false → encode_utf8_all ((if a then 0xA ∷ [] else c ∷ []) ++ []) ≡ (if a then 0xA ∷ [] else (if b && r then [] else encode_utf8 c))
    go true b r e = line_feed
    go false b true e = cc
    go false true false e = append-nil _
    go false false false e = append-nil _
read_single l (referred r) h = append-nil _
read_single l (cdata text) h = ap encode_utf8_all (append-nil (lines_read text))
read_single l (comment text) h = refl
read_single l (instruction target rest) h = refl
read_single l (start_tag tag) h = refl
read_single l (empty_tag tag) h = refl
read_single l (end_tag name space) h = refl

abbrev Apart : Last → Token → Token → Type 0
Apart l r t = (is_return (after_token l r) ≡ false) × (token_read r (t ∷ []) ≡ token_read r [])

-- a carriage return, or a token that the next one does not change
return_or_apart : (l : Last) (r t : Token) → (r ≡ character 0xD) ⊎ Apart l r t
return_or_apart l (character c) t = ⊎_elim (λ e. inl (ap character (eqb-true c 0xD e))) (λ e. inr (rw e (go (c == 0x5D) (is_bracket l)), rw e refl)) (cases_Bool (c == 0xD))
  where
    go : (a b : Bool) → is_return (if a then (if b then last.Brackets else last.Bracket) else last.Other) ≡ false
    go true true = refl
    go true false = refl
    go false b = refl
return_or_apart l (referred r) t = inr (refl, refl)
return_or_apart l (cdata text) t = inr (refl, refl)
return_or_apart l (comment text) t = inr (refl, refl)
return_or_apart l (instruction target rest) t = inr (refl, refl)
return_or_apart l (start_tag tag) t = inr (refl, refl)
return_or_apart l (empty_tag tag) t = inr (refl, refl)
return_or_apart l (end_tag name space) t = inr (refl, refl)

-- after a carriage return
read_return : (t : Token) → encode_utf8_all (token_read (character 0xD) (t ∷ []) ++ (token_read t [] ++ [])) ≡ encode_utf8_all (0xA ∷ []) ++ added last.Return t
read_return (character c) = go (c == 0xD) (c == 0xA) (λ e. ap (λ x. x == 0xA) (eqb-true c 0xD e)) (λ e. ap (λ x. encode_utf8_all (x ∷ [])) (eqb-true c 0xA e))
  where
    go : (a b : Bool) → (a ≡ true → b ≡ false) → (b ≡ true → encode_utf8_all (c ∷ []) ≡ encode_utf8_all (0xA ∷ []))
        → encode_utf8_all ((if b then [] else 0xA ∷ []) ++ ((if a then 0xA ∷ [] else c ∷ []) ++ []))
        ≡ encode_utf8_all (0xA ∷ []) ++ (if a then 0xA ∷ [] else (if b && true then [] else encode_utf8 c))
    go true true n e = cc (n refl)
    go true false n e = encodes-append (0xA ∷ []) (0xA ∷ []) ∙ ap (λ x. encode_utf8_all (0xA ∷ []) ++ x) line_feed
    go false true n e = e refl ∙ sym (append-nil (encode_utf8_all (0xA ∷ [])))
    go false false n e = encodes-append (0xA ∷ []) (c ∷ []) ∙ ap (λ x. encode_utf8_all (0xA ∷ []) ++ x) (append-nil (encode_utf8 c))
read_return (referred r) = encodes-append (0xA ∷ []) (character_of r ∷ []) ∙ ap (λ x. encode_utf8_all (0xA ∷ []) ++ x) (append-nil _)
read_return (cdata text) = encodes-append (0xA ∷ []) (lines_read text ++ []) ∙ ap (λ x. encode_utf8_all (0xA ∷ []) ++ encode_utf8_all x) (append-nil _)
read_return (comment text) = sym (append-nil (encode_utf8_all (0xA ∷ [])))
read_return (instruction target rest) = sym (append-nil (encode_utf8_all (0xA ∷ [])))
read_return (start_tag tag) = sym (append-nil (encode_utf8_all (0xA ∷ [])))
read_return (empty_tag tag) = sym (append-nil (encode_utf8_all (0xA ∷ [])))
read_return (end_tag name space) = sym (append-nil (encode_utf8_all (0xA ∷ [])))

read_pair : (l : Last) (r t : Token) → encode_utf8_all (token_read r (t ∷ []) ++ (token_read t [] ++ [])) ≡ encode_utf8_all (token_read r [] ++ []) ++ added (after_token l r) t
read_pair l r t = ⊎_elim
    (λ (e : r ≡ character 0xD). rw e (read_return t))
    (λ (a : Apart l r t).
    encodes-append (token_read r (t ∷ [])) (token_read t [] ++ [])
    ∙ ap₂ (λ x y. encode_utf8_all x ++ y) (a.1 ∙ sym (append-nil (token_read r []))) (read_single (after_token l r) t a.0))
    (return_or_apart l r t)

-- of what comes next only the first token matters
pub next_same : (r s : Token) (xs ys : List Token) → token_read r (s ∷ xs) ≡ token_read r (s ∷ ys)
next_same (character c) (character d) xs ys = refl
next_same (character c) s xs ys = refl
next_same r s xs ys = refl

read_more : (l : Last) (r : Token) (ts : List Token) (t : Token)
    → encode_utf8_all (run_read (r ∷ (ts ++ t ∷ []))) ≡ encode_utf8_all (run_read (r ∷ ts)) ++ added (last_from l (r ∷ ts)) t
read_more l r [] t = read_pair l r t
read_more l r (s ∷ ts) t =
    ap (λ x. encode_utf8_all (x ++ run_read (s ∷ (ts ++ t ∷ [])))) (next_same r s (ts ++ t ∷ []) ts)
    ∙ encodes-append (token_read r (s ∷ ts)) (run_read (s ∷ (ts ++ t ∷ [])))
    ∙ ap (λ x. encode_utf8_all (token_read r (s ∷ ts)) ++ x) (read_more (after_token l r) s ts t)
    ∙ sym (append_assoc (encode_utf8_all (token_read r (s ∷ ts))) (encode_utf8_all (run_read (s ∷ ts))) _)
    ∙ ap (λ x. x ++ added (last_from l (r ∷ s ∷ ts)) t) (sym (encodes-append (token_read r (s ∷ ts)) (run_read (s ∷ ts))))

-- one token more, and its text
pub read_snoc : (ts : List Token) (t : Token) → encode_utf8_all (run_read (ts ++ t ∷ [])) ≡ encode_utf8_all (run_read ts) ++ added (last_from last.Other ts) t
read_snoc [] t = read_single last.Other t refl
read_snoc (r ∷ ts) t = read_more last.Other r ts t

-- brackets

abbrev pub InBrackets : List Token → Type 0
InBrackets ts = (front : List Token) × (ts ≡ front ++ character 0x5D ∷ character 0x5D ∷ [])

pub brackets_last : (ts : List Token) → InBrackets ts → is_brackets (last_from last.Other ts) ≡ true
brackets_last ts (front, e) = rw e (go last.Other front)
  where
    both : (l : Last) → is_brackets (last_from l (character 0x5D ∷ character 0x5D ∷ [])) ≡ true
    both last.Other = refl
    both last.Return = refl
    both last.Bracket = refl
    both last.Brackets = refl

    go : (l : Last) (front : List Token) → is_brackets (last_from l (front ++ character 0x5D ∷ character 0x5D ∷ [])) ≡ true
    go l [] = both l
    go l (x ∷ xs) = go (after_token l x) xs

abbrev Bracketed : Last → List Token → Type 0
Bracketed l ts = InBrackets ts ⊎ (((ts ≡ character 0x5D ∷ []) × (is_bracket l ≡ true)) ⊎ ((ts ≡ []) × (is_brackets l ≡ true)))

bracket_is : (l : Last) (t : Token) → is_bracket (after_token l t) ≡ true → t ≡ character 0x5D
bracket_is l (character c) h = ⊎_elim
    (λ (e : (c == 0xD) ≡ true). cc (rw e at h))
    (λ (e : (c == 0xD) ≡ false). ⊎_elim (λ f. ap character (eqb-true c 0x5D f)) (λ (f : (c == 0x5D) ≡ false). cc (rw (e, f) at h)) (cases_Bool (c == 0x5D)))
    (cases_Bool (c == 0xD))
bracket_is l t h = cc

brackets_are_bracket : (l : Last) → is_brackets l ≡ true → is_bracket l ≡ true
brackets_are_bracket last.Brackets h = refl
brackets_are_bracket l h = cc

brackets_before : (l : Last) → is_brackets (last_after l 0x5D) ≡ true → is_bracket l ≡ true
brackets_before last.Other h = cc
brackets_before last.Return h = cc
brackets_before last.Bracket h = refl
brackets_before last.Brackets h = refl

bracketed : (l : Last) (ts : List Token) → is_brackets (last_from l ts) ≡ true → Bracketed l ts
bracketed l [] h = inr (inr (refl, h))
bracketed l (t ∷ ts) h = ⊎_elim
    (λ (b : InBrackets ts). inl (t ∷ b.0, ap (λ x. t ∷ x) b.1))
    (λ o. ⊎_elim
    (λ (b : (ts ≡ character 0x5D ∷ []) × (is_bracket (after_token l t) ≡ true)). inl ([], ap₂ ◌∷◌ (bracket_is l t b.1) b.0))
    (λ (b : (ts ≡ []) × (is_brackets (after_token l t) ≡ true)).
    let same = bracket_is l t (brackets_are_bracket _ b.1) in
    inr (inl (ap₂ ◌∷◌ same b.0, brackets_before l (rw same at b.1)))) o)
    (bracketed (after_token l t) ts h)

pub last_brackets : (ts : List Token) → is_brackets (last_from last.Other ts) ≡ true → InBrackets ts
last_brackets ts h = ⊎_elim (λ b. b) (λ o. ⊎_elim (λ b. cc b.1) (λ b. cc b.1) o) (bracketed last.Other ts h)
