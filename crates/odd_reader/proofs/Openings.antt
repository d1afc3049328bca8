-- The opening of a file is read in one way: no token that fits first, and nothing behind it, is taken for a part of it.
use Rattle.std.proofs.Common.{◌≡◌, ◌≢◌, ℕ, ◌+◌, ◌≤◌, Bool, true, false, not, ◌||◌, ◌==◌, if◌then◌else◌, List, [], ◌∷◌, ◌++◌, map, sym, refl, ap, ◌∙◌, append_assoc, Option, Some, None, All, codes, drop, append-nil, ⊎_elim, le_of_eq, arith}
use Rattle.std.proofs.lemmas.Bool.{and_from, and_parts, or_cases, or_parts}
use Rattle.std.proofs.lemmas.Bool.Decides.{nat_tests}
use Rattle.std.proofs.lemmas.List.Elements.{All-nil, All-cons}
use Rattle.std.proofs.lemmas.List.Folds.{list_all-append}
use Rattle.std.specs.Cmp.Lexicographic.{same_text}
use Rattle.std.specs.List.{list_all}
use Rattle.odd_tokens.specs.Characters.{is_space, is_name_char, is_name_start, is_white}
use Rattle.odd_tree.specs.Fitting.{AreOpen, none, more, Fits, FitsIn, AllFit}
use Rattle.odd_text.specs.Same.{is_same}
use Rattle.odd_tokens.specs.Openings.{Setting, setting_written, IsSetting, Declaration, declaration_written, IsDeclaration, Opening, opening_written, IsOpening}
use Rattle.odd_tokens.specs.Tokens.{Tag, Token, character, instruction, start_tag, IsToken, token_written, tokens_written, size_of}
use Rattle.odd_reader.specs.Reading.{is_fresh}
use Rattle.odd_tree.proofs.Fits.{size_of_append}
use Rattle.odd_tokens.proofs.Ascii.{lowered}
use Rattle.odd_tokens.proofs.Characters.{Stops, same_front, all_weaker}
use Rattle.odd_tokens.proofs.AttributesLexed.{at_space, ncname_chars, space_ends, at_quote}
use Rattle.odd_tokens.proofs.Lexing.{same_at, kind_of, kind-written, set_off_stops}

-- tokens that fit are tokens
tokens_each : (ts : List Token) → ((before after : List Token) (t : Token) → ts ≡ before ++ t ∷ after → IsToken t) → All IsToken ts
tokens_each [] h = All-nil IsToken
tokens_each (t ∷ ts) h = All-cons IsToken t ts (h [] ts t refl) (tokens_each ts (λ before after u e. h (t ∷ before) after u (ap (λ l. t ∷ l) e)))

pub fitting_tokens : (ts : List Token) → AllFit ts → All IsToken ts
fitting_tokens ts h = tokens_each ts (λ before after t e. (h before after t e).token)

-- no element is open before the first token
pub none_open : (tags : List Tag) (ts : List Token) → AreOpen tags ts → ts ≡ [] → tags ≡ []
none_open tags ts (none h) e = refl
none_open tags ts (more {tag = g} before inside h o p) e = absurd (nothing_after before (sym p ∙ e))
  where
    nothing_after : (bs : List Token) → bs ++ start_tag g ∷ inside ≢ []
    nothing_after [] k = cc
    nothing_after (b ∷ bs) k = cc

fits_first : (t : Token) → Fits [] t → FitsIn [] [] t
fits_first t h = rw (none_open h.open_tags [] h.are_open refl) at h.fits_in

-- the byte order mark

no_mark : (t : Token) (rest cs : List ℕ) → Fits [] t → token_written t ++ rest ≢ 0xFEFF ∷ cs
no_mark t rest cs h e = go t h.token (fits_first t h) e
  where
    go : (u : Token) → IsToken u → FitsIn [] [] u → token_written u ++ rest ≢ 0xFEFF ∷ cs
    go (character c) a f k = let s : is_space 0xFEFF ≡ true = rw (same_at 0 k) at f in let s' : false ≡ true = s in cc
    go u a f k = omega (arith, sym (kind-written u rest a) ∙ ap kind_of k)

-- an XML declaration holds no question mark but at its ends

abbrev no_question : ℕ → Bool
no_question c = not (c == 0x3F)

abbrev IsPlain : List ℕ → Type 0
IsPlain cs = list_all no_question cs ≡ true

white_plain : (cs : List ℕ) → is_white cs ≡ true → IsPlain cs
white_plain cs h = all_weaker is_space no_question (at_space (λ x. no_question x ≡ true) refl refl refl refl) cs h

setting_plain : (name : List ℕ) (accepts : List ℕ → Bool) (s : Setting) → IsPlain name → ((v : List ℕ) → accepts v ≡ true → IsPlain v) → IsSetting accepts s → IsPlain (setting_written name s)
setting_plain name accepts s n v h =
    let a : IsPlain s.space = white_plain s.space h.spaced.1 in
    let b : IsPlain s.before = white_plain s.before h.around.0 in
    let c : IsPlain s.after = white_plain s.after h.around.1 in
    let d : IsPlain s.value = v s.value h.accepted in
    let q : no_question s.quote ≡ true = at_quote (λ x. no_question x ≡ true) refl refl s.quote h.quoted in
    simp (list_all-append, a, n, b, c, d, q)

same_plain : (xs ys : List ℕ) → is_same xs ys ≡ true → IsPlain ys → IsPlain xs
same_plain xs ys e h = rw (same_text xs ys (sym e)) h

lowered_plain : (cs : List ℕ) → IsPlain (map lowered cs) → IsPlain cs
lowered_plain [] h = refl
lowered_plain (c ∷ cs) h = and_from _ _ (one c (and_parts _ _ h).0) (lowered_plain cs (and_parts _ _ h).1)
  where
    one : (d : ℕ) → no_question (lowered d) ≡ true → no_question d ≡ true
    one d k = grind (arith, nat_tests)

version_plain : (v : List ℕ) → is_same v (codes "1.0") ≡ true → IsPlain v
version_plain v h = same_plain v (codes "1.0") h refl

encoding_plain : (v : List ℕ) → is_same (map lowered v) (codes "utf-8") ≡ true → IsPlain v
encoding_plain v h = lowered_plain v (same_plain (map lowered v) (codes "utf-8") h refl)

standalone_plain : (v : List ℕ) → (is_same v (codes "yes") || is_same v (codes "no")) ≡ true → IsPlain v
standalone_plain v h = ⊎_elim (λ k. same_plain v (codes "yes") k refl) (λ k. same_plain v (codes "no") k refl) (or_cases (is_same v (codes "yes")) (is_same v (codes "no")) h)

-- what stands between the question marks of a declaration
abbrev optional : List ℕ → Option Setting → List ℕ
optional name None = []
optional name (Some s) = setting_written name s

abbrev inside : Declaration → List ℕ
inside d = codes "xml" ++ (setting_written (codes "version") d.version ++ (optional (codes "encoding") d.encoding ++ (optional (codes "standalone") d.standalone ++ d.space)))

abbrev declaration : Setting → Option Setting → Option Setting → List ℕ → Declaration
declaration v e a s = record { version = v; encoding = e; standalone = a; space = s }

six_parts : (v e a s q rest : List ℕ) → codes "<?xml" ++ v ++ e ++ a ++ s ++ q ++ rest ≡ 0x3C ∷ 0x3F ∷ (codes "xml" ++ (v ++ (e ++ (a ++ s))) ++ (q ++ rest))
six_parts v e a s q rest = simp append_assoc

written_inside : (v : Setting) (e a : Option Setting) (s rest : List ℕ) → declaration_written (declaration v e a s) ++ rest ≡ 0x3C ∷ 0x3F ∷ (inside (declaration v e a s) ++ (codes "?>" ++ rest))
written_inside v None None s rest = six_parts (setting_written (codes "version") v) [] [] s (codes "?>") rest
written_inside v None (Some a) s rest = six_parts (setting_written (codes "version") v) [] (setting_written (codes "standalone") a) s (codes "?>") rest
written_inside v (Some e) None s rest = six_parts (setting_written (codes "version") v) (setting_written (codes "encoding") e) [] s (codes "?>") rest
written_inside v (Some e) (Some a) s rest = six_parts (setting_written (codes "version") v) (setting_written (codes "encoding") e) (setting_written (codes "standalone") a) s (codes "?>") rest

parts_plain : (v e a s : List ℕ) → IsPlain v → IsPlain e → IsPlain a → IsPlain s → IsPlain (codes "xml" ++ (v ++ (e ++ (a ++ s))))
parts_plain v e a s h i j k = simp (list_all-append, h, i, j, k)

inside_plain : (v : Setting) (e a : Option Setting) (s : List ℕ) → IsDeclaration (declaration v e a s) → IsPlain (inside (declaration v e a s))
inside_plain v e a s h =
    parts_plain (setting_written (codes "version") v) (optional (codes "encoding") e) (optional (codes "standalone") a) s
    (setting_plain (codes "version") _ v refl version_plain h.versioned) (encoding e h) (standalone a h) (white_plain s h.ended)
  where
    encoding : (o : Option Setting) → IsDeclaration (declaration v o a s) → IsPlain (optional (codes "encoding") o)
    encoding None k = refl
    encoding (Some o) k = setting_plain (codes "encoding") _ o refl encoding_plain k.encoded

    standalone : (o : Option Setting) → IsDeclaration (declaration v e o s) → IsPlain (optional (codes "standalone") o)
    standalone None k = refl
    standalone (Some o) k = setting_plain (codes "standalone") _ o refl standalone_plain k.alone

declaration_inside : (d : Declaration) (rest : List ℕ) → declaration_written d ++ rest ≡ 0x3C ∷ 0x3F ∷ (inside d ++ (codes "?>" ++ rest))
declaration_inside d rest = written_inside d.version d.encoding d.standalone d.space rest

declaration_plain : (d : Declaration) → IsDeclaration d → IsPlain (inside d)
declaration_plain d h = inside_plain d.version d.encoding d.standalone d.space h

one_declaration : (d e : Declaration) (xs ys : List ℕ) → IsDeclaration d → IsDeclaration e → declaration_written d ++ xs ≡ declaration_written e ++ ys
    → (declaration_written d ≡ declaration_written e) × (xs ≡ ys)
one_declaration d e xs ys h k p =
    let f = same_front no_question (inside d) (inside e) (codes "?>" ++ xs) (codes "?>" ++ ys) (declaration_plain d h) (declaration_plain e k) refl refl
    (ap (drop 2) (sym (declaration_inside d xs) ∙ p ∙ declaration_inside e ys)) in
    let g : declaration_written d ++ [] ≡ declaration_written e ++ [] = declaration_inside d [] ∙ ap (λ l. 0x3C ∷ 0x3F ∷ (l ++ codes "?>")) f.0 ∙ sym (declaration_inside e []) in
    (sym (append-nil (declaration_written d)) ∙ g ∙ append-nil (declaration_written e), ap (drop 2) f.1)

-- no token is taken for a declaration: only an instruction begins alike, and its target is not xml

space_stops : (w name before after value xs ys : List ℕ) (q : ℕ) → (w ≢ []) → is_white w ≡ true
    → Stops is_name_char (setting_written name (record { space = w; before = before; after = after; quote = q; value = value }) ++ xs ++ ys)
space_stops [] name before after value xs ys q n h = absurd (n refl)
space_stops (c ∷ cs) name before after value xs ys q n h = (or_parts _ _ (space_ends c (and_parts _ _ h).0)).0

xml_chars : list_all is_name_char (codes "xml") ≡ true
unfolding is_name_char is_name_start
xml_chars = refl

no_xml : (target tail ms xs ys : List ℕ) (v : Setting) (accepts : List ℕ → Bool) → IsToken (instruction target tail) → IsSetting accepts v
    → target ++ (tail ++ (codes "?>" ++ ms)) ≢ codes "xml" ++ (setting_written (codes "version") v ++ xs ++ ys)
no_xml target tail ms xs ys v accepts a h e =
    let f = same_front is_name_char target (codes "xml") _ _ (ncname_chars target a.0) xml_chars (set_off_stops tail ms a.2)
    (space_stops v.space (codes "version") v.before v.after v.value xs ys v.quote h.spaced.0 h.spaced.1) e in
    let g : false ≡ true = rw f.0 at a.1 in
    cc

no_declaration : (t : Token) (d : Declaration) (ms rest : List ℕ) → IsToken t → IsDeclaration d → token_written t ++ ms ≢ declaration_written d ++ rest
no_declaration (instruction target tail) d ms rest a h e =
    let p : target ++ tail ++ codes "?>" ++ ms ≡ target ++ (tail ++ (codes "?>" ++ ms)) = simp append_assoc in
    no_xml target tail ms _ _ d.version _ a h.versioned (sym p ∙ ap (drop 2) (e ∙ declaration_inside d rest))
no_declaration t d ms rest a h e = omega (arith, sym (kind-written t ms a) ∙ ap kind_of e)

-- no opening of the file is longer, where none goes on with what stands behind an opening and tokens

abbrev mark_written : Bool → List ℕ
mark_written m = if m then 0xFEFF ∷ [] else []

abbrev declared_written : Option Declaration → List ℕ
declared_written d = opening_written (record { mark = false; declaration = d })

less_is_no_mark : (xs ys : List ℕ) → 0x3C ∷ xs ≢ 0xFEFF ∷ ys
less_is_no_mark xs ys e = cc e

no_marked : (d : Option Declaration) (ts : List Token) (xs ys : List ℕ) → AllFit ts → (is_fresh d ts ≡ true → (zs : List ℕ) → xs ≢ 0xFEFF ∷ zs)
    → declared_written d ++ (tokens_written ts ++ xs) ≢ 0xFEFF ∷ ys
no_marked None [] xs ys fit h e = h refl ys e
no_marked None (t ∷ ts) xs ys fit h e = no_mark t (tokens_written ts ++ xs) ys (fit [] ts t refl) (sym (append_assoc (token_written t) (tokens_written ts) xs) ∙ e)
no_marked (Some d) ts xs ys fit h e = less_is_no_mark _ ys e

declared_shorter : (d e : Option Declaration) (ts : List Token) (xs ys : List ℕ) → IsOpening (record { mark = false; declaration = d }) → IsOpening (record { mark = false; declaration = e })
    → AllFit ts → (is_fresh d ts ≡ true → (f : Declaration) (zs : List ℕ) → IsDeclaration f → xs ≢ declaration_written f ++ zs)
    → declared_written d ++ (tokens_written ts ++ xs) ≡ declared_written e ++ ys → size_of (declared_written e) ≤ size_of (declared_written d)
declared_shorter d None ts xs ys i j fit h p = omega arith
declared_shorter (Some d) (Some e) ts xs ys i j fit h p = le_of_eq (ap size_of (sym (one_declaration d e (tokens_written ts ++ xs) ys i j p).0))
declared_shorter None (Some e) [] xs ys i j fit h p = absurd (h refl e ys j p)
declared_shorter None (Some e) (t ∷ ts) xs ys i j fit h p =
    absurd (no_declaration t e (tokens_written ts ++ xs) ys (fit [] ts t refl).token j (sym (append_assoc (token_written t) (tokens_written ts) xs) ∙ p))

-- what stands behind is no byte order mark, where there was none before, and no declaration
pub record OpensNone (mark : Bool) (xs : List ℕ) : Type 0 where
  pub unmarked : mark ≡ false → (ys : List ℕ) → xs ≢ 0xFEFF ∷ ys
  pub undeclared : (d : Declaration) (ys : List ℕ) → IsDeclaration d → xs ≢ declaration_written d ++ ys

marks_shorter : (m n : Bool) (d e : Option Declaration) (ts : List Token) (xs ys : List ℕ) → IsOpening (record { mark = m; declaration = d }) → IsOpening (record { mark = n; declaration = e })
    → AllFit ts → (is_fresh d ts ≡ true → OpensNone m xs) → mark_written m ++ (declared_written d ++ (tokens_written ts ++ xs)) ≡ mark_written n ++ (declared_written e ++ ys)
    → size_of (mark_written n) + size_of (declared_written e) ≤ size_of (mark_written m) + size_of (declared_written d)
marks_shorter true true d e ts xs ys i j fit h p =
    let low = declared_shorter d e ts xs ys i j fit (λ f. (h f).undeclared) (ap (drop 1) p) in omega (arith, low)
marks_shorter false false d e ts xs ys i j fit h p = let low = declared_shorter d e ts xs ys i j fit (λ f. (h f).undeclared) p in omega (arith, low)
marks_shorter false true d e ts xs ys i j fit h p = absurd (no_marked d ts xs (declared_written e ++ ys) fit (λ f. (h f).unmarked refl) p)
marks_shorter true false d None ts xs ys i j fit h p = omega arith
marks_shorter true false d (Some e) ts xs ys i j fit h p = absurd (less_is_no_mark _ (declared_written d ++ (tokens_written ts ++ xs)) (sym p))

pub shorter : (o p : Opening) (ts : List Token) (xs ys : List ℕ) → IsOpening o → IsOpening p → AllFit ts → (is_fresh o.declaration ts ≡ true → OpensNone o.mark xs)
    → opening_written o ++ (tokens_written ts ++ xs) ≡ opening_written p ++ ys → size_of (opening_written p) ≤ size_of (opening_written o)
shorter o p ts xs ys i j fit h e =
    let d = declared_written o.declaration in
    let c = declared_written p.declaration in
    let low = marks_shorter o.mark p.mark o.declaration p.declaration ts xs ys i j fit h
    (sym (append_assoc (mark_written o.mark) d (tokens_written ts ++ xs)) ∙ e ∙ append_assoc (mark_written p.mark) c ys) in
    omega (arith, low, size_of_append (mark_written o.mark) d, size_of_append (mark_written p.mark) c)
