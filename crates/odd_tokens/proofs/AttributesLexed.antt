-- Written names, references and attributes end in one way.
use Rattle.std.proofs.Common.{◌≡◌, ◌≢◌, ℕ, Bool, true, false, ◌||◌, ◌==◌, List, [], ◌∷◌, ◌++◌, sym, refl, append_assoc, ⊎_elim, not, if◌then◌else◌, ap, ◌∙◌, codes, All, arith}
use Rattle.std.proofs.lemmas.Bool.{both_ways, and_parts, and_from, or_parts, or_cases, eqb-true, false_from_ne_true}
use Rattle.std.proofs.lemmas.List.Elements.{All-head, All-tail}
use Rattle.std.specs.List.{list_all}
use Rattle.odd_tokens.proofs.Characters.{Stops, same_front, all_weaker, decimal_base, hexadecimal_base, decimal_no_x}
use Rattle.odd_tokens.specs.Characters.{is_space, is_name_start, is_name_char, is_ncname, is_white}
use Rattle.odd_text.specs.Same.{is_same}
use Rattle.odd_tokens.specs.Tokens.{QName, IsQName, name_written, Reference, lt, gt, amp, apos, quot, decimal, hexadecimal, IsReference, is_decimal_digit, is_hexadecimal_digit, reference_written, Piece, itself, reference, Attribute, IsPieceIn, IsAttribute, value_written, attribute_written}

abbrev pub is_name_part : ℕ → Bool
is_name_part c = is_name_char c || c == 0x3A

-- what holds of the four characters of white space holds of any
pub at_space : (P : ℕ → Type 0) → P 0x20 → P 0x9 → P 0xD → P 0xA → (c : ℕ) → is_space c ≡ true → P c
at_space P a b d e c h =
    ⊎_elim
    (λ h₁. ⊎_elim (λ h₂. ⊎_elim (λ h₃. rw (eqb-true c 0x20 h₃) a) (λ h₃. rw (eqb-true c 0x9 h₃) b) (or_cases (c == 0x20) (c == 0x9) h₂))
    (λ h₂. rw (eqb-true c 0xD h₂) d) (or_cases (c == 0x20 || c == 0x9) (c == 0xD) h₁))
    (λ h₁. rw (eqb-true c 0xA h₁) e)
    (or_cases (c == 0x20 || c == 0x9 || c == 0xD) (c == 0xA) h)

pub colon_ends : is_name_char 0x3A ≡ false
unfolding is_name_char is_name_start
colon_ends = refl

-- what may follow a name: white space, `=`, `>`, `/`, `?`
pub space_ends : (c : ℕ) → is_space c ≡ true → is_name_part c ≡ false
unfolding is_name_char is_name_start
space_ends c h = at_space (λ x. is_name_part x ≡ false) refl refl refl refl c h

pub equals_ends : is_name_part 0x3D ≡ false
unfolding is_name_char is_name_start
equals_ends = refl

pub greater_ends : is_name_part 0x3E ≡ false
unfolding is_name_char is_name_start
greater_ends = refl

pub slash_ends : is_name_part 0x2F ≡ false
unfolding is_name_char is_name_start
slash_ends = refl

pub question_ends : is_name_part 0x3F ≡ false
unfolding is_name_char is_name_start
question_ends = refl

pub start_is_char : (c : ℕ) → is_name_start c ≡ true → is_name_char c ≡ true
unfolding is_name_char
start_is_char c h = rw h refl

pub bang_ends : is_name_part 0x21 ≡ false
unfolding is_name_char is_name_start
bang_ends = refl

-- a name begins with no character that ends one
pub start_apart : (c d : ℕ) → is_name_start c ≡ true → is_name_part d ≡ false → c ≢ d
start_apart c d a b e = both_ways _ (or_parts _ _ b).0 (start_is_char d (rw e at a))

pub ncname_chars : (cs : List ℕ) → is_ncname cs ≡ true → list_all is_name_char cs ≡ true
ncname_chars [] h = cc
ncname_chars (c ∷ cs) h = and_from _ _ (start_is_char c (and_parts _ _ h).0) (and_parts _ _ h).1

-- what stops a name stops its parts too
pub stops_part : (cs : List ℕ) → Stops is_name_part cs → Stops is_name_char cs
stops_part [] h = tt
stops_part (c ∷ cs) h = (or_parts _ _ h).0

abbrev qname : List ℕ → List ℕ → QName
qname p l = record { prefix = p; local = l }

no_colon : (more cs : List ℕ) → Stops is_name_part more → more ≢ 0x3A ∷ cs
no_colon more cs s e = let h : is_name_part 0x3A ≡ false = rw e at s in let k : true ≡ false = (or_parts (is_name_char 0x3A) true h).1 in cc

parts_lexed : (p l q k more rest : List ℕ) → IsQName (qname p l) → IsQName (qname q k) → Stops is_name_part more → Stops is_name_part rest
    → name_written (qname p l) ++ more ≡ name_written (qname q k) ++ rest → (p ≡ q) × (l ≡ k) × (more ≡ rest)
parts_lexed [] l [] k more rest m n s t e =
    let f = same_front is_name_char l k more rest (ncname_chars l m.1) (ncname_chars k n.1) (stops_part more s) (stops_part rest t) e in (refl, f.0, f.1)
parts_lexed [] l (d ∷ ds) k more rest m n s t e =
    let f = same_front is_name_char l (d ∷ ds) more (0x3A ∷ (k ++ rest)) (ncname_chars l m.1) (ncname_chars (d ∷ ds) n.0) (stops_part more s) colon_ends (simp append_assoc at e) in
    absurd (no_colon more (k ++ rest) s f.1)
parts_lexed (c ∷ cs) l [] k more rest m n s t e =
    let f = same_front is_name_char (c ∷ cs) k (0x3A ∷ (l ++ more)) rest (ncname_chars (c ∷ cs) m.0) (ncname_chars k n.1) colon_ends (stops_part rest t) (simp append_assoc at e) in
    absurd (no_colon rest (l ++ more) t (sym f.1))
parts_lexed (c ∷ cs) l (d ∷ ds) k more rest m n s t e =
    let f = same_front is_name_char (c ∷ cs) (d ∷ ds) (0x3A ∷ (l ++ more)) (0x3A ∷ (k ++ rest)) (ncname_chars (c ∷ cs) m.0) (ncname_chars (d ∷ ds) n.0) colon_ends colon_ends (simp append_assoc at e) in
    let g = same_front is_name_char l k more rest (ncname_chars l m.1) (ncname_chars k n.1) (stops_part more s) (stops_part rest t) (cc f.1) in
    (f.0, g.0, g.1)

pub one_name : (m n : QName) (more rest : List ℕ) → IsQName m → IsQName n → Stops is_name_part more → Stops is_name_part rest
    → name_written m ++ more ≡ name_written n ++ rest → (m ≡ n) × (more ≡ rest)
one_name m n more rest a b s t e =
    let f = parts_lexed m.prefix m.local n.prefix n.local more rest a b s t e in
    (λ i. record { prefix = f.0 i; local = f.1 i }, f.2)

-- a written name begins with the start of a name
pub name_begins : (n : QName) (more : List ℕ) → IsQName n → (c : ℕ) × (cs : List ℕ) × (is_name_start c ≡ true) × (name_written n ++ more ≡ c ∷ cs)
name_begins n more h = go n.prefix n.local h
  where
    go : (p l : List ℕ) → IsQName (qname p l) → (c : ℕ) × (cs : List ℕ) × (is_name_start c ≡ true) × (name_written (qname p l) ++ more ≡ c ∷ cs)
    go [] [] h = cc
    go [] (c ∷ cs) h = (c, cs ++ more, (and_parts _ _ h.1).0, refl)
    go (c ∷ cs) l h = (c, _, (and_parts _ _ h.0).0, refl)

-- what stands between `&` and `;`
abbrev inside : Reference → List ℕ
inside lt = codes "lt"
inside gt = codes "gt"
inside amp = codes "amp"
inside apos = codes "apos"
inside quot = codes "quot"
inside (decimal digits) = 0x23 ∷ digits
inside (hexadecimal digits) = 0x23 ∷ 0x78 ∷ digits

written_inside : (r : Reference) (more : List ℕ) → reference_written r ++ more ≡ 0x26 ∷ (inside r ++ 0x3B ∷ more)
written_inside lt more = refl
written_inside gt more = refl
written_inside amp more = refl
written_inside apos more = refl
written_inside quot more = refl
written_inside (decimal digits) more = simp append_assoc
written_inside (hexadecimal digits) more = simp append_assoc

abbrev is_no_semicolon : ℕ → Bool
is_no_semicolon c = not (c == 0x3B)

no_semicolon : (r : Reference) → IsReference r → list_all is_no_semicolon (inside r) ≡ true
no_semicolon lt h = refl
no_semicolon gt h = refl
no_semicolon amp h = refl
no_semicolon apos h = refl
no_semicolon quot h = refl
no_semicolon (decimal digits) h = all_weaker is_decimal_digit is_no_semicolon (λ d k. ap not (decimal_base.no_mark d k)) digits h.1
no_semicolon (hexadecimal digits) h = all_weaker is_hexadecimal_digit is_no_semicolon (λ d k. ap not (hexadecimal_base.no_mark d k)) digits h.1

-- the reference that has this inside
abbrev numbered : List ℕ → Reference
numbered [] = lt
numbered (c ∷ []) = lt
numbered (c ∷ d ∷ ds) = if d == 0x78 then hexadecimal ds else decimal (d ∷ ds)

abbrev decoded : List ℕ → Reference
decoded cs = if is_same cs (codes "lt") then lt else (if is_same cs (codes "gt") then gt else (if is_same cs (codes "amp") then amp
    else (if is_same cs (codes "apos") then apos else (if is_same cs (codes "quot") then quot else numbered cs))))

decoded-inside : (r : Reference) → IsReference r → decoded (inside r) ≡ r
decoded-inside lt h = refl
decoded-inside gt h = refl
decoded-inside amp h = refl
decoded-inside apos h = refl
decoded-inside quot h = refl
decoded-inside (decimal []) h = absurd (h.0 refl)
decoded-inside (decimal (d ∷ ds)) h = rw (decimal_no_x d (and_parts _ _ h.1).0) refl
decoded-inside (hexadecimal digits) h = refl

pub one_reference : (r s : Reference) (more rest : List ℕ) → IsReference r → IsReference s → reference_written r ++ more ≡ reference_written s ++ rest → (r ≡ s) × (more ≡ rest)
one_reference r s more rest a b e =
    let both : 0x26 ∷ (inside r ++ 0x3B ∷ more) ≡ 0x26 ∷ (inside s ++ 0x3B ∷ rest) = sym (written_inside r more) ∙ e ∙ written_inside s rest in
    let f : (inside r ≡ inside s) × (0x3B ∷ more ≡ 0x3B ∷ rest) = same_front is_no_semicolon (inside r) (inside s) (0x3B ∷ more) (0x3B ∷ rest) (no_semicolon r a) (no_semicolon s b) refl refl (cc both) in
    (sym (decoded-inside r a) ∙ ap decoded f.0 ∙ decoded-inside s b, cc f.1)

-- a written reference begins with `&`
pub reference_begins : (r : Reference) (more : List ℕ) → (cs : List ℕ) × (reference_written r ++ more ≡ 0x26 ∷ cs)
reference_begins r more = (_, written_inside r more)

-- values, up to their quote

first_is_amp : (c : ℕ) (cs : List ℕ) (r : Reference) (v more : List ℕ) → c ∷ cs ≡ reference_written r ++ v ++ more → c ≡ 0x26
first_is_amp c cs r v more e = cc (e ∙ append_assoc (reference_written r) v more, (reference_begins r (v ++ more)).1)

one_value : (quote : ℕ) → quote ≢ 0x26 → (ps qs : List Piece) (more rest : List ℕ) → All (IsPieceIn quote) ps → All (IsPieceIn quote) qs
    → value_written ps ++ quote ∷ more ≡ value_written qs ++ quote ∷ rest → (ps ≡ qs) × (more ≡ rest)
one_value quote n [] [] more rest a b e = (refl, cc)
one_value quote n [] (itself d ∷ qs) more rest a b e = absurd ((All-head (IsPieceIn quote) (itself d) qs b).3 (cc))
one_value quote n [] (reference s ∷ qs) more rest a b e = absurd (n (first_is_amp _ _ s (value_written qs) (quote ∷ rest) e))
one_value quote n (itself c ∷ ps) [] more rest a b e = absurd ((All-head (IsPieceIn quote) (itself c) ps a).3 (cc))
one_value quote n (itself c ∷ ps) (itself d ∷ qs) more rest a b e =
    let f : (ps ≡ qs) × (more ≡ rest) = one_value quote n ps qs more rest (All-tail (IsPieceIn quote) (itself c) ps a) (All-tail (IsPieceIn quote) (itself d) qs b) (cc) in
    (cc f.0, f.1)
one_value quote n (itself c ∷ ps) (reference s ∷ qs) more rest a b e = absurd ((All-head (IsPieceIn quote) (itself c) ps a).2 (first_is_amp _ _ s (value_written qs) (quote ∷ rest) e))
one_value quote n (reference r ∷ ps) [] more rest a b e = absurd (n (first_is_amp _ _ r (value_written ps) (quote ∷ more) (sym e)))
one_value quote n (reference r ∷ ps) (itself d ∷ qs) more rest a b e = absurd ((All-head (IsPieceIn quote) (itself d) qs b).2 (first_is_amp _ _ r (value_written ps) (quote ∷ more) (sym e)))
one_value quote n (reference r ∷ ps) (reference s ∷ qs) more rest a b e =
    let f : (r ≡ s) × (value_written ps ++ quote ∷ more ≡ value_written qs ++ quote ∷ rest) =
    one_reference r s _ _ (All-head (IsPieceIn quote) (reference r) ps a) (All-head (IsPieceIn quote) (reference s) qs b)
    (sym (append_assoc (reference_written r) (value_written ps) (quote ∷ more)) ∙ e ∙ append_assoc (reference_written s) (value_written qs) (quote ∷ rest)) in
    let g : (ps ≡ qs) × (more ≡ rest) = one_value quote n ps qs more rest (All-tail (IsPieceIn quote) (reference r) ps a) (All-tail (IsPieceIn quote) (reference s) qs b) f.1 in
    (cc (f.0, g.0), g.1)

-- attributes

pub start_not_space : (c : ℕ) → is_name_start c ≡ true → is_space c ≡ false
start_not_space c h = false_from_ne_true _ (λ w. start_apart c c h (space_ends c w) refl)

pub name_not_space : (n : QName) (more : List ℕ) → IsQName n → Stops is_space (name_written n ++ more)
name_not_space n more h = let b = name_begins n more h in rw b.3 (start_not_space b.0 b.2)

-- white space stops what its characters stop
pub white_stops : (p : ℕ → Bool) → ((c : ℕ) → is_space c ≡ true → p c ≡ false) → (w more : List ℕ) → is_white w ≡ true → Stops p more → Stops p (w ++ more)
white_stops p f [] more h s = s
white_stops p f (c ∷ cs) more h s = f c (and_parts _ _ h).0

pub at_quote : (P : ℕ → Type 0) → P 0x22 → P 0x27 → (q : ℕ) → (q == 0x22 || q == 0x27) ≡ true → P q
at_quote P a b q h = ⊎_elim (λ h₁. rw (eqb-true q 0x22 h₁) a) (λ h₁. rw (eqb-true q 0x27 h₁) b) (or_cases (q == 0x22) (q == 0x27) h)

pub quote_not_space : (q : ℕ) → (q == 0x22 || q == 0x27) ≡ true → is_space q ≡ false
quote_not_space q h = at_quote (λ x. is_space x ≡ false) refl refl q h

quote_not_amp : (q : ℕ) → (q == 0x22 || q == 0x27) ≡ true → q ≢ 0x26
quote_not_amp q h = at_quote (λ x. x ≢ 0x26) (λ e. omega arith) (λ e. omega arith) q h

-- what is written after each part of an attribute
abbrev from_value : Attribute → List ℕ → List ℕ
from_value a more = value_written a.value ++ a.quote ∷ more

abbrev from_equals : Attribute → List ℕ → List ℕ
from_equals a more = 0x3D ∷ (a.after ++ a.quote ∷ from_value a more)

abbrev pub from_name : Attribute → List ℕ → List ℕ
from_name a more = name_written a.name ++ (a.before ++ from_equals a more)

pub attribute_parts : (a : Attribute) (more : List ℕ) → attribute_written a ++ more ≡ a.space ++ from_name a more
attribute_parts a more = simp append_assoc

one_quoted : (a b : Attribute) (more rest : List ℕ) → IsAttribute a → IsAttribute b → a.quote ∷ from_value a more ≡ b.quote ∷ from_value b rest
    → (a.quote ≡ b.quote) × (a.value ≡ b.value) × (more ≡ rest)
one_quoted a b more rest m n e =
    let q : a.quote ≡ b.quote = cc in
    let v : All (IsPieceIn a.quote) b.value = rw q n.valued in
    let f = one_value a.quote (quote_not_amp a.quote m.quoted) a.value b.value more rest m.valued v (cc q) in
    (q, f.0, f.1)

pub one_attribute : (a b : Attribute) (more rest : List ℕ) → IsAttribute a → IsAttribute b → attribute_written a ++ more ≡ attribute_written b ++ rest → (a ≡ b) × (more ≡ rest)
one_attribute a b more rest m n e =
    let s = same_front is_space a.space b.space (from_name a more) (from_name b rest) m.spaced.1 n.spaced.1 (name_not_space a.name _ m.named) (name_not_space b.name _ n.named)
    (sym (attribute_parts a more) ∙ e ∙ attribute_parts b rest) in
    let f = one_name a.name b.name (a.before ++ from_equals a more) (b.before ++ from_equals b rest) m.named n.named
    (white_stops is_name_part space_ends a.before _ m.around.0 equals_ends) (white_stops is_name_part space_ends b.before _ n.around.0 equals_ends) s.1 in
    let g = same_front is_space a.before b.before (from_equals a more) (from_equals b rest) m.around.0 n.around.0 refl refl f.1 in
    let h = same_front is_space a.after b.after (a.quote ∷ from_value a more) (b.quote ∷ from_value b rest) m.around.1 n.around.1
    (quote_not_space a.quote m.quoted) (quote_not_space b.quote n.quoted) (cc g.1) in
    let q = one_quoted a b more rest m n h.1 in
    (λ i. record { space = s.0 i; name = f.0 i; before = g.0 i; after = h.0 i; quote = q.0 i; value = q.1 i }, q.2)
