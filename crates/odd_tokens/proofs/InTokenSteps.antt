-- What was read of a token in each state of the lexer, and what the next character makes of it.
use Rattle.std.proofs.Common.{◌≡◌, ◌⊎◌, ℕ, ◌≤◌, Bool, true, false, List, Some, None, codes, zero, suc, ◌&&◌, ◌==◌, if◌then◌else◌, [], ◌∷◌, ◌++◌, refl, sym, arith, subst, inl, inr, not, ◌||◌, ◌∙◌, ⊎_elim, encode_utf8}
use Rattle.std.proofs.lemmas.Bool.{cond_both, eqb-true, and_parts, and_from, both_ways, false≢true, eq-eqb, or_cases, not-true}
use Rattle.std.specs.Str.{str_eq_ignore_ascii_case}
use Rattle.odd_tokens.proofs.InReference.{InReference, at_character, ReferenceStep, goes, ends, stops, reference_kept, reference_steps}
use Rattle.odd_tokens.proofs.InTag.{InTag, tag_begins, declaration_begins}
use Rattle.odd_tokens.proofs.InTokenCdata.{InCdata, opened, at_letters, cdata_begins, cdata_bracket, cdata_brackets, cdata_more_brackets, cdata_goes_on, cdata_goes_past_one, cdata_goes_past_two, cdata_ends}
use Rattle.odd_tokens.proofs.InTokenInstruction.{InTarget, AfterTarget, InInstruction, target_begins, target_first, target_goes_on, is_target, declares_xml, target_asked, target_ended, target_spaced, instruction_goes_on, instruction_ends}
use Rattle.odd_tokens.proofs.InTokenTexts.{InComment, InEndName, AfterName, comment_begins, comment_dash as dash_read, comment_dashes, comment_goes_on, comment_goes_past, comment_ends, name_first, first_goes_on, colon_follows, local_first, local_goes_on, first_ends, local_ends, space_follows, end_tag_ends}
use Rattle.odd_tokens.proofs.LexedSteps.{IsIdle, IsWhole, IsRead}
use Rattle.odd_tokens.specs.Characters.{is_char, is_name_start, is_space, is_name_char}
use Rattle.odd_tokens.specs.Lexing.{Lexed, Taken, go, done, less, exclamation, comment_dash, comment, cdata_open, cdata, cdata_text, target, target_ends, target_question, instruction, end_space, named_in, reference, fresh_tag, no_name, is_empty}
use Rattle.odd_text.specs.Same.{is_same}
use Rattle.odd_tokens.specs.Tokens as written
use Rattle.odd_tokens.specs.declared.lexer.NamePart.{NamePart}
use Rattle.odd_tokens.specs.declared.lexer.NamePart.TheVariants as part
use Rattle.odd_tokens.specs.declared.lexer.Named.TheVariants as named
use Rattle.odd_tokens.specs.declared.lexer.Place.TheVariants as place
use Rattle.odd_tokens.specs.declared.lexer.ReferencePart.{ReferencePart}
use Rattle.odd_tokens.specs.declared.lexer.State.{State}
use Rattle.odd_tokens.specs.declared.lexer.State.TheVariants as state
use Rattle.odd_tokens.specs.declared.token.Token.{Token}
use Rattle.odd_tokens.specs.declared.token.Token.TheVariants as token

-- where the token begins, and whether a declaration may still come
abbrev pub Stands : Bool → ℕ → Lexed → Type 0
Stands opening at l = (l.opening ≡ opening) × (l.begin ≡ at) × (l.declares ≡ false)

-- what was read of a token that is no tag and no declaration
abbrev pub InPlain : State → Bool → ℕ → List ℕ → Lexed → Type 0
InPlain state.Less opening at read l = Stands opening at l × (read ≡ codes "<")
InPlain state.Exclamation opening at read l = Stands false at l × (read ≡ codes "<!")
InPlain state.CommentDash opening at read l = Stands false at l × (read ≡ codes "<!-")
InPlain (state.Comment dashes) opening at read l = Stands false at l × (dashes ≤ 2) × InComment dashes read
InPlain (state.CdataOpen letters) opening at read l = Stands false at l × (letters ≤ 5) × (read ≡ opened letters)
InPlain (state.Cdata brackets after_return) opening at read l = Stands false at l × (brackets ≤ 2) × InCdata brackets after_return read l.text
InPlain state.Target opening at read l = Stands opening at l × InTarget read l.text
InPlain state.TargetQuestion opening at read l = Stands false at l × AfterTarget read
InPlain (state.Instruction asked) opening at read l = Stands false at l × InInstruction asked read
InPlain (state.Name named.EndTag part) opening at read l = Stands false at l × InEndName part read l.name
InPlain state.EndSpace opening at read l = Stands false at l × AfterName read l.name
InPlain (state.Reference place.Content part) opening at read l = Stands false at l × InReference part read l
InPlain s opening at read l = ⊥

-- and of any token
abbrev pub InToken : (opening : Bool) → (at : ℕ) → (read : List ℕ) → Lexed → Type 0
InToken opening at read l = InPlain l.state opening at read l ⊎ (InTag false at read l ⊎ ((opening ≡ true) × InTag true at read l))

-- the lexer stops, goes on, or ends the token
abbrev pub Follows : Bool → ℕ → List ℕ → Taken → Type 0
Follows opening at read None = Unit {0}
Follows opening at read (Some (m, None)) = InToken opening at read m
Follows opening at read (Some (m, Some made)) = IsIdle m × (m.opening ≡ false) × IsWhole opening at read made

-- after `<`
pub less_steps : (opening : Bool) (at c : ℕ) (l : Lexed) → Stands opening at l → Follows opening at (codes "<" ++ c ∷ []) (less l c)
less_steps opening at c l s =
    at_character F (codes "<") c 0x3F _ _ (inl (s, target_begins (codes "<?") refl)) (λ _.
    at_character F (codes "<") c 0x21 _ _ (inl ((refl, s.1, s.2), refl)) (λ _.
    at_character F (codes "<") c 0x2F _ _ (inl ((refl, s.1, s.2), (refl, refl))) (λ _.
    cond_both (is_name_start c) _ None (F (codes "<" ++ c ∷ [])) (λ h. inr (inl (tag_begins l at c h s.2 s.1))) (λ _. tt))))
  where
    F : List ℕ → Taken → Type 0
    F = Follows opening at

pub exclamation_steps : (opening : Bool) (at c : ℕ) (l : Lexed) → Stands false at l → Follows opening at (codes "<!" ++ c ∷ []) (exclamation l c)
exclamation_steps opening at c l s =
    at_character F (codes "<!") c 0x2D _ _ (inl (s, refl)) (λ _. at_character F (codes "<!") c 0x5B _ _ (inl (s, omega arith, refl)) (λ _. tt))
  where
    F : List ℕ → Taken → Type 0
    F = Follows opening at

-- a token that ends with the character
pub ended : (opening : Bool) (at : ℕ) (read : List ℕ) (l : Lexed) (made : Token) → Stands false at l → IsRead at read made → Follows opening at read (done made l)
ended opening at read l made s h = (record { between = refl; plain = s.2 }, s.0, inl h)

-- what holds of 0, 1 and 2
at_most_two : (P : ℕ → Type 0) → P 0 → P 1 → P 2 → (n : ℕ) → n ≤ 2 → P n
at_most_two P a b c zero h = a
at_most_two P a b c (suc zero) h = b
at_most_two P a b c (suc (suc zero)) h = c
at_most_two P a b c (suc (suc (suc n))) h = absurd (omega arith)

-- comments

pub comment_dash_steps : (opening : Bool) (at c : ℕ) (l : Lexed) → Stands false at l → Follows opening at (codes "<!-" ++ c ∷ []) (comment_dash l c)
comment_dash_steps opening at c l s = at_character (Follows opening at) (codes "<!-") c 0x2D _ _ (inl (s, omega arith, comment_begins (codes "<!--") refl)) (λ _. tt)

pub comment_steps : (opening : Bool) (at c : ℕ) (read : List ℕ) (l : Lexed) (dashes : ℕ) → dashes ≤ 2 → is_char c ≡ true → Stands false at l → InComment dashes read
    → Follows opening at (read ++ c ∷ []) (comment dashes l c)
comment_steps opening at c read l dashes few legal s = at_most_two (λ d. InComment d read → F (read ++ c ∷ []) (comment d l c)) none one two dashes few
  where
    F : List ℕ → Taken → Type 0
    F = Follows opening at

    none : InComment 0 read → F (read ++ c ∷ []) (comment 0 l c)
    none h =
        at_character (λ r d. F r (go (state.Comment d) l)) read c 0x2D 1 0 (inl (s, omega arith, dash_read read h)) (λ e. inl (s, omega arith, comment_goes_on read c legal e h))

    one : InComment 1 read → F (read ++ c ∷ []) (comment 1 l c)
    one h =
        at_character (λ r d. F r (go (state.Comment d) l)) read c 0x2D 2 0 (inl (s, omega arith, comment_dashes read h)) (λ e. inl (s, omega arith, comment_goes_past read c legal e h))

    two : InComment 2 read → F (read ++ c ∷ []) (comment 2 l c)
    two h = at_character F read c 0x3E _ _ (ended opening at (read ++ codes ">") l token.Passed s (comment_ends at read h)) (λ _. tt)

-- CDATA sections

pub cdata_open_steps : (opening : Bool) (at c : ℕ) (l : Lexed) (letters : ℕ) → letters ≤ 5 → Stands false at l
    → Follows opening at (opened letters ++ c ∷ []) (cdata_open letters l c)
cdata_open_steps opening at c l letters few s =
    at_letters (λ n. F (opened n ++ c ∷ []) (cdata_open n l c))
    (step 0 0x43 _ (inl (s, omega arith, refl))) (step 1 0x44 _ (inl (s, omega arith, refl))) (step 2 0x41 _ (inl (s, omega arith, refl)))
    (step 3 0x54 _ (inl (s, omega arith, refl))) (step 4 0x41 _ (inl (s, omega arith, refl))) (step 5 0x5B _ (inl (s, omega arith, cdata_begins (codes "<![CDATA[") refl))) letters few
  where
    F : List ℕ → Taken → Type 0
    F = Follows opening at

    step : (n letter : ℕ) (taken : Taken) → F (opened n ++ letter ∷ []) taken → F (opened n ++ c ∷ []) (if c == letter then taken else None)
    step n letter taken h = at_character F (opened n) c letter taken None h (λ _. tt)

pub cdata_steps : (opening : Bool) (at c : ℕ) (read : List ℕ) (l : Lexed) (brackets : ℕ) (r : Bool) → brackets ≤ 2 → is_char c ≡ true → Stands false at l
    → InCdata brackets r read l.text
    → Follows opening at (read ++ c ∷ []) (cdata brackets r (record l { state = state.Cdata brackets r }) c)
cdata_steps opening at c read l brackets r few legal s =
    at_most_two (λ b. InCdata b r read l.text → F (read ++ c ∷ []) (cdata b r (record l { state = state.Cdata b r }) c)) none one two brackets few
  where
    F : List ℕ → Taken → Type 0
    F = Follows opening at

    none : InCdata 0 r read l.text → F (read ++ c ∷ []) (cdata 0 r (record l { state = state.Cdata 0 r }) c)
    none h =
        at_character F read c 0x5D _ _ (inl (s, omega arith, cdata_bracket read l.text r h)) (λ e.
        cond_both (c == 0x3E && false) (done (token.Cdata l.text) (record l { text = [] })) (cdata_text 0 r l c) (F (read ++ c ∷ []))
        (λ f. absurd (false≢true (and_parts (c == 0x3E) false f).1)) (λ _. inl (s, omega arith, cdata_goes_on read l.text r c legal e h)))

    one : InCdata 1 r read l.text → F (read ++ c ∷ []) (cdata 1 r (record l { state = state.Cdata 1 r }) c)
    one h =
        at_character F read c 0x5D _ _ (inl (s, omega arith, cdata_brackets read l.text r h)) (λ e.
        cond_both (c == 0x3E && false) (done (token.Cdata l.text) (record l { text = [] })) (cdata_text 1 r l c) (F (read ++ c ∷ []))
        (λ f. absurd (false≢true (and_parts (c == 0x3E) false f).1)) (λ _. inl (s, omega arith, cdata_goes_past_one read l.text r c legal e h)))

    two : InCdata 2 r read l.text → F (read ++ c ∷ []) (cdata 2 r (record l { state = state.Cdata 2 r }) c)
    two h =
        at_character F read c 0x5D _ _ (inl (s, omega arith, cdata_more_brackets read l.text r h)) (λ e.
        cond_both (c == 0x3E && true) (done (token.Cdata l.text) (record l { text = [] })) (cdata_text 2 r l c) (F (read ++ c ∷ []))
        (λ f. subst (λ n. F (read ++ n ∷ []) (done (token.Cdata l.text) (record l { text = [] }))) (sym (eqb-true c 0x3E (and_parts (c == 0x3E) true f).0))
        (ended opening at (read ++ codes ">") (record l { text = [] }) (token.Cdata l.text) s (cdata_ends at read l.text r h)))
        (λ f. inl (s, omega arith, cdata_goes_past_two read l.text r c legal e (λ g. both_ways _ f (and_from _ true (eq-eqb c 0x3E g) refl)) h)))

-- instructions

target_ends_steps : (opening : Bool) (at c : ℕ) (read : List ℕ) (l : Lexed) → is_char c ≡ true → (c == 0x3F || is_space c) ≡ true → is_empty l.text ≡ false
    → Stands opening at l → InTarget read l.text
    → Follows opening at (read ++ c ∷ []) (target_ends l c)
target_ends_steps opening at c read l legal set_off some s h =
    cond_both (l.opening && not (c == 0x3F) && is_same l.text (codes "xml")) (go state.TagSpace (record l { opening = false; declares = true; tag = fresh_tag l.begin }))
    otherwise (F (read ++ c ∷ [])) declares (λ _. cond_both (str_eq_ignore_ascii_case l.text (codes "xml")) None other (F (read ++ c ∷ [])) (λ _. tt) plain)
  where
    F : List ℕ → Taken → Type 0
    F = Follows opening at

    other : Taken
    other = go (if c == 0x3F then state.TargetQuestion else state.Instruction false) (record l { opening = false })

    otherwise : Taken
    otherwise = if str_eq_ignore_ascii_case l.text (codes "xml") then None else other

    space : (c == 0x3F) ≡ false → is_space c ≡ true
    space e = ⊎_elim (λ f. absurd (both_ways (c == 0x3F) e f)) (λ f. f) (or_cases (c == 0x3F) (is_space c) set_off)

    declares : (l.opening && not (c == 0x3F) && is_same l.text (codes "xml")) ≡ true
        → F (read ++ c ∷ []) (go state.TagSpace (record l { opening = false; declares = true; tag = fresh_tag l.begin }))
    declares e =
        let f = and_parts (l.opening && not (c == 0x3F)) (is_same l.text (codes "xml")) e in
        let g = and_parts l.opening (not (c == 0x3F)) f.0 in
        inr (inr (
          sym s.0 ∙ g.0,
          subst (λ x. InTag true at (x ++ c ∷ []) (record l { state = state.TagSpace; opening = false; declares = true; tag = fresh_tag l.begin })) (sym (declares_xml read l.text f.1 h))
              (declaration_begins l at c (space (not-true (c == 0x3F) g.1)) s.1),
        ))

    plain : str_eq_ignore_ascii_case l.text (codes "xml") ≡ false → F (read ++ c ∷ []) other
    plain e =
        let t = is_target read l.text some e h in
        at_character (λ r d. F r (go d (record l { opening = false }))) read c 0x3F state.TargetQuestion (state.Instruction false)
        (inl ((refl, s.1, s.2), target_asked read l.text h t)) (λ f. inl ((refl, s.1, s.2), target_spaced read l.text c legal (space f) f h t))

pub target_steps : (opening : Bool) (at c : ℕ) (read : List ℕ) (l : Lexed) → is_char c ≡ true → Stands opening at l → InTarget read l.text
    → Follows opening at (read ++ c ∷ []) (target (record l { state = state.Target }) c)
target_steps opening at c read l legal s h =
    cond_both (is_empty l.text) (if is_name_start c then more else None) (if is_name_char c then more else ends) F
    (λ none. cond_both (is_name_start c) more None F (λ e. inl (s, target_first read l.text c none e h)) (λ _. tt))
    (λ some. cond_both (is_name_char c) more ends F (λ e. inl (s, target_goes_on read l.text c some e h))
    (λ _. cond_both (c == 0x3F || is_space c) (target_ends k c) None F (λ e. target_ends_steps opening at c read k legal e some s h) (λ _. tt)))
  where
    F : Taken → Type 0
    F = Follows opening at (read ++ c ∷ [])

    k : Lexed
    k = record l { state = state.Target }

    more : Taken
    more = Some (record k { text = l.text ++ encode_utf8 c }, None)

    ends : Taken
    ends = if c == 0x3F || is_space c then target_ends k c else None

pub target_question_steps : (opening : Bool) (at c : ℕ) (read : List ℕ) (l : Lexed) → Stands false at l → AfterTarget read
    → Follows opening at (read ++ c ∷ []) (target_question l c)
target_question_steps opening at c read l s h = at_character (Follows opening at) read c 0x3E _ _ (ended opening at (read ++ codes ">") l token.Passed s (target_ended at read h)) (λ _. tt)

pub instruction_steps : (opening : Bool) (at c : ℕ) (read : List ℕ) (l : Lexed) (asked : Bool) → is_char c ≡ true → Stands false at l → InInstruction asked read
    → Follows opening at (read ++ c ∷ []) (instruction asked l c)
instruction_steps opening at c read l true legal s h =
    at_character (Follows opening at) read c 0x3E _ _ (ended opening at (read ++ codes ">") l token.Passed s (instruction_ends at read h)) (λ e. inl (s, instruction_goes_on true read c legal e h))
instruction_steps opening at c read l false legal s h = inl (s, instruction_goes_on false read c legal refl h)

-- end tags

pub end_space_steps : (opening : Bool) (at c : ℕ) (read : List ℕ) (l : Lexed) → Stands false at l → AfterName read l.name → Follows opening at (read ++ c ∷ []) (end_space l c)
end_space_steps opening at c read l s h =
    cond_both (is_space c) _ _ (F (read ++ c ∷ [])) (λ e. inl (s, space_follows read l.name c e h))
    (λ _. at_character F read c 0x3E _ _ (ended opening at (read ++ codes ">") (record l { name = no_name }) (token.End l.name) s (end_tag_ends at read l.name h)) (λ _. tt))
  where
    F : List ℕ → Taken → Type 0
    F = Follows opening at

pub end_name_steps : (opening : Bool) (at c : ℕ) (read : List ℕ) (l : Lexed) (p : NamePart) → Stands false at l → InEndName p read l.name
    → Follows opening at (read ++ c ∷ []) (named_in named.EndTag p (record l { state = state.Name named.EndTag p }) c)
end_name_steps opening at c read l part.Begins s h = cond_both (is_name_start c) _ None (Follows opening at (read ++ c ∷ [])) (λ e. inl (s, name_first read l.name c e h)) (λ _. tt)
end_name_steps opening at c read l part.First s h =
    at_character (Follows opening at) read c 0x3A _ _ (inl (s, colon_follows read l.name h))
    (λ _. cond_both (is_name_char c) _ _ (Follows opening at (read ++ c ∷ [])) (λ e. inl (s, first_goes_on read l.name c e h))
    (λ _. end_space_steps opening at c read (record l { state = state.Name named.EndTag part.First }) s (first_ends read l.name h)))
end_name_steps opening at c read l part.LocalBegins s h = cond_both (is_name_start c) _ None (Follows opening at (read ++ c ∷ [])) (λ e. inl (s, local_first read l.name c e h)) (λ _. tt)
end_name_steps opening at c read l part.Local s h =
    cond_both (is_name_char c) _ _ (Follows opening at (read ++ c ∷ [])) (λ e. inl (s, local_goes_on read l.name c e h))
    (λ _. end_space_steps opening at c read (record l { state = state.Name named.EndTag part.Local }) s (local_ends read l.name h))

-- references

referred_steps : (opening : Bool) (at : ℕ) (read : List ℕ) (l : Lexed) (taken : Taken) → Stands false at l → ReferenceStep place.Content read l taken
    → Follows opening at read taken
referred_steps opening at read l taken s (goes after text number e h) =
    let k = record l { text = text; number = number } in
    subst (Follows opening at read) (sym e) (inl (s, reference_kept after read k (record k { state = state.Reference place.Content after }) refl refl h))
referred_steps opening at read l taken s (ends r legal is_written e) =
    subst (Follows opening at read) (sym e)
    (ended opening at read l (token.Referred (written.character_of r)) s (record { token = written.referred r; is_lexed = legal; is_written = is_written; is_made = refl }))
referred_steps opening at read l taken s (stops e) = subst (Follows opening at read) (sym e) tt

pub content_steps : (opening : Bool) (at c : ℕ) (read : List ℕ) (l : Lexed) (part : ReferencePart) → is_char c ≡ true → Stands false at l → InReference part read l
    → Follows opening at (read ++ c ∷ []) (reference place.Content part l c)
content_steps opening at c read l part legal s h = referred_steps opening at (read ++ c ∷ []) l _ s (reference_steps place.Content part read l c legal h)
